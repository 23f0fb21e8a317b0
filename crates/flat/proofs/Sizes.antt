-- How large B and K get: a kind takes at most two labels and has at most six rows, each of which leaves one rule at most, and node 0, which has no earlier node, takes no label and has no row. By induction on the nodes. Assumes nothing.
use mathlib.Core.Path.{◌≡◌, refl, sym, ap, ap₂, ◌∙◌}
use mathlib.Core.Logic.{inl, inr, ⊎_elim}
use mathlib.Core.Bool.{true, false}
use mathlib.Core.List.{List, [], ◌∷◌, ◌++◌, map}
use Prim.Native.Nat.{ℕ, zero, suc, ◌+◌, ◌*◌, ◌-◌, ◌≤◌, ◌<◌}
use native.Mathlib.Nat.{add-zero, eq-or-lt_of_le}
use native.Mathlib.Omega.{arith}
use lib.ListN.{length, replicate, length-append, length-map}
use lib.Seq.{get_or-append_seam}
use borrow.Author.Tests.{eq-eqb, ne_eqb}
use Rattle.refusal.specs.Limits.{most_atoms, most_nodes, most_roots, most_pairs}
use Rattle.refusal.proofs.Table.{cases}
use Rattle.logic.proofs.Bools.{&&_split, ||-iff}
use Rattle.theory.specs.declared.Kind.{Kind}
use Rattle.theory.specs.declared.Kind.TheVariants.{Atom, Implies}
use Rattle.theory.specs.declared.Node.{Node}
use Rattle.theory.specs.Book.{Book, fits, all_fit, WellFormed}
use Rattle.theory.specs.Used.{all_operands, among, used}
use Rattle.theory.proofs.Books.{fits-left, fits-right}
use Rattle.program.specs.Rule.{RuleOf}
use Rattle.flat.specs.Table.{Slot, rows, label_count}
use Rattle.flat.specs.Flat.{Term, constant, name, removes, simplify, map_rule, instances, fill, term_at, term, fact, facts, rules_from, label_total, pair_rule, flat, largest_b, largest_k}
use Rattle.flat.proofs.ByKind.{label_count_le, rows_le, operands}

-- Node 0 has no row and takes no label: it would have operands.
first_empty : (A : ℕ) (n : Node) → fits A 0 n ≡ true → (rows n.kind ≡ []) × (label_count n.kind ≡ 0)
first_empty A n ok = ⊎_elim (λ e. e) (λ l. absurd (omega arith)) (operands A 0 n.kind n.left n.right (fits-left A 0 n ok) (fits-right A 0 n ok))

-- ---- B

-- Nodes take at most two labels each,
pub label_total_le : (ns : List Node) → label_total ns ≤ 2 * length ns
label_total_le [] = omega arith
label_total_le (n ∷ ns) = omega (arith, label_count_le n.kind, label_total_le ns)

-- and those of a book at most two for each but the first.
labels_fit : (A : ℕ) (ns : List Node) → all_fit A 0 ns ≡ true → label_total ns ≤ 2 * (length ns - 1)
labels_fit A [] ok = omega arith
labels_fit A (n ∷ ns) ok = omega (arith, (first_empty A n (&&_split (fits A 0 n) (all_fit A 1 ns) ok).0).1, label_total_le ns)

pub size_bound : (b : Book) → WellFormed b → b.atoms ≤ most_atoms → length b.nodes ≤ most_nodes → (flat b).size ≤ largest_b
size_bound b ok few-atoms few-nodes = omega (arith, labels_fit b.atoms b.nodes ok.nodes_fit)

-- ---- K

length-simplify : (r : RuleOf Term) → length (simplify r) ≤ 1
length-simplify r = cases (removes r) (λ t. rw t (omega arith)) (λ f. rw f (omega arith))

length-instances : (f : Slot → Term) (rs : List (RuleOf Slot)) → length (instances f rs) ≤ length rs
length-instances f [] = omega arith
length-instances f (r ∷ rs) = rw length-append (omega (arith, length-simplify (map_rule f r), length-instances f rs))

-- A node has at most six rules,
pub kind-rules : (f : Slot → Term) (k : Kind) → length (instances f (rows k)) ≤ 6
kind-rules f k = omega (arith, length-instances f (rows k), rows_le k)

-- a root one fact at most,
length-facts : (ts : List Term) (ks : List ℕ) → length (facts ts ks) ≤ length ks
length-facts ts [] = omega arith
length-facts ts (k ∷ ks) = rw length-append (omega (arith, length-simplify (fact (term_at ts k)), length-facts ts ks))

length-rules_from : (roots : List ℕ) (ts : List Term) (next : ℕ) (ns : List Node) → length (rules_from roots ts next ns) ≤ 6 * length ns + length roots
length-rules_from roots ts next [] = omega (arith, length-facts ts roots)
length-rules_from roots ts next (n ∷ ns) =
    rw length-append
    (omega (
      arith,
      kind-rules (fill (term_at ts n.left) (term_at ts n.right) next) n.kind,
      length-rules_from roots (ts ++ (term next n ∷ [])) (next + label_count n.kind) ns,
    ))

-- and the nodes of a book at most six for each but the first.
rules_fit : (A : ℕ) (roots : List ℕ) (ns : List Node) → all_fit A 0 ns ≡ true → length (rules_from roots [] A ns) ≤ 6 * (length ns - 1) + length roots
rules_fit A roots [] ok = omega (arith, length-facts [] roots)
rules_fit A roots (n ∷ ns) ok =
    rw (first_empty A n (&&_split (fits A 0 n) (all_fit A 1 ns) ok).0).0
    (omega (arith, length-rules_from roots (term A n ∷ []) (A + label_count n.kind) ns))

pub rules_bound : (b : Book) → WellFormed b → length b.nodes ≤ most_nodes → length b.roots ≤ most_roots → length b.pairs ≤ most_pairs
    → length (flat b).rules ≤ largest_k
rules_bound b ok few-nodes few-roots few-pairs =
    rw (length-append, length-map) (omega (arith, rules_fit b.atoms b.roots b.nodes ok.nodes_fit))

-- ---- a book that has as many of both, and uses each of its nodes

-- After node k, n times that the node before implies itself.
abbrev chain : (k n : ℕ) → List Node
chain k zero = []
chain k (suc n) = record { kind = Implies; left = k; right = k } ∷ chain (suc k) n

-- An atom, such a chain behind it, the last node as every root, and as many pairs as may be.
abbrev fullest : Book
fullest = record {
  atoms = most_atoms;
  nodes = record { kind = Atom; left = 0; right = 0 } ∷ chain 0 (most_nodes - 1);
  roots = replicate most_roots (most_nodes - 1);
  pairs = replicate most_pairs (record { first = 0; second = 1 });
}

fullest_well_formed : WellFormed fullest
fullest_well_formed = record { nodes_fit = refl; roots-below = refl; pairs_all_fit = refl }

chain_used : (k n j : ℕ) → k ≤ j → j < k + n → among j (all_operands (chain k n)) ≡ true
chain_used k zero j h l = absurd (omega arith)
chain_used k (suc n) j h l = ⊎_elim
    (λ (e : k ≡ j). rw (eq-eqb j k (sym e)))
    (λ (m : k < j). rw (ne_eqb j k (λ e. omega arith)) (chain_used (suc k) n j m (omega arith)))
    (eq-or-lt_of_le h)

fullest_used : (k : ℕ) → k < most_nodes → used fullest k ≡ true
fullest_used k l = (||-iff (among k (all_operands fullest.nodes)) (among k fullest.roots)).1 (⊎_elim
    (λ (e : suc k ≡ most_nodes). let last : k ≡ most_nodes - 1 = omega arith in inr (rw last))
    (λ (m : suc k < most_nodes). inl (chain_used 0 (most_nodes - 1) k (omega arith) (omega arith)))
    (eq-or-lt_of_le l))

-- A root that has a name leaves its fact, as often as it stands,
roots-rules : (ts : List Term) (k x n : ℕ) → term_at ts k ≡ name x → length (facts ts (replicate n k)) ≡ n
roots-rules ts k x zero e = refl
roots-rules ts k x (suc n) e = rw (length-append, e) (omega (arith, roots-rules ts k x n e))

-- and an implication between names all six rules.
chain_rules : (roots n k : ℕ) (ts : List Term) (next x : ℕ) → length ts ≡ suc k → term_at ts k ≡ name x
    → length (rules_from (replicate roots (k + n)) ts next (chain k n)) ≡ 6 * n + roots
chain_rules roots zero k ts next x long e = rw add-zero (omega (arith, roots-rules ts k x roots e))
chain_rules roots (suc n) k ts next x long e =
    let later : k + suc n ≡ suc k + n = omega arith in
    let rest = chain_rules roots n (suc k) (ts ++ (name next ∷ [])) (next + 2) next (rw length-append (omega arith)) (rw (← long) (get_or-append_seam ts (name next) [] (constant false))) in
    let moved = ap (λ m. length (rules_from (replicate roots m) (ts ++ (name next ∷ [])) (next + 2) (chain (suc k) n))) later ∙ rest in
    rw (length-append, e) (omega (arith, moved))

pub size_reached : (b : Book) × WellFormed b × ((k : ℕ) → k < length b.nodes → used b k ≡ true)
    × (b.atoms ≡ most_atoms) × (length b.nodes ≡ most_nodes) × ((flat b).size ≡ largest_b)
size_reached = (fullest, fullest_well_formed, fullest_used, refl, refl, refl)

pub rules_reached : (b : Book) × WellFormed b × ((k : ℕ) → k < length b.nodes → used b k ≡ true)
    × (length b.nodes ≡ most_nodes) × (length b.roots ≡ most_roots) × (length b.pairs ≡ most_pairs) × (length (flat b).rules ≡ largest_k)
rules_reached =
    let nodes = rules_from fullest.roots [] fullest.atoms fullest.nodes in
    let of-nodes = chain_rules most_roots (most_nodes - 1) 0 (name 0 ∷ []) most_atoms 0 refl refl in
    let all = length-append nodes (map pair_rule fullest.pairs) ∙ ap₂ ◌+◌ of-nodes (length-map fullest.pairs pair_rule) in
    (fullest, fullest_well_formed, fullest_used, refl, refl, refl, all)

-- Laws of what the loops have after so many turns: one turn more, and after the last turn the flat program. By induction on the nodes. Assumes nothing.
use mathlib.Core.Path.{◌≡◌, refl, sym, ap, ap₂, ◌∙◌}
use mathlib.Core.List.{List, [], ◌∷◌, ◌++◌, append_assoc, append-nil}
use Prim.Native.Nat.{ℕ, zero, suc, ◌+◌, ◌≤◌, ◌<◌}
use native.Mathlib.Decide.{le_ind}
use native.Mathlib.Nat.{add-zero, add_assoc}
use native.Mathlib.Numerals.{add-one}
use native.Mathlib.Omega.{arith}
use lib.ListN.{get_or, length, length-append}
use Rattle.wire.specs.Sequence.{up_to}
use Rattle.wire.proofs.Sequence.{up_to-none, up_to_more, map-up_to}
use Rattle.theory.specs.declared.Kind.{Kind}
use Rattle.theory.specs.declared.Kind.TheVariants.{False, True, Atom, Not, And, Or, Implies}
use Rattle.theory.specs.declared.Node.{Node}
use Rattle.theory.specs.Image.{atom_count, node_count, root_count, pair_count, node_section, root_section, pair_section, node_in, root_in, pair_in, book_of}
use Rattle.program.specs.Rule.{RuleOf}
use Rattle.flat.specs.Table.{Slot, label_count}
use Rattle.flat.specs.Flat.{Term, simplify, map_rule, instances, term_at, node_rules, term, fact, facts, pair_rule, rules_from, label_total, flat}
use Rattle.table.specs.Shapes.{shape_rule, kind_shapes}
use Rattle.table.specs.OneRule.{filled, rule_in}
use Rattle.translation.specs.Turns.{terms_from, nodes_rules, next_to, terms_to, rules_to, facts_to, pairs_to, kind_rules, rows_to, label_bytes, labels_to}

-- Lists that grow by one part at each turn.
pub record Grows {S : Type 0} (whole part : ℕ → List S) : Type 0 where
  pub more : (k : ℕ) → whole (k + 1) ≡ whole k ++ part k

-- ---- one node more, behind a list of nodes

label_total_more : (ns : List Node) (n : Node) → label_total (ns ++ (n ∷ [])) ≡ label_total ns + label_count n.kind
label_total_more [] n = omega arith
label_total_more (m ∷ ns) n = rw (label_total_more ns n) (omega arith)

terms_from_more : (ts : List Term) (next : ℕ) (ns : List Node) (n : Node)
    → terms_from ts next (ns ++ (n ∷ [])) ≡ terms_from ts next ns ++ (term (next + label_total ns) n ∷ [])
terms_from_more ts next [] n = rw add-zero
terms_from_more ts next (m ∷ ns) n = rw (← add_assoc) (terms_from_more (ts ++ (term next m ∷ [])) (next + label_count m.kind) ns n)

nodes_rules_more : (ts : List Term) (next : ℕ) (ns : List Node) (n : Node)
    → nodes_rules ts next (ns ++ (n ∷ [])) ≡ nodes_rules ts next ns ++ node_rules (terms_from ts next ns) (next + label_total ns) n
nodes_rules_more ts next [] n = rw (add-zero, append-nil)
nodes_rules_more ts next (m ∷ ns) n =
    rw (← add_assoc, append_assoc) (ap (λ l. node_rules ts next m ++ l) (nodes_rules_more (ts ++ (term next m ∷ [])) (next + label_count m.kind) ns n))

-- The rules of the nodes, and then the facts of the roots.
rules_from_parts : (roots : List ℕ) (ts : List Term) (next : ℕ) (ns : List Node)
    → rules_from roots ts next ns ≡ nodes_rules ts next ns ++ facts (terms_from ts next ns) roots
rules_from_parts roots ts next [] = refl
rules_from_parts roots ts next (n ∷ ns) =
    rw append_assoc (ap (λ l. node_rules ts next n ++ l) (rules_from_parts roots (ts ++ (term next n ∷ [])) (next + label_count n.kind) ns))

-- ---- one turn more

module _ (A : ℕ) (s : List ℕ) where
  pub next_to-none : next_to A s 0 ≡ A
  unfolding next_to
  next_to-none = rw up_to-none (add-zero A)

  pub next_to_more : (k : ℕ) → next_to A s (k + 1) ≡ next_to A s k + label_count (node_in s k).kind
  unfolding next_to
  next_to_more k = rw (up_to_more, label_total_more) (sym (add_assoc A _ _))

  -- The same from what a turn has of the node.
  pub next_more : (k : ℕ) {next labels : ℕ} {n : Node} → next ≡ next_to A s k → n ≡ node_in s k → labels ≡ label_count n.kind → next + labels ≡ next_to A s (k + 1)
  next_more k e f g = rw (next_to_more, e, g, f)

  pub terms_to-none : terms_to A s 0 ≡ []
  unfolding terms_to
  terms_to-none = rw up_to-none

  pub terms_to_more : (k : ℕ) → terms_to A s (k + 1) ≡ terms_to A s k ++ (term (next_to A s k) (node_in s k) ∷ [])
  unfolding next_to terms_to
  terms_to_more k = rw up_to_more (terms_from_more [] A (up_to (node_in s) k) (node_in s k))

  pub rules_to-none : rules_to A s 0 ≡ []
  unfolding rules_to
  rules_to-none = rw up_to-none

  pub rules_grow : Grows (rules_to A s) (λ k. node_rules (terms_to A s k) (next_to A s k) (node_in s k))
  unfolding next_to terms_to rules_to
  rules_grow = record { more = λ k. rw up_to_more (nodes_rules_more [] A (up_to (node_in s) k) (node_in s k)) }

  pub length-terms_to : (k : ℕ) → length (terms_to A s k) ≡ k
  length-terms_to zero = ap length terms_to-none
  length-terms_to (suc k) = rw (← add-one, terms_to_more, length-append) (omega (arith, length-terms_to k))

module _ (f : ℕ → Term) (s : List ℕ) where
  pub facts_to-none : facts_to f s 0 ≡ []
  unfolding facts_to
  facts_to-none = refl

  pub facts_grow : Grows (facts_to f s) (λ i. simplify (fact (f (root_in s i))))
  unfolding facts_to
  facts_grow = record { more = λ i. rw add-one }

pub pairs_grow : (s : List ℕ) → Grows (pairs_to s) (λ i. pair_rule (pair_in s i) ∷ [])
pairs_grow s = record { more = up_to_more (λ i. pair_rule (pair_in s i)) }

facts_more : (ts : List Term) (ks : List ℕ) (k : ℕ) → facts ts (ks ++ (k ∷ [])) ≡ facts ts ks ++ simplify (fact (term_at ts k))
facts_more ts [] k = append-nil _
facts_more ts (j ∷ ks) k = rw append_assoc (ap (λ l. simplify (fact (term_at ts j)) ++ l) (facts_more ts ks k))

-- The facts of the roots, by terms that agree at the roots.
facts_are : (ts : List Term) (f : ℕ → Term) (s : List ℕ) (n : ℕ) → ((i : ℕ) → i < n → f (root_in s i) ≡ term_at ts (root_in s i))
    → facts ts (up_to (root_in s) n) ≡ facts_to f s n
unfolding facts_to
facts_are ts f s zero h = rw up_to-none
facts_are ts f s (suc n) h =
    rw (← add-one, up_to_more, facts_more)
    (ap₂ ◌++◌ (facts_are ts f s n (λ i l. h i (omega arith))) (ap (λ t. simplify (fact t)) (sym (h n (omega arith)))))

instances_more : (f : Slot → Term) (rs : List (RuleOf Slot)) (r : RuleOf Slot) → instances f (rs ++ (r ∷ [])) ≡ instances f rs ++ simplify (map_rule f r)
instances_more f [] r = append-nil _
instances_more f (q ∷ rs) r = rw append_assoc (ap (λ l. simplify (map_rule f q) ++ l) (instances_more f rs r))

module _ (terms : List ℕ) where
  pub rows_to-none : (kind : Kind) → rows_to terms kind 0 ≡ []
  unfolding rows_to
  rows_to-none kind = rw up_to-none

  pub rows_grow : (kind : Kind) → Grows (rows_to terms kind) (λ j. simplify (rule_in (get_or (kind_shapes kind) j []) terms))
  unfolding rows_to
  rows_grow kind = record { more = λ j. rw up_to_more (instances_more (filled terms) _ (shape_rule (get_or (kind_shapes kind) j []))) }

  -- After the last row they are the kind's rules.
  pub rows_to-all : (kind : Kind) → rows_to terms kind (length (kind_shapes kind)) ≡ kind_rules terms kind
  unfolding rows_to up_to
  rows_to-all False = refl
  rows_to-all True = refl
  rows_to-all Atom = refl
  rows_to-all Not = refl
  rows_to-all And = refl
  rows_to-all Or = refl
  rows_to-all Implies = refl

module _ (values s : List ℕ) where
  pub labels_to-none : labels_to values s 0 ≡ []
  unfolding labels_to
  labels_to-none = refl

  pub labels_grow : Grows (labels_to values s) (label_bytes values s)
  unfolding labels_to
  labels_grow = record { more = λ k. rw add-one }

-- Of such lists the last holds each with its part.
pub grown : {S : Type 0} {whole part : ℕ → List S} → Grows whole part → (k n : ℕ) → k < n → length (whole k) + length (part k) ≤ length (whole n)
grown {whole = whole} {part = part} g k n h =
    le_ind (λ m. length (whole k) + length (part k) ≤ length (whole m)) (rw (← add-one, g.more, length-append) (omega arith))
    (λ m l e. rw (← add-one, g.more, length-append) (omega arith)) n h

-- ---- after the last turn

pub flat-size : (t : List ℕ) → (flat (book_of t)).size ≡ next_to (atom_count t) (node_section t) (node_count t)
unfolding book_of next_to
flat-size t = refl

pub flat-rules : (t : List ℕ) (f : ℕ → Term)
    → ((i : ℕ) → i < root_count t → f (root_in (root_section t) i) ≡ term_at (terms_to (atom_count t) (node_section t) (node_count t)) (root_in (root_section t) i))
    → (flat (book_of t)).rules
    ≡ (rules_to (atom_count t) (node_section t) (node_count t) ++ facts_to f (root_section t) (root_count t)) ++ pairs_to (pair_section t) (pair_count t)
unfolding book_of terms_to rules_to
flat-rules t f h =
    ap₂ ◌++◌
    (rules_from_parts (up_to (root_in (root_section t)) (root_count t)) [] (atom_count t) (up_to (node_in (node_section t)) (node_count t))
    ∙ ap (λ l. rules_to (atom_count t) (node_section t) (node_count t) ++ l) (facts_are _ f (root_section t) (root_count t) h))
    (map-up_to pair_rule (pair_in (pair_section t)) (pair_count t))

-- Laws of the nodes that are used, and of their marks: an operand is an earlier node, and what is not marked in the end is not used. By cases on the kind, and by induction on the nodes and on what is marked.
use Rattle.std.proofs.Common.{position, length-take-le, get_or-take}
use mathlib.Core.Path.{◌≡◌, refl, sym, ap, ◌∙◌}
use mathlib.Core.Logic.{◌↔◌, ◌⊎◌, inl, inr, ⊎_elim}
use mathlib.Core.Bool.{Bool, true, false, not, ◌||◌, cond, false≢true}
use mathlib.Core.List.{List, [], ◌∷◌, ◌++◌, append_assoc, append-nil}
use mathlib.Core.List.Memᴰ
use mathlib.Core.List.{Memᴰ}
use Prim.Native.Nat.{ℕ, zero, suc, ◌+◌, ◌≤◌, ◌<◌}
use native.Mathlib.Nat.{zero-add}
use native.Mathlib.Omega.{arith}
use lib.Dec.{eqb, ltb}
use lib.ListN.{length, get_or, set, take, replicate, length-set, length-replicate, get_or-replicate}
use lib.Seq.{get_or-set_same, get_or-set_other}
use borrow.Author.Tests.{lt-ltb, ltb-true, eq-eqb, eqb-true, eqb-false}
use Rattle.refusal.specs.First.{found}
use Rattle.refusal.proofs.First.{first_equal, below, position-below, found-below}
use Rattle.refusal.proofs.Table.{cases}
use Rattle.logic.proofs.Bools.{&&_split, &&_join, ||-iff}
use Rattle.wire.specs.Wire.{all_below}
use Rattle.wire.specs.Sequence.{up_to}
use Rattle.wire.proofs.Laws.{all_below_at, all_below-each}
pub use Rattle.wire.proofs.Sequence.{up_to-none, up_to_more}
use Rattle.theory.specs.declared.Kind.{Kind}
use Rattle.theory.specs.declared.Kind.TheVariants.{False, True, Atom, Not, And, Or, Implies}
use Rattle.theory.specs.declared.Node.{Node}
use Rattle.theory.specs.Book.{Book, node_at, left_limit, right_limit, fits, WellFormed}
use Rattle.theory.specs.Used.{operands_of, operands, all_operands, among, used}
use Rattle.theory.specs.Marks.{marked}
use Rattle.theory.proofs.Books.{fits-left, fits-right, all_fit_at}

operands_of-below : (A k : ℕ) (kind : Kind) (l r : ℕ) → l < left_limit A k kind → r < right_limit k kind → all_below k (operands_of kind l r) ≡ true
operands_of-below A k False l r h g = refl
operands_of-below A k True l r h g = refl
operands_of-below A k Atom l r h g = refl
operands_of-below A k Not l r h g = &&_join (lt-ltb l k h) refl
operands_of-below A k And l r h g = &&_join (lt-ltb l k h) (&&_join (lt-ltb r k g) refl)
operands_of-below A k Or l r h g = &&_join (lt-ltb l k h) (&&_join (lt-ltb r k g) refl)
operands_of-below A k Implies l r h g = &&_join (lt-ltb l k h) (&&_join (lt-ltb r k g) refl)

-- What is below a number is below a larger one.
all_below_more : (k m : ℕ) (ks : List ℕ) → k ≤ m → all_below k ks ≡ true → all_below m ks ≡ true
all_below_more k m ks h below = all_below-each m ks (λ i l. omega (arith, all_below_at k ks below i l))

-- The operands of node k are earlier nodes, where it keeps to its row.
pub operands-below : (A k : ℕ) (n : Node) → fits A k n ≡ true → all_below k (operands n) ≡ true
operands-below A k n ok = operands_of-below A k n.kind n.left n.right (fits-left A k n ok) (fits-right A k n ok)

-- So they are among so many nodes as it is.
pub operands-within : (A k m : ℕ) (n : Node) → k ≤ m → fits A k n ≡ true → all_below m (operands n) ≡ true
operands-within A k m n h ok = all_below_more k m (operands n) h (operands-below A k n ok)

all_below_in : (n : ℕ) (ks : List ℕ) (k : ℕ) → all_below n ks ≡ true → Memᴰ k ks → k < n
all_below_in n [] k ok m = absurd (Memᴰ.not-nil m)
all_below_in n (j ∷ ks) k ok m =
    let both = &&_split (ltb j n) (all_below n ks) ok in
    ⊎_elim (λ e. rw e (ltb-true j n both.0)) (all_below_in n ks k both.1) (Memᴰ.cases_cons m)

all_operands_snoc : (ns : List Node) (n : Node) → all_operands (ns ++ (n ∷ [])) ≡ all_operands ns ++ operands n
all_operands_snoc [] n = append-nil (operands n)
all_operands_snoc (m ∷ ns) n = rw (all_operands_snoc ns n, append_assoc)

-- One node more has its operands beside those of the nodes before it.
pub all_operands-up_to : (f : ℕ → Node) (k : ℕ) → all_operands (up_to f (k + 1)) ≡ all_operands (up_to f k) ++ operands (f k)
all_operands-up_to f k = rw up_to_more (all_operands_snoc (up_to f k) (f k))

-- ---- what it is to be used

among_iff : (k : ℕ) (ks : List ℕ) → (among k ks ≡ true) ↔ Memᴰ k ks
among_iff k [] = (λ h. absurd (false≢true h), λ m. absurd (Memᴰ.not-nil m))
among_iff k (j ∷ ks) = (
  λ h. ⊎_elim (λ e. Memᴰ.head (eqb-true k j e)) (λ l. Memᴰ.tail ((among_iff k ks).0 l)) ((||-iff (eqb k j) (among k ks)).0 h),
  λ m. (||-iff (eqb k j) (among k ks)).1 (⊎_elim (λ e. inl (eq-eqb k j e)) (λ l. inr ((among_iff k ks).1 l)) (Memᴰ.cases_cons m)),
)

-- An operand of all nodes is one of some node.
operand_of : (ns : List Node) (k : ℕ) → Memᴰ k (all_operands ns) → (j : ℕ) × (j < length ns) × Memᴰ k (operands (node_at ns j))
operand_of [] k m = absurd (Memᴰ.not-nil m)
operand_of (n ∷ ns) k m = ⊎_elim
    (λ h. (0, omega arith, h))
    (λ l. let of = operand_of ns k l in (suc of.0, omega (arith, of.1), of.2))
    (Memᴰ.append_cases (operands n) m)

of_operand : (ns : List Node) (j k : ℕ) → j < length ns → Memᴰ k (operands (node_at ns j)) → Memᴰ k (all_operands ns)
of_operand [] j k h m = absurd (omega arith)
of_operand (n ∷ ns) zero k h m = Memᴰ.append_left (all_operands ns) m
of_operand (n ∷ ns) (suc j) k h m = Memᴰ.append_right (operands n) (of_operand ns j k (omega arith) m)

-- A node of a well-formed book is used exactly if it is a root or an operand of a later node.
pub used_iff : (b : Book) → WellFormed b → (k : ℕ)
    → (used b k ≡ true) ↔ (Memᴰ k b.roots ⊎ ((j : ℕ) × (k < j) × (j < length b.nodes) × Memᴰ k (operands (node_at b.nodes j))))
used_iff b ok k =
    let split = ||-iff (among k (all_operands b.nodes)) (among k b.roots) in
    let later : (j : ℕ) → j < length b.nodes → Memᴰ k (operands (node_at b.nodes j)) → k < j
    = λ j l m. all_below_in j _ k (operands-below b.atoms j (node_at b.nodes j) (rw zero-add at (all_fit_at b.atoms 0 b.nodes ok.nodes_fit j l))) m in (
      λ h. ⊎_elim
          (λ o. let of = operand_of b.nodes k ((among_iff k (all_operands b.nodes)).0 o) in inr (of.0, later of.0 of.1 of.2, of.1, of.2))
          (λ r. inl ((among_iff k b.roots).0 r))
          (split.0 h),
      λ h. split.1 (⊎_elim
          (λ r. inr ((among_iff k b.roots).1 r))
          (λ o. inl ((among_iff k (all_operands b.nodes)).1 (of_operand b.nodes o.0 k o.2 o.3)))
          h),
    )

-- ---- marks

-- Marking keeps the length,
pub length_marked : (ks marks : List ℕ) → length (marked ks marks) ≡ length marks
length_marked [] marks = refl
length_marked (k ∷ ks) marks = length_marked ks (set marks k 1) ∙ length-set marks k 1

-- may be done in two stretches,
pub marked_append : (ks js marks : List ℕ) → marked (ks ++ js) marks ≡ marked js (marked ks marks)
marked_append [] js marks = refl
marked_append (k ∷ ks) js marks = marked_append ks js (set marks k 1)

-- and leaves a 1 at each of the numbers, and elsewhere what was there.
pub marked_at : (ks marks : List ℕ) (k : ℕ) → k < length marks → get_or (marked ks marks) k 0 ≡ cond (among k ks) 1 (get_or marks k 0)
marked_at [] marks k h = refl
marked_at (j ∷ ks) marks k h =
    marked_at ks (set marks j 1) k (rw length-set h)
    ∙ cases (eqb k j)
    (λ t. let e = eqb-true k j t in rw (t, ← e, get_or-set_same marks k 1 0 h) (cases (among k ks) (λ m. rw m) (λ m. rw m)))
    (λ f. rw (f, get_or-set_other marks j k 1 0 (eqb-false k j f)))

-- What a tactic needs of one turn more.
pub ruleset mark_steps = (up_to-none, up_to_more, all_operands-up_to, marked_append)

-- So where nothing was marked before, the first number that is not marked is the first that is not among them.

mark_test : (x y : Bool) → eqb (cond y 1 (cond x 1 0)) 0 ≡ not (x || y)
mark_test true true = refl
mark_test true false = refl
mark_test false true = refl
mark_test false false = refl

pub unmarked_unused : (ks js : List ℕ) (M N : ℕ) → N ≤ M
    → position (λ mark. eqb mark 0) (take N (marked js (marked ks (replicate M 0)))) ≡ found (λ k. not (among k ks || among k js)) N
unmarked_unused ks js M N h =
    let none : List ℕ = replicate M 0 in
    let marks : List ℕ = marked js (marked ks none) in
    let long : length (take N marks) ≡ N = length-take-le N marks (simp (length_marked, length-replicate) h) in
    position-below (λ mark. eqb mark 0) 0 (take N marks)
    ∙ rw long (ap (λ k. below k N) (first_equal _ _ N (λ k l.
    let within : k < length none = rw length-replicate (omega arith) in
    rw (get_or-take, marked_at js (marked ks none) k (rw length_marked within), marked_at ks none k within, get_or-replicate {A = ℕ} M k 0 0 (omega arith)) (mark_test (among k ks) (among k js)))))
    ∙ sym (found-below (λ k. not (among k ks || among k js)) N)

-- Laws of a book's nodes and their formulas: a node's formula stands at its number and stays there. By induction on the nodes.
use mathlib.Core.Path.{◌≡◌, refl, sym, ◌∙◌}
use mathlib.Core.Bool.{true}
use mathlib.Core.List.{List, [], ◌∷◌, ◌++◌}
use Prim.Native.Nat.{ℕ, zero, suc, ◌+◌, ◌<◌}
use native.Mathlib.Nat.{add-zero}
use native.Mathlib.Omega.{arith}
use lib.ListN.{length, take, drop, length-append, get_or-append}
use lib.Seq.{get_or-append_seam}
use borrow.Author.Tests.{ltb-true}
use Rattle.logic.specs.Formula.{Formula, falsum}
use Rattle.logic.proofs.Bools.{&&_split, &&_join}
use Rattle.wire.specs.Sequence.{up_to}
use Rattle.wire.proofs.Sequence.{up_to_more}
use Rattle.theory.specs.declared.Node.{Node}
use Rattle.theory.specs.Book.{node_at, left_limit, right_limit, left_fits, right_fits, fits, all_fit, formula_at, formula, formulas}

-- Left and right of a node that fits are below their limits.
pub fits-left : (A k : ℕ) (n : Node) → fits A k n ≡ true → n.left < left_limit A k n.kind
fits-left A k n h = ltb-true _ _ (&&_split (left_fits A k n) (right_fits k n) h).0

pub fits-right : (A k : ℕ) (n : Node) → fits A k n ≡ true → n.right < right_limit k n.kind
fits-right A k n h = ltb-true _ _ (&&_split (left_fits A k n) (right_fits k n) h).1

-- Each node of a list keeps to its row where all do.
pub all_fit_at : (A i : ℕ) (ns : List Node) → all_fit A i ns ≡ true → (k : ℕ) → k < length ns → fits A (i + k) (node_at ns k) ≡ true
all_fit_at A i [] ok k h = absurd (omega arith)
all_fit_at A i (n ∷ ns) ok zero h = rw add-zero (&&_split (fits A i n) (all_fit A (suc i) ns) ok).0
all_fit_at A i (n ∷ ns) ok (suc k) h =
    let e : suc i + k ≡ i + suc k = omega arith in
    rw e at (all_fit_at A (suc i) ns (&&_split (fits A i n) (all_fit A (suc i) ns) ok).1 k (omega arith))

-- And all do where each does.
pub all_fit-each : (A i : ℕ) (ns : List Node) → ((k : ℕ) → k < length ns → fits A (i + k) (node_at ns k) ≡ true) → all_fit A i ns ≡ true
all_fit-each A i [] h = refl
all_fit-each A i (n ∷ ns) h =
    &&_join (rw add-zero at (h 0 (omega arith))) (all_fit-each A (suc i) ns (λ k l. let e : suc i + k ≡ i + suc k = omega arith in rw e (h (suc k) (omega arith))))

pub length-formulas : (fs : List Formula) (ns : List Node) → length (formulas fs ns) ≡ length fs + length ns
length-formulas fs [] = sym (add-zero (length fs))
length-formulas fs (n ∷ ns) = length-formulas (fs ++ (formula fs n ∷ [])) ns ∙ rw length-append (omega arith)

-- Later nodes leave the formulas of earlier ones.
pub formulas-keep : (fs : List Formula) (ns : List Node) (j : ℕ) → j < length fs → formula_at (formulas fs ns) j ≡ formula_at fs j
formulas-keep fs [] j h = refl
formulas-keep fs (n ∷ ns) j h =
    formulas-keep (fs ++ (formula fs n ∷ [])) ns j (rw length-append (omega arith)) ∙ get_or-append fs (formula fs n ∷ []) falsum j h

-- The formulas of all nodes are those of the first k, and then those of the rest.
pub formulas_split : (fs : List Formula) (ns : List Node) (k : ℕ) → formulas fs ns ≡ formulas (formulas fs (take k ns)) (drop k ns)
formulas_split fs ns zero = refl
formulas_split fs [] (suc k) = refl
formulas_split fs (n ∷ ns) (suc k) = formulas_split (fs ++ (formula fs n ∷ [])) ns k

-- Node k has its formula at its number.
pub formulas_at : (fs : List Formula) (ns : List Node) (k : ℕ) → k < length ns
    → formula_at (formulas fs ns) (length fs + k) ≡ formula (formulas fs (take k ns)) (node_at ns k)
formulas_at fs [] k h = absurd (omega arith)
formulas_at fs (n ∷ ns) zero h =
    rw add-zero (formulas-keep (fs ++ (formula fs n ∷ [])) ns (length fs) (rw length-append (omega arith)) ∙ get_or-append_seam fs (formula fs n) [] falsum)
formulas_at fs (n ∷ ns) (suc k) h =
    let fs' = fs ++ (formula fs n ∷ []) in
    let e : length fs' + k ≡ length fs + suc k = rw length-append (omega arith) in
    rw e at (formulas_at fs' ns k (omega arith))

-- One node more has one formula more, made of those before it.
formulas_snoc : (fs : List Formula) (ns : List Node) (n : Node) → formulas fs (ns ++ (n ∷ [])) ≡ formulas fs ns ++ (formula (formulas fs ns) n ∷ [])
formulas_snoc fs [] n = refl
formulas_snoc fs (m ∷ ns) n = formulas_snoc (fs ++ (formula fs m ∷ [])) ns n

-- The same for the first nodes of a sequence.
pub formulas-up_to : (fs : List Formula) (f : ℕ → Node) (k : ℕ)
    → formulas fs (up_to f (k + 1)) ≡ formulas fs (up_to f k) ++ (formula (formulas fs (up_to f k)) (f k) ∷ [])
formulas-up_to fs f k = rw up_to_more (formulas_snoc fs (up_to f k) (f k))

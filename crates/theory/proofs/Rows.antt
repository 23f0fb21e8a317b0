-- A theory's rows have numbers of their own, computed from the definitions; what the place of row 6 names, by the laws of the first such number; and what a search decides of its row. Assumes nothing.
use Rattle.std.proofs.Common.{Some, None, Result, sym}
use Rattle.std.specs.Result.{IsErrAnd}
use Rattle.std.proofs.lemmas.Result.{err_from_is_err_and}
use mathlib.Core.Path.{◌≡◌, refl}
use mathlib.Core.Bool.{Bool, true}
use mathlib.Core.List.{List, [], ◌∷◌}
use Prim.Native.Nat.{ℕ, ◌/◌, ◌%◌}
use native.Mathlib.Omega.{arith}
use Rattle.refusal.specs.Table.{Row, refused, answer, none, numbered}
use Rattle.refusal.specs.First.{first, found, first_such, FirstAt}
use Rattle.refusal.specs.Refusal.{refused_for, Decides}
use Rattle.refusal.specs.declared.Refusal.{Refusal}
use Rattle.refusal.proofs.Table.{reached_first, reached_none}
use Rattle.refusal.proofs.First.{first_is, found-below, searched-refused, searched_next}
use Rattle.theory.specs.Image.{atom_count, node_count, node_section, field_wrong, first_wrong, breaks}
use Rattle.theory.specs.Rows.{row6, header_rows, form_rows, theory_rows}

pub numbered-header_rows : (t : List ℕ) → numbered (header_rows t) ≡ true
unfolding header_rows
numbered-header_rows t = refl

pub numbered-form_rows : (t : List ℕ) → numbered (form_rows t) ≡ true
unfolding form_rows header_rows
numbered-form_rows t = refl

pub numbered-theory_rows : (t : List ℕ) → numbered (theory_rows t) ≡ true
unfolding theory_rows form_rows header_rows
numbered-theory_rows t = refl

-- The place of row 6, divided by 8, is the first node that breaks its row, and its remainder is the first of that node's fields that is wrong.
pub row6-first : (t : List ℕ) → (row6 t).applies ≡ true → let node = (row6 t).place / 8 in
    FirstAt (breaks (atom_count t) (node_section t)) (node_count t) node × FirstAt (field_wrong (atom_count t) (node_section t) node) 4 ((row6 t).place % 8)
row6-first t h =
    let A = atom_count t in
    let s = node_section t in
    let node = first_is (breaks A s) (node_count t) h in
    let field = first_is (field_wrong A s (first (breaks A s) (node_count t))) 4 node.holds in
    let at : (row6 t).place / 8 ≡ first (breaks A s) (node_count t) = omega (arith, field.below) in
    let in-it : (row6 t).place % 8 ≡ first_wrong A s (first (breaks A s) (node_count t)) = omega (arith, field.below) in
    rw (in-it, at) (node, field)

-- What is found is its row's place, and where nothing is found its row does not apply.
module _ (number : ℕ) (test : ℕ → Bool) (n : ℕ) where
  pub searched_some : (k : ℕ) → Some k ≡ found test n → refused number k ≡ answer (first_such number test n ∷ []) 0
  searched_some k e = searched-refused number (λ j. j) test n (found-below test n) (reached_first (first_such number test n ∷ []) 0) k (sym e) refl

  pub searched_none : None ≡ found test n → none (first_such number test n ∷ []) ≡ true
  searched_none e = reached_none (searched_next number (λ j. j) test n (found-below test n) (reached_first (first_such number test n ∷ []) 0) (sym e))

-- A refusal that `?` hands on is decided as before.
pub handed_on : {A : Type 0} (rows : List Row) (why : Refusal) (outcome : Result A Refusal) → IsErrAnd outcome (λ e. e ≡ why) → refused_for why ≡ answer rows 0 → Decides rows outcome
handed_on rows why outcome h e = let p = err_from_is_err_and outcome h in rw (p.1, p.2) e

-- Laws of the rows about a call's arguments, each from the definition of its row. Assumes nothing.
use Rattle.std.proofs.Common.{count_by, add_comm, add-one}
use Rattle.std.proofs.lemmas.List.Recursion.{is_count_by}
use mathlib.Core.Path.{◌≡◌, refl}
use mathlib.Core.Bool.{Bool, true, false}
use mathlib.Core.List.{List}
use Prim.Native.Nat.{ℕ, ◌<◌}
use lib.Dec.{eqb}
use lib.ListN.{length, get_or}
use borrow.Author.Tests.{not-false, eqb-true, eq-eqb}
use Rattle.refusal.specs.Table.{none, numbered}
use Rattle.refusal.specs.Rows.{count_true, wrong, argument_rows}
use Rattle.refusal.proofs.Table.{none_at}
use Rattle.refusal.proofs.First.{first-none}

-- rows 9 and 10 have numbers of their own
pub numbered-argument_rows : (candidate : Bool) (count : ℕ) (bytes : List ℕ) → numbered (argument_rows candidate count bytes) ≡ true
unfolding argument_rows
numbered-argument_rows candidate count bytes = refl

-- where neither applies, the length is the atom count and no byte is wrong
pub none-argument_rows : (candidate : Bool) (count : ℕ) (bytes : List ℕ) → none (argument_rows candidate count bytes) ≡ true
    → (length bytes ≡ count) × ((i : ℕ) → i < length bytes → wrong candidate (get_or bytes i 0) ≡ false)
unfolding argument_rows
none-argument_rows candidate count bytes h =
    let clear = none_at (argument_rows candidate count bytes) h in
    (eqb-true _ _ (not-false _ (clear 0)), (first-none _ _).0 (clear 1))

-- and where that is so, neither applies
pub argument_rows-none : (candidate : Bool) (count : ℕ) (bytes : List ℕ) → length bytes ≡ count
    → ((i : ℕ) → i < length bytes → wrong candidate (get_or bytes i 0) ≡ false) → none (argument_rows candidate count bytes) ≡ true
unfolding argument_rows
argument_rows-none candidate count bytes e h = rw (eq-eqb (length bytes) count e, (first-none (λ i. wrong candidate (get_or bytes i 0)) (length bytes)).1 h)

-- they are counted as the library counts
pub count_true-count_by : (bytes : List ℕ) → count_true bytes ≡ count_by (λ byte. eqb byte 2) bytes
unfolding count_true
count_true-count_by = is_count_by count_true (λ byte. eqb byte 2) refl (λ byte bytes. rw (add_comm 1 (count_true bytes), add-one) refl)

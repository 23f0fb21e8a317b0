-- A candidate's rows, 9, 10 and 11, behind those of an image none of which applies. From the laws of an answer. Assumes nothing.
use Rattle.std.proofs.Common.{◌≡◌, sym, ◌∙◌, true, List, [], ◌∷◌, ◌++◌, ℕ, ◌≤◌}
use borrow.Author.Tests.{le-ltb}
use Rattle.refusal.specs.Limits.{most_true}
use Rattle.refusal.specs.Table.{Row, accepted, answer, none}
use Rattle.refusal.specs.Rows.{candidate_rows, count_true}
use Rattle.refusal.proofs.Table.{answer_both, none_past}
use Rattle.rulebook.specs.Calls.{row11_true}

-- Where none of them applies either, the result is accepted.
pub candidate_accepted : (rs : List Row) → none rs ≡ true → (n : ℕ) (c : List ℕ) (y : ℕ) → none (candidate_rows n c) ≡ true → count_true c ≤ most_true
    → accepted y ≡ answer (rs ++ (candidate_rows n c ++ (row11_true c ∷ []))) y
candidate_accepted rs clear n c y m l =
    sym (answer_both rs (candidate_rows n c ++ (row11_true c ∷ [])) y clear (none_past (candidate_rows n c) (row11_true c ∷ []) m ∙ rw (le-ltb most_true (count_true c) l)))

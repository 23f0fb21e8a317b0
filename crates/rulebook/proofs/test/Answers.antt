-- `test` tries a candidate at the image's atoms, then how many are true, and where no row applies asks whether it is an answer set. Assumes nothing.
use Rattle.std.proofs.Common.{◌≡◌, refl, ap, ◌∙◌, true, List, [], ◌∷◌, ◌++◌, ℕ, ◌≤◌, ◌<◌}
use borrow.Author.Tests.{lt-ltb, le-ltb}
use Rattle.refusal.specs.Limits.{most_true}
use Rattle.refusal.specs.Table.{refused, accepted, yes, answer, none}
use Rattle.refusal.specs.Rows.{candidate_rows, count_true}
use Rattle.rulebook.specs.Calls.{row11_true}
use Rattle.rulebook.proofs.Behind.{yes-byte, behind, refused_on}
use Rattle.rulebook.proofs.test.Goals as goal

module _ (n : ℕ) (c : List ℕ) (x : ℕ) (none-before : none (candidate_rows n c) ≡ true) where
  -- behind a candidate's rows row 11 refuses where too many are true
  large : most_true < count_true c → refused 11 (count_true c) ≡ answer (candidate_rows n c ++ (row11_true c ∷ [])) x
  large l = behind (candidate_rows n c) (row11_true c ∷ []) x none-before (rw (lt-ltb most_true (count_true c) l) refl)

  -- and else the result is accepted
  small : count_true c ≤ most_true → accepted x ≡ answer (candidate_rows n c ++ (row11_true c ∷ [])) x
  small l = behind (candidate_rows n c) (row11_true c ∷ []) x none-before (rw (le-ltb most_true (count_true c) l) refl)

pub returns-in_err-candidate : goal.returns-in_err-candidate
returns-in_err-candidate g c = refused_on (candidate_rows _ _) (row11_true _ ∷ []) _ _ _ c.from_residual.ensures.1 (rw c.reading_length.ensures.0 at c.in_err-candidate.ensures)

pub returns-then-atoms-gt-MOST_TRUE : goal.returns-then-atoms-gt-MOST_TRUE
returns-then-atoms-gt-MOST_TRUE g c =
    let count = c.count_true-atoms.ensures in
    ap (refused 11) count ∙ large _ _ _ (rw c.reading_length.ensures.0 at c.in_ok-candidate.ensures) (rw count at c.if-atoms-gt-MOST_TRUE.true)

pub returns : goal.returns
returns g c =
    ap accepted (c.from.ensures ∙ yes-byte _ ∙ ap yes c.test-holds.ensures)
    ∙ small _ _ _ (rw c.reading_length.ensures.0 at c.in_ok-candidate.ensures) (rw c.count_true-atoms.ensures at c.if-atoms-gt-MOST_TRUE.false)

-- A candidate that can be tested: an implementation note, on which no promise rests.
use Rattle.std.specs.Prelude.{◌≡◌, true, List, ℕ, ◌≤◌}
use Rattle.refusal.specs.Limits.{most_b, most_true}
use Rattle.refusal.specs.Table.{none}
use Rattle.refusal.specs.Rows.{candidate_rows, count_true}

-- No row of a candidate test applies: of an image with so many atoms it is a candidate, of which few are true.
pub record Testable (atoms : ℕ) (candidate : List ℕ) : Type 0 where
  pub small : atoms ≤ most_b
  pub accepted : none (candidate_rows atoms candidate) ≡ true
  pub few : count_true candidate ≤ most_true

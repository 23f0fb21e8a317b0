-- `is_answer_set` answers at once where the candidate does not satisfy, and else steps through the smaller readings: before each turn those with a number below the counter do not satisfy. Assumes nothing.
use Rattle.std.proofs.Common.{◌≡◌, false, ℕ, ◌+◌, ◌-◌, ◌^◌, ◌<◌}
use Rattle.refusal.specs.Rows.{count_true}
use Rattle.stable.specs.Subset.{set_of, lowered}
use Rattle.stable.proofs.Tests.{satisfies_lowered}
use Rattle.stable.proofs.is_answer_set.Given as goal

abbrev pub invariant-loop : goal.invariant-loop
invariant-loop g l = record {
  none_before : (m : ℕ) → m < l.counter → satisfies_lowered (g.I.Image.formulas_of l.image) l.fn.reading m ≡ false;
  stands : l.reading ≡ lowered (set_of l.fn.reading) (2 ^ count_true l.fn.reading - 1 + l.counter);
}

-- `count_rows` counts the rules that stay of a kind's rows: before each turn it has counted those of the rows passed. Assumes nothing.
use Rattle.std.proofs.Common.{◌≤◌}
use Rattle.translation.specs.Turns.{rows_to, Counted}
use Rattle.translation.proofs.count_rows.Given as goal

abbrev pub invariant-loop-shape : goal.invariant-loop-shape
invariant-loop-shape l = Counted (rows_to l.terms.numbers l.fn.kind l.shape-index) l.counts.rules l.counts.literals × (l.counts.rules ≤ l.shape-index)

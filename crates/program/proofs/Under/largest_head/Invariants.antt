-- `largest_head` goes over the slots from the first on: before each turn it has the largest value of those before. Assumes nothing.
use Rattle.std.proofs.Common.{◌≡◌}
use Rattle.logic.specs.Formula.{reading_of, value_of}
use Rattle.program.specs.Rule.{largest}
use Rattle.program.specs.Image.{slots_from}
use Rattle.program.proofs.Under.largest_head.Given as goal

abbrev pub invariant-loop-i : goal.invariant-loop-i
invariant-loop-i l = l.largest ≡ largest (value_of (reading_of l.self.reading.now)) (slots_from l.self.rule.now 0 l.i)

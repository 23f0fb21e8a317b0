-- `check_rules` goes from rule to rule: before each turn it has not passed the first place at which something is wrong. Assumes nothing.
use Rattle.std.proofs.Common.{◌≡◌, ◌+◌, ◌≤◌}
use Rattle.refusal.specs.First.{first}
use Rattle.program.specs.Image.{behind}
use Rattle.program.specs.Rows.{broken_at}
use Rattle.program.proofs.check_rules.Given as goal

abbrev pub invariant-loop-index : goal.invariant-loop-index
invariant-loop-index l = (l.rest ≡ behind l.packed l.rules l.index) × (l.index ≤ first (broken_at l.packed l.size l.count l.rules) (l.count + 1))

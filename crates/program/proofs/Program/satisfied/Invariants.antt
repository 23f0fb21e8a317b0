-- `satisfied` goes from rule to rule: before each turn those that were tried hold, and one that does not decides. Assumes nothing.
use Rattle.std.proofs.Common.{◌≡◌, true}
use Rattle.logic.specs.Formula.{reading_of, value_of}
use Rattle.program.specs.Rule.{all_hold}
use Rattle.program.specs.Image.{is_packed, rule_section, behind, rules_in}
use Rattle.program.proofs.Program.satisfied.Given as goal

abbrev pub invariant-loop : goal.invariant-loop
invariant-loop l =
    let packed = is_packed l.self.image.now in
    let rules = rule_section l.self.image.now in
    (l.rest ≡ behind packed rules l.counter) × (all_hold (value_of (reading_of l.reading)) (rules_in packed rules l.counter) ≡ true)

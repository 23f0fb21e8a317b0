-- `body_at_most` tries the slots for a literal that is at most the head: there is one exactly if the smallest is. Assumes nothing.
use Rattle.std.proofs.Common.{refl, ap, ◌∙◌, ◌+◌, leb, arith, rules}
use Rattle.std.proofs.lemmas.Iterator.{YieldsList-from_range}
use Rattle.std.proofs.lemmas.Iterator.Search.{any_from_yields_List}
use Rattle.std.specs.List.{range_with_len}
use borrow.Author.Tests.{tests}
use Rattle.logic.specs.Value.{number}
use Rattle.logic.specs.Formula.{reading_of}
use Rattle.program.specs.Rule.{smallest}
use Rattle.program.specs.Image.{slot_at}
use Rattle.program.specs.Literals.{literal_value}
use Rattle.program.proofs.Literals.{any_at_most}
use Rattle.program.proofs.Slots.{slots-list}
use Rattle.program.proofs.Under.body_at_most.Goals as goal

pub returns : goal.returns
returns c =
    let a = c.args in
    let v = literal_value a.negative (reading_of a.self.now.reading.now) in
    let slot = slot_at a.self.now.rule.now in
    any_from_yields_List (λ i. leb (number (v (slot i))) (number a.head)) _ _ c.any.result c.any.ensures.ran (YieldsList-from_range a.start (a.start + a.count) a.count refl (omega arith)) (λ x b q k. search (rules, tests))
    ∙ any_at_most v slot a.head c.requires.1 (range_with_len a.start a.count)
    ∙ ap (λ l. leb (number (smallest v l)) (number a.head)) (slots-list a.self.now.rule.now a.start a.count)

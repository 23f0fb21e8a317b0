-- `atoms_keep` tries the slots that are used, of which each holds an atom below `size`. Assumes nothing.
use Rattle.std.proofs.Common.{refl, sym, ◌∙◌, ltb, arith, rules}
use Rattle.std.proofs.lemmas.Iterator.{YieldsList-from_range}
use Rattle.std.proofs.lemmas.Iterator.Search.{all_from_yields_List}
use Rattle.std.proofs.lemmas.List.Folds.{list_all-map}
use Rattle.std.specs.List.{range_with_len}
use borrow.Author.Tests.{tests}
use Rattle.program.specs.Image.{slot_at}
use Rattle.program.proofs.Slots.{slots_keep_list}
use Rattle.program.proofs.atoms_keep.Goals as goal

pub returns : goal.returns
returns c =
    let a = c.args in
    all_from_yields_List (λ i. ltb (slot_at a.rule.now i) a.size) _ _ c.all.result c.all.ensures.ran (YieldsList-from_range 0 a.used a.used refl (omega arith)) (λ x b q k. search (rules, tests))
    ∙ sym (list_all-map (λ atom. ltb atom a.size) (slot_at a.rule.now) (range_with_len 0 a.used))
    ∙ slots_keep_list a.size a.used (slot_at a.rule.now) a.used (omega arith)

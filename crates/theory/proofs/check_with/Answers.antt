-- `check_with` decides by the rows of the form, and then by the search for a node that is not used. Assumes nothing.
use Rattle.std.proofs.Common.{◌∙◌, [], ◌∷◌}
use Rattle.refusal.specs.declared.Refusal.TheVariants.{UnusedNode}
use Rattle.refusal.proofs.Table.{none_past}
use Rattle.refusal.proofs.Decided.{refused_first, refused_later}
use Rattle.theory.specs.Rows.{row13, form_rows, theory_rows}
use Rattle.theory.proofs.Rows.{handed_on, searched_some, searched_none}
use Rattle.theory.proofs.check_with.Goals as goal

pub returns-in_err-formed-clause-decided : goal.returns-in_err-formed-clause-decided
unfolding theory_rows
returns-in_err-formed-clause-decided c =
    let t = c.args.image.now in
    handed_on (theory_rows t) _ _ c.from_residual.ensures.1 (refused_first (form_rows t) (row13 t ∷ []) _ 0 c.in_err-formed.ensures.decided)

pub returns-in-Some-clause-decided : goal.returns-in-Some-clause-decided
unfolding theory_rows
returns-in-Some-clause-decided c =
    let t = c.args.image.now in
    refused_later (form_rows t) (row13 t ∷ []) (UnusedNode c.in-Some.node) 0 c.in_ok-formed.ensures.decided (searched_some 13 _ _ c.in-Some.node (rw c.in_ok-formed.ensures.same at c.in-Some.ensures))

pub invariant_of-result : goal.invariant_of-result
unfolding theory_rows
invariant_of-result c =
    let t = c.args.image.now in
    record { checked = none_past (form_rows t) (row13 t ∷ []) c.in_ok-formed.ensures.decided ∙ searched_none 13 _ _ (rw c.in_ok-formed.ensures.same at c.in-None.ensures) }

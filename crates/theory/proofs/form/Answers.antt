-- `form` decides by the header's rows, then by row 6, then by row 7, then by row 15: each where those before are past. Assumes nothing.
use Rattle.std.proofs.Common.{[], ◌∷◌, ◌∙◌}
use Rattle.refusal.proofs.Decided.{refused_first, refused_later}
use Rattle.refusal.proofs.Table.{none_past}
use Rattle.theory.specs.Rows.{row6, row7, row15, header_rows, form_rows}
use Rattle.theory.proofs.Rows.{handed_on}
use Rattle.theory.proofs.form.Goals as goal

pub returns-in_err-theory-clause-decided : goal.returns-in_err-theory-clause-decided
unfolding form_rows
returns-in_err-theory-clause-decided c =
    let t = c.args.image.now in
    handed_on (form_rows t) _ _ c.from_residual.ensures.1 (refused_first (header_rows t) (row6 t ∷ row7 t ∷ row15 t ∷ []) _ 0 c.in_err-theory.ensures.decided)

pub returns-in_err-check_nodes-clause-decided : goal.returns-in_err-check_nodes-clause-decided
unfolding form_rows
returns-in_err-check_nodes-clause-decided c =
    let t = c.args.image.now in
    handed_on (form_rows t) _ _ c.from_residual-in_err-check_nodes.ensures.1
    (refused_later (header_rows t) (row6 t ∷ row7 t ∷ row15 t ∷ []) _ 0 c.in_ok-theory.ensures.decided
    (refused_first (row6 t ∷ []) (row7 t ∷ row15 t ∷ []) _ 0 (rw c.in_ok-theory.ensures.same at c.in_err-check_nodes.ensures)))

pub returns-in_err-check_roots-clause-decided : goal.returns-in_err-check_roots-clause-decided
unfolding form_rows
returns-in_err-check_roots-clause-decided c =
    let t = c.args.image.now in
    handed_on (form_rows t) _ _ c.from_residual-in_err-check_roots.ensures.1
    (refused_later (header_rows t) (row6 t ∷ row7 t ∷ row15 t ∷ []) _ 0 c.in_ok-theory.ensures.decided
    (refused_later (row6 t ∷ []) (row7 t ∷ row15 t ∷ []) _ 0 (rw c.in_ok-theory.ensures.same at c.in_ok-check_nodes.ensures)
    (refused_first (row7 t ∷ []) (row15 t ∷ []) _ 0 (rw c.in_ok-theory.ensures.same at c.in_err-check_roots.ensures))))

pub returns-in_err-check_pairs-clause-decided : goal.returns-in_err-check_pairs-clause-decided
unfolding form_rows
returns-in_err-check_pairs-clause-decided c =
    let t = c.args.image.now in
    handed_on (form_rows t) _ _ c.from_residual-in_err-check_pairs.ensures.1
    (refused_later (header_rows t) (row6 t ∷ row7 t ∷ row15 t ∷ []) _ 0 c.in_ok-theory.ensures.decided
    (refused_later (row6 t ∷ []) (row7 t ∷ row15 t ∷ []) _ 0 (rw c.in_ok-theory.ensures.same at c.in_ok-check_nodes.ensures)
    (refused_later (row7 t ∷ []) (row15 t ∷ []) _ 0 (rw c.in_ok-theory.ensures.same at c.in_ok-check_roots.ensures)
    (rw c.in_ok-theory.ensures.same at c.in_err-check_pairs.ensures))))

pub returns-clause-decided : goal.returns-clause-decided
unfolding form_rows
returns-clause-decided c =
    let t = c.args.image.now in
    none_past (header_rows t) (row6 t ∷ row7 t ∷ row15 t ∷ []) c.in_ok-theory.ensures.decided
    ∙ none_past (row6 t ∷ []) (row7 t ∷ row15 t ∷ []) (rw c.in_ok-theory.ensures.same at c.in_ok-check_nodes.ensures)
    ∙ none_past (row7 t ∷ []) (row15 t ∷ []) (rw c.in_ok-theory.ensures.same at c.in_ok-check_roots.ensures)
    ∙ rw c.in_ok-theory.ensures.same at c.in_ok-check_pairs.ensures

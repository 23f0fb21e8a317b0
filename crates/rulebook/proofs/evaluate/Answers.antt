-- `evaluate` tries a reading at the image's atoms, and where it is one asks whether it satisfies. Assumes nothing.
use Rattle.std.proofs.Common.{sym, ap, ◌∙◌, false}
use Rattle.refusal.specs.Table.{accepted, yes}
use Rattle.refusal.specs.Rows.{reading_rows}
use Rattle.refusal.proofs.Table.{answer-none}
use Rattle.refusal.proofs.Rows.{none-argument_rows}
use Rattle.rulebook.proofs.Behind.{yes-byte, refused_alone}
use Rattle.rulebook.proofs.evaluate.Goals as goal

pub returns-in_err-reading : goal.returns-in_err-reading
returns-in_err-reading g c = refused_alone (reading_rows _ _) _ _ _ c.from_residual.ensures.1 (rw c.reading_length.ensures.0 at c.in_err-reading.ensures)

pub satisfied_by-requires-clause-reading_len : goal.satisfied_by-requires-clause-reading_len
satisfied_by-requires-clause-reading_len g c = (none-argument_rows false _ _ c.in_ok-reading.ensures).0 ∙ c.reading_length.ensures.0

pub returns : goal.returns
returns g c =
    ap accepted (c.from.ensures ∙ yes-byte _ ∙ ap yes c.satisfied_by.ensures)
    ∙ sym (answer-none (reading_rows _ _) _ (rw c.reading_length.ensures.0 at c.in_ok-reading.ensures))

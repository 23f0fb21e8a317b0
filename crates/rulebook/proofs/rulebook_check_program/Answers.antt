-- `rulebook_check_program` hands on the refusal of a row, and past the rows its result is yes. Assumes nothing.
use Rattle.std.proofs.Common.{sym}
use Rattle.refusal.proofs.Table.{answer-none}
use Rattle.program.specs.Rows.{program_rows}
use Rattle.rulebook.proofs.Behind.{refused_alone}
use Rattle.rulebook.proofs.rulebook_check_program.Goals as goal

pub returns-in_err-check : goal.returns-in_err-check
returns-in_err-check c = refused_alone (program_rows _) _ _ _ c.from_residual.ensures.1 c.in_err-check.ensures.decided

pub returns : goal.returns
returns c = sym (answer-none (program_rows _) 1 c.in_ok-check.ensures.decided)

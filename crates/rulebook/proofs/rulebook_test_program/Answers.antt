-- `rulebook_test_program` tries the program's rows, and behind them tests the candidate. Assumes nothing.
use Rattle.program.specs.Rows.{program_rows}
use Rattle.program.proofs.Accepted.{none-program_rows}
use Rattle.rulebook.proofs.Behind.{refused_on, behind}
use Rattle.rulebook.proofs.rulebook_test_program.Goals as goal

pub returns-in_err-program : goal.returns-in_err-program
returns-in_err-program c = refused_on (program_rows _) _ _ _ _ c.from_residual.ensures.1 c.in_err-program.ensures.decided

pub test-requires-clause-reading_room : goal.test-requires-clause-reading_room
test-requires-clause-reading_room c = (none-program_rows _ c.in_ok-program.program.checked).inside.size

pub returns : goal.returns
returns c = behind (program_rows _) _ _ c.in_ok-program.ensures.decided (rw c.in_ok-program.ensures.same at c.test.ensures)

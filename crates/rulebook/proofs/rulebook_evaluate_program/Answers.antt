-- `rulebook_evaluate_program` tries the program's rows, and behind them evaluates the program. Assumes nothing.
use Rattle.logic.specs.Formula.{reading_of}
use Rattle.program.specs.Image.{program_of}
use Rattle.program.specs.Rows.{program_rows}
use Rattle.program.proofs.Rules.{program_value}
use Rattle.rulebook.proofs.Behind.{refused_on, behind}
use Rattle.rulebook.proofs.rulebook_evaluate_program.Goals as goal

pub returns-in_err-program : goal.returns-in_err-program
returns-in_err-program c = refused_on (program_rows _) _ _ _ _ c.from_residual.ensures.1 c.in_err-program.ensures.decided

-- A program is satisfied if its formulas are.
pub returns : goal.returns
returns c =
    behind (program_rows _) _ _ c.in_ok-program.ensures.decided
    (rw (program_value (reading_of c.args.reading.now) (program_of c.args.program.now)) at (rw c.in_ok-program.ensures.same at c.evaluate.ensures))

-- `rulebook_evaluate_theory` tries the theory's rows, and behind them evaluates the theory. Assumes nothing.
use Rattle.theory.specs.Rows.{theory_rows}
use Rattle.rulebook.proofs.Behind.{refused_on, behind}
use Rattle.rulebook.proofs.rulebook_evaluate_theory.Goals as goal

pub returns-in_err-theory : goal.returns-in_err-theory
returns-in_err-theory c = refused_on (theory_rows _) _ _ _ _ c.from_residual.ensures.1 c.in_err-theory.ensures.decided

pub returns : goal.returns
returns c = behind (theory_rows _) _ _ c.in_ok-theory.ensures.decided (rw c.in_ok-theory.ensures.same at c.evaluate.ensures)

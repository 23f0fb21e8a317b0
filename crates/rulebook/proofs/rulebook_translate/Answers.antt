-- `rulebook_translate` tries the theory's rows, and behind them translates the theory. Assumes nothing.
use Rattle.theory.specs.Rows.{theory_rows}
use Rattle.translation.specs.Outcome.{translated}
use Rattle.rulebook.proofs.Behind.{behind_left, refused_left}
use Rattle.rulebook.proofs.rulebook_translate.Goals as goal

pub returns-in_err-theory : goal.returns-in_err-theory
returns-in_err-theory c = refused_left (theory_rows _) _ _ _ _ c.from_residual.ensures.1 c.in_err-theory.ensures.decided (λ n. rw n)

pub returns : goal.returns
unfolding translated
returns c =
    let same = c.in_ok-theory.ensures.same in
    behind_left (theory_rows _) _ _ c.in_ok-theory.ensures.decided (rw same at c.translate.ensures.value) (λ n. rw n (rw same at c.translate.ensures.out_after))

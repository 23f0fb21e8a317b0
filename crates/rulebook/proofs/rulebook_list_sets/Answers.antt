-- `rulebook_list_sets` tries the theory's rows, and behind them lists the answer sets. Assumes nothing.
use Rattle.theory.specs.Rows.{theory_rows}
use Rattle.rulebook.proofs.Behind.{behind_left, refused_left}
use Rattle.rulebook.proofs.rulebook_list_sets.Goals as goal

pub returns-in_err-theory : goal.returns-in_err-theory
returns-in_err-theory c = refused_left (theory_rows _) _ _ _ _ c.from_residual.ensures.1 c.in_err-theory.ensures.decided (λ n. rw n)

pub returns : goal.returns
returns c =
    let same = c.in_ok-theory.ensures.same in
    behind_left (theory_rows _) _ _ c.in_ok-theory.ensures.decided (rw same at c.list_sets.ensures.value) (λ n. rw n (rw same at c.list_sets.ensures.out_after))

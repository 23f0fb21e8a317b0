-- `fact_of` makes a fact: its one literal is a head. Assumes nothing.
use Rattle.std.proofs.Common.{◌∙◌}
use Rattle.table.proofs.OneRule.{fact_removed, fact_made}
use Rattle.table.proofs.fact_of.Goals as goal

pub returns-in_err-head : goal.returns-in_err-head
returns-in_err-head c = c.from_residual.ensures ∙ fact_removed _ (rw c.none.ensures at c.in_err-head.ensures.value)

pub returns : goal.returns
returns c = fact_made _ _ (rw c.none.ensures at c.in_ok-head.ensures.value)

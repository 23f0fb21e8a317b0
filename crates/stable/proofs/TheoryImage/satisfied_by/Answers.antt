-- A checked theory has few nodes, so there is room for their values. Assumes nothing.
use Rattle.std.proofs.Common.{arith}
use Rattle.theory.proofs.Accepted.{accepted}
use Rattle.stable.proofs.TheoryImage.satisfied_by.Goals as goal

pub satisfied-requires-clause-theory_in_bounds : goal.satisfied-requires-clause-theory_in_bounds
satisfied-requires-clause-theory_in_bounds c = omega (arith, (accepted _ c.args.self.now.checked).header.few-nodes)

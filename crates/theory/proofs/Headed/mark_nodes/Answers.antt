-- The operands of a node are among the marks, which keep their length. Assumes nothing.
use Rattle.std.proofs.Common.{arith}
use Rattle.theory.proofs.Used.{length_marked}
use Rattle.theory.proofs.Headed.mark_nodes.Goals as goal

pub mark_operands-requires : goal.mark_operands-requires
mark_operands-requires c = rw (c.node_at.ensures.value, c.node_section-section.ensures.value, c.loop-k.invariant, length_marked) (c.requires c.loop-k.k (omega arith))

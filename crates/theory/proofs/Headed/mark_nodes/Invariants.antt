-- `mark_nodes` marks the operands of all nodes: before each turn those of the first k are marked. Assumes nothing.
use Rattle.std.proofs.Common.{◌≡◌}
use Rattle.wire.specs.Sequence.{up_to}
use Rattle.theory.specs.Image.{node_section, node_in}
use Rattle.theory.specs.Used.{all_operands}
use Rattle.theory.specs.Marks.{marked}
use Rattle.theory.proofs.Headed.mark_nodes.Given as goal

abbrev pub invariant-loop-k : goal.invariant-loop-k
invariant-loop-k l = l.marks ≡ marked (all_operands (up_to (node_in (node_section l.self.image.now)) l.k)) l.initial.marks

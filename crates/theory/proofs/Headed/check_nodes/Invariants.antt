-- `check_nodes` gives the first node that breaks its row: before each turn it has not passed that node. Assumes nothing.
use Rattle.std.proofs.Common.{◌≤◌}
use Rattle.refusal.specs.First.{first}
use Rattle.theory.specs.Image.{atom_count, node_count, node_section, breaks}
use Rattle.theory.proofs.Headed.check_nodes.Given as goal

abbrev pub invariant-loop-node : goal.invariant-loop-node
invariant-loop-node l = l.node ≤ first (breaks (atom_count l.self.image.now) (node_section l.self.image.now)) (node_count l.self.image.now)

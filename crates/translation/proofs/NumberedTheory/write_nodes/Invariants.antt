-- `write_nodes` writes the rules of all nodes: before each turn those of the nodes passed are written, and `next` is the label behind theirs. Assumes nothing.
use Rattle.std.proofs.Common.{◌≡◌}
use Rattle.wire.proofs.Laws.{Written}
use Rattle.program.specs.Image.{rules_bytes}
use Rattle.theory.specs.Image.{atom_count, node_section}
use Rattle.translation.specs.Turns.{next_to, rules_to}
use Rattle.translation.proofs.NumberedTheory.write_nodes.Given as goal

abbrev pub invariant-loop-k : goal.invariant-loop-k
invariant-loop-k l = Written (rules_bytes l.packed (rules_to (atom_count l.self.theory.image.now) (node_section l.self.theory.image.now) l.k)) l.initial.out l.out l.at × (l.next ≡ next_to (atom_count l.self.theory.image.now) (node_section l.self.theory.image.now) l.k)

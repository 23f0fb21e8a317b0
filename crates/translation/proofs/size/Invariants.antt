-- `size` gives B: before each turn `next` is the label behind those of the nodes passed. Assumes nothing.
use Rattle.std.proofs.Common.{◌≡◌}
use Rattle.theory.specs.Image.{atom_count, node_section}
use Rattle.translation.specs.Turns.{next_to}
use Rattle.translation.proofs.size.Given as goal

abbrev pub invariant-loop-k : goal.invariant-loop-k
invariant-loop-k l = l.next ≡ next_to (atom_count l.theory.image.now) (node_section l.theory.image.now) l.k

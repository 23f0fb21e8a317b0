-- `write_labels` writes the labels of all nodes: before each turn those of the nodes passed are written. Assumes nothing.
use Rattle.wire.proofs.Laws.{Written}
use Rattle.theory.specs.Image.{node_section}
use Rattle.translation.specs.Turns.{labels_to}
use Rattle.translation.proofs.write_labels.Given as goal

abbrev pub invariant-loop-k : goal.invariant-loop-k
invariant-loop-k l = Written (labels_to l.values (node_section l.theory.image.now) l.k) l.initial.out l.out l.at

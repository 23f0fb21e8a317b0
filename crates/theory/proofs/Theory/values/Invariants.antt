-- `values` writes the nodes' values: before each turn the first k stand there, and they are just what the next one is made of. Assumes nothing.
use Rattle.std.proofs.Common.{◌≡◌, map}
use Rattle.logic.specs.Value.{number}
use Rattle.logic.specs.Formula.{reading_of}
use Rattle.wire.specs.Wire.{over}
use Rattle.theory.specs.Image.{node_section}
use Rattle.theory.specs.NodeValues.{values_to}
use Rattle.theory.proofs.Theory.values.Given as goal

abbrev pub invariant-loop-k : goal.invariant-loop-k
invariant-loop-k l = l.values ≡ over (map number (values_to (reading_of l.reading) (node_section l.self.image.now) l.k)) l.initial.values

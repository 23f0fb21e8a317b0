-- `write_node` writes a node's rules: before each turn those of the rows passed are written, and the next row's go into the unwritten rest. Assumes nothing.
use Rattle.wire.proofs.Laws.{Written}
use Rattle.program.specs.Image.{rules_bytes}
use Rattle.translation.specs.Turns.{rows_to}
use Rattle.translation.proofs.write_node.Given as goal

abbrev pub invariant-loop-shape : goal.invariant-loop-shape
invariant-loop-shape l = Written (rules_bytes l.packed (rows_to l.terms.numbers l.fn.kind l.shape-index)) l.initial.out l.out l.at

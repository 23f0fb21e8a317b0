-- One node more is written, whose value is made from those that are read back; in the end they are the values of the book's nodes. Assumes nothing.
use Rattle.std.proofs.Common.{◌≡◌, arith, length-take-le}
use Rattle.logic.specs.Formula.{reading_of}
use Rattle.theory.specs.Image.{atom_count, node_count, node_section}
use Rattle.theory.proofs.Accepted.{accepted, kept_fits}
use Rattle.theory.proofs.NodeValues.{values_to-none, values_to_read, values_to_store, node_values-book_of}
use Rattle.theory.proofs.Theory.values.Goals as goal

pub loop-k-init : goal.loop-k-init
loop-k-init c = rw values_to-none

pub node_value-value-requires : goal.node_value-value-requires
node_value-value-requires c =
    let t = c.args.self.now.image.now in
    rw (c.node.ensures.value, c.requires.reading_len, length-take-le c.loop-k.k c.loop-k.values (omega arith))
    (kept_fits (atom_count t) (node_section t) c.loop-k.k ((accepted t c.args.self.now.checked).nodes-keep c.loop-k.k (omega arith)))

pub loop-k-preserved : goal.loop-k-preserved
loop-k-preserved c =
    let I = reading_of c.args.reading.now in
    let s = node_section c.args.self.now.image.now in
    rw (c.from.ensures, c.node_value-value.ensures, c.node.ensures.value, c.loop-k.invariant, values_to_read I s c.args.values.now c.loop-k.k)
    (values_to_store I s c.args.values.now c.loop-k.k (omega arith))

pub returns : goal.returns
returns c =
    let e : c.loop-k.k ≡ node_count c.args.self.now.image.now = omega arith in
    rw (e, ← node_values-book_of) at c.loop-k.invariant

use Rattle.std.proofs.Common.{◌≡◌, sym, ◌∙◌, arith, List, [], ◌∷◌, ℕ, get_or, take, length-take-le}
use Rattle.wire.proofs.Laws.{written_none}
use Rattle.logic.specs.Value.{number, of_byte, negation}
use Rattle.theory.specs.declared.Node.{Node}
use Rattle.theory.specs.Image.{node_section, node_in}
use Rattle.flat.specs.Table.{label_count}
use Rattle.translation.specs.Turns.{label_bytes}
use Rattle.translation.proofs.Turns.{labels_to-none, labels_grow}
use Rattle.translation.proofs.Writing.{part_fits, part_written}
use Rattle.translation.proofs.write_labels.Goals as goal

-- What is written are the node's labels.
bytes-are : (v s : List ℕ) (k labels : ℕ) (n : Node) → n ≡ node_in s k → labels ≡ label_count n.kind
    → take labels (get_or v k 0 ∷ number (negation (of_byte (get_or v n.right 0))) ∷ []) ≡ label_bytes v s k
bytes-are v s k labels n e f = rw (f, e)

pub loop-k-init : goal.loop-k-init
loop-k-init c = rw labels_to-none (written_none _)

pub put_labels-at-requires : goal.put_labels-at-requires
put_labels-at-requires c =
    let few = c.label_count-labels.ensures.1 in (
      few,
      rw length-take-le at (part_fits (labels_grow _ _) c.loop-k.invariant (omega arith) c.requires
          (bytes-are c.args.values.now (node_section c.args.theory.now.image.now) c.loop-k.k _ _ c.node-node.ensures.value c.label_count-labels.ensures.0)),
    )

pub loop-k-preserved : goal.loop-k-preserved
loop-k-preserved c =
    part_written (labels_grow _ _) c.loop-k.invariant (omega arith) c.requires
    (bytes-are c.args.values.now (node_section c.args.theory.now.image.now) c.loop-k.k _ _ c.node-node.ensures.value c.label_count-labels.ensures.0)
    (c.put_labels-at.ensures.value ∙ sym (length-take-le _ _ c.label_count-labels.ensures.1)) c.put_labels-at.ensures.out_after

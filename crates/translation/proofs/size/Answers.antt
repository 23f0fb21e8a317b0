use Rattle.std.proofs.Common.{◌≡◌, sym, ◌∙◌, arith}
use Rattle.theory.specs.Image.{node_count}
use Rattle.translation.proofs.Turns.{next_to-none, next_more, flat-size}
use Rattle.translation.proofs.NodeTerms.{next_low}
use Rattle.translation.proofs.Sections.{nodes-accepted}
use Rattle.translation.proofs.size.Goals as goal

pub loop-k-init : goal.loop-k-init
loop-k-init c = c.atoms-next.ensures.0 ∙ sym (next_to-none _ _)

pub overflow_add-next : goal.overflow_add-next
overflow_add-next c = omega (arith, next_low _ _ _ (nodes-accepted _ c.args.theory.now.checked) c.loop-k.k (omega arith))

pub loop-k-preserved : goal.loop-k-preserved
loop-k-preserved c = next_more _ _ _ c.loop-k.invariant c.node.ensures.value c.label_count-next.ensures.0

pub returns : goal.returns
returns c =
    let e : c.loop-k.k ≡ node_count c.args.theory.now.image.now = omega arith in
    rw e at c.loop-k.invariant ∙ sym (flat-size _)

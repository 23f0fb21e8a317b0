use Rattle.std.proofs.Common.{sym, ap, ◌∙◌, arith}
use Rattle.program.specs.Image.{rules_bytes}
use Rattle.translation.proofs.Turns.{next_to-none, next_more, rules_to-none, rules_grow}
use Rattle.translation.proofs.NodeTerms.{next_low, turn_small, turn_rules}
use Rattle.translation.proofs.Sections.{nodes-accepted}
use Rattle.translation.proofs.Writing.{written_no_rules, bytes_grow, part_fits, part_written}
use Rattle.translation.proofs.NumberedTheory.write_nodes.Goals as goal

pub loop-k-init : goal.loop-k-init
loop-k-init c = (written_no_rules _ _ _ (rules_to-none _ _), c.atoms-next.ensures.0 ∙ sym (next_to-none _ _))

pub slot_terms-requires : goal.slot_terms-requires
slot_terms-requires c = turn_small _ _ _ (nodes-accepted _ c.args.self.now.theory.checked) _ (omega arith) c.node-node.ensures.value c.loop-k.invariant.1

pub write_node-at-requires : goal.write_node-at-requires
write_node-at-requires c =
    let ok = nodes-accepted _ c.args.self.now.theory.checked in
    let same = turn_rules _ _ _ ok _ c.args.self.now.numbered c.loop-k.k (omega arith) c.node-node.ensures.value c.loop-k.invariant.1 c.slot_terms.ensures in
    part_fits (bytes_grow c.args.packed (rules_grow _ _)) c.loop-k.invariant.0 (omega arith) c.requires (ap (rules_bytes c.args.packed) same)

pub overflow_add-next : goal.overflow_add-next
overflow_add-next c = omega (arith, next_low _ _ _ (nodes-accepted _ c.args.self.now.theory.checked) c.loop-k.k (omega arith))

pub loop-k-preserved : goal.loop-k-preserved
loop-k-preserved c =
    let ok = nodes-accepted _ c.args.self.now.theory.checked in
    let same = turn_rules _ _ _ ok _ c.args.self.now.numbered c.loop-k.k (omega arith) c.node-node.ensures.value c.loop-k.invariant.1 c.slot_terms.ensures in
    let put = c.write_node-at.ensures in (
      part_written (bytes_grow c.args.packed (rules_grow _ _)) c.loop-k.invariant.0 (omega arith) c.requires (ap (rules_bytes c.args.packed) same) put.value put.out_after,
      next_more _ _ _ c.loop-k.invariant.1 c.node-node.ensures.value c.label_count-next.ensures.0,
    )

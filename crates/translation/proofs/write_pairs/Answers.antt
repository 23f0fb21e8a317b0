use Rattle.std.proofs.Common.{arith}
use Rattle.wire.proofs.Sequence.{up_to-none}
use Rattle.translation.proofs.Turns.{pairs_grow}
use Rattle.translation.proofs.Writing.{written_no_rules, pair_bytes, bytes_grow, part_fits, part_written}
use Rattle.translation.proofs.write_pairs.Goals as goal

pub loop-i-init : goal.loop-i-init
loop-i-init c = written_no_rules _ _ _ (up_to-none _)

pub put-at-requires : goal.put-at-requires
put-at-requires c =
    part_fits (bytes_grow c.args.packed (pairs_grow _)) c.loop-i.invariant (omega arith) c.requires
    (pair_bytes c.args.packed _ _ c.pair-pair.ensures)

pub loop-i-preserved : goal.loop-i-preserved
loop-i-preserved c =
    part_written (bytes_grow c.args.packed (pairs_grow _)) c.loop-i.invariant (omega arith) c.requires
    (pair_bytes c.args.packed _ _ c.pair-pair.ensures) c.put-at.ensures.value c.put-at.ensures.out_after

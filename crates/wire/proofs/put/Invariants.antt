-- `put` writes the bytes over the start: before each turn the first i of them are written, and the rest is as it was. Assumes nothing.
use Rattle.std.proofs.Common.{take}
use Rattle.wire.proofs.Laws.{Written}
use Rattle.wire.proofs.put.Given as goal

abbrev pub invariant-loop-i : goal.invariant-loop-i
invariant-loop-i l = Written (take l.i l.bytes) l.initial.out l.out l.i

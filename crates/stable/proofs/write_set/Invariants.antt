-- `write_set` writes the numbers that are set: before each turn those below c are written over the start of `out`. Assumes nothing.
use Rattle.wire.proofs.Laws.{Written}
use Rattle.stable.specs.Listing.{numbers_bytes}
use Rattle.stable.specs.Bitmap.{bit_at, passing}
use Rattle.stable.proofs.write_set.Given as goal

abbrev pub invariant-loop-c : goal.invariant-loop-c
invariant-loop-c l = Written (numbers_bytes (passing (bit_at l.bitmap) l.c)) l.fn.out l.out l.at

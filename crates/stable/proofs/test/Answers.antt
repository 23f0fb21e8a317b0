-- `test` copies the candidate over the room for a reading, which is as long at least. Assumes nothing.
use Rattle.std.proofs.Common.{arith}
use lib.ListN.{length-replicate}
use Rattle.stable.proofs.Tests.{testable_length}
use Rattle.stable.proofs.test.Goals as goal

pub put-length-requires : goal.put-length-requires
put-length-requires g c = rw length-replicate (omega (arith, testable_length _ _ c.requires.testable))

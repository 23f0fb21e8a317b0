-- `eight` adds the weight of each number whose set is an answer set: before each turn the bits below j. Assumes nothing.
use Rattle.std.proofs.Common.{◌≡◌, ◌+◌, ◌^◌}
use Rattle.wire.specs.Sequence.{up_to}
use Rattle.stable.specs.Number.{number_of}
use Rattle.stable.specs.Bitmap.{is_listed}
use Rattle.stable.proofs.eight.Given as goal

abbrev pub invariant-loop-j : goal.invariant-loop-j
invariant-loop-j l = record {
  bits : l.bits ≡ number_of (up_to (λ k. is_listed l.theory.image.now (l.from + k)) l.j);
  weight : l.weight ≡ 2 ^ l.j;
}

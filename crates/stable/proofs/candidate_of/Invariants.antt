-- `candidate_of` gives the candidate of a number's set: before each turn the bytes written and the candidate of what is left of the number make the whole. Assumes nothing.
use Rattle.std.proofs.Common.{◌≡◌, ◌++◌, ◌-◌, length, take}
use Rattle.stable.specs.Subset.{candidate_of}
use Rattle.stable.specs.Number.{set_of_number}
use Rattle.stable.proofs.candidate_of.Given as goal

abbrev pub invariant-loop-byte : goal.invariant-loop-byte
invariant-loop-byte l =
    take l.byte-index l.byte-items ++ candidate_of (set_of_number (length l.fn.out - l.byte-index) l.rest) ≡ candidate_of (set_of_number (length l.fn.out) l.number)

-- Each turn writes the byte of the lowest bit, by `candidate_of-number`; in the end nothing is left of the number. Assumes nothing.
use Rattle.std.proofs.Common.{◌≡◌, append-nil, suc, ◌+◌, ◌-◌, arith, length, take, take_all}
use Rattle.stable.specs.Subset.{candidate_of}
use Rattle.stable.specs.Number.{set_of_number}
use Rattle.stable.proofs.Candidates.{next_number, candidate_of-number}
use Rattle.stable.proofs.candidate_of.Goals as goal

pub loop-byte-preserved : goal.loop-byte-preserved
loop-byte-preserved c =
    let loop = c.loop-byte in
    let n = length c.args.out.now in
    let e : n - loop.byte-index ≡ suc (n - (loop.byte-index + 1)) = omega arith in
    next_number loop.byte-items loop.byte-index _ _ _ (omega arith) (rw e at loop.invariant) (candidate_of-number (n - (loop.byte-index + 1)) loop.rest)

pub returns : goal.returns
unfolding candidate_of set_of_number
returns c =
    let loop = c.loop-byte in
    let e : length c.args.out.now - loop.byte-index ≡ 0 = omega arith in
    let whole : take loop.byte-index loop.byte-items ≡ loop.byte-items = take_all loop.byte-index loop.byte-items (omega arith) in
    rw (whole, e, append-nil) at loop.invariant

-- A true atom's place is among those from i on, so there is room for it, and it is the next one. Assumes nothing.
use Rattle.std.proofs.Common.{◌≡◌, ap, append-nil, ℕ, List, ◌++◌, ◌+◌, ◌≤◌, ◌<◌, arith, length, get_or, take, drop, length-set, length-append, length-take-le, eq-eqb, ne_eqb}
use lib.Seq.{drop-length}
use Rattle.refusal.specs.Rows.{count_true}
use Rattle.stable.specs.Subset.{set_of, Candidate, places_from, places_of}
use Rattle.stable.proofs.Candidates.{candidate_size, places_at, next_number}
use Rattle.stable.proofs.Steps.{length-places_from}
use Rattle.stable.proofs.places_of.Goals as goal
use Rattle.stable.proofs.places_of.Goals.{then-byte-eq2, else-byte-eq2}

-- those written and those from i on are as many as the true atoms,
counted : (candidate : List ℕ) → Candidate candidate → (places : List ℕ) (count i : ℕ) → count ≤ length places
    → take count places ++ places_from i (set_of (drop i candidate)) ≡ places_of (set_of candidate)
    → count + length (places_from i (set_of (drop i candidate))) ≡ count_true candidate
counted candidate valid places count i fits e =
    omega (arith, length-take-le count places fits, length-append (take count places) (places_from i (set_of (drop i candidate))), ap length e, length-places_from 0 (set_of candidate), candidate_size candidate valid)

-- and a true atom's place is among those from i on, so there is room for it
room : (candidate : List ℕ) → Candidate candidate → (places : List ℕ) (count i : ℕ) → count ≤ length places
    → take count places ++ places_from i (set_of (drop i candidate)) ≡ places_of (set_of candidate)
    → i < length candidate → get_or candidate i 0 ≡ 2 → count < count_true candidate
room candidate valid places count i fits e inside two =
    let next = rw (eq-eqb (get_or candidate i 0) 2 two) at (places_at candidate valid i inside) in
    omega (arith, counted candidate valid places count i fits e, ap length next)

pub bounds-places-count : goal.bounds-places-count
bounds-places-count c =
    let loop = c.loop-i in
    omega (arith, room _ c.requires.candidate loop.places loop.count loop.i (omega arith) loop.invariant.whole c.loop-i-test.true c.if-byte-eq2.true)

pub loop-i-preserved : goal.loop-i-preserved
loop-i-preserved c =
    let loop = c.loop-i in
    let candidate = c.args.candidate.now in
    let i = loop.i in
    let next = places_at candidate c.requires.candidate i c.loop-i-test.true in
    elim c.if-byte-eq2.branch [
      | then-byte-eq2 w ↦
          let two : get_or candidate i 0 ≡ 2 = w.if-byte-eq2.true in
          let free = room candidate c.requires.candidate loop.places loop.count i (omega arith) loop.invariant.whole c.loop-i-test.true two in
          rw (w.places-is, w.count-is) (record {
            whole = next_number loop.places loop.count i _ _ (omega arith) loop.invariant.whole (rw (eq-eqb (get_or candidate i 0) 2 two) at next);
            few = omega arith;
            sized = simp length-set (omega arith);
          })
      | else-byte-eq2 w ↦
          rw (w.places-is, w.count-is) (record {
            whole = rw (rw (ne_eqb (get_or candidate i 0) 2 w.if-byte-eq2.false) at next) at loop.invariant.whole;
            few = omega arith;
            sized = omega arith;
          })
    ]

pub returns-clause-places_after : goal.returns-clause-places_after
unfolding places_from
returns-clause-places_after c =
    let loop = c.loop-i in
    let e : loop.i ≡ length c.args.candidate.now = omega arith in
    rw (e, drop-length, append-nil) at loop.invariant.whole

pub returns-clause-value : goal.returns-clause-value
unfolding places_from
returns-clause-value c =
    let loop = c.loop-i in
    let e : loop.i ≡ length c.args.candidate.now = omega arith in
    omega (arith, rw (e, drop-length) at (counted c.args.candidate.now c.requires.candidate loop.places loop.count loop.i (omega arith) loop.invariant.whole))

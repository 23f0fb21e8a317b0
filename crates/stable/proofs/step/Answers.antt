-- A byte 1 at a place ends the carry, and a byte 2 passes it on; where no place is left, the subsets begin anew. Assumes nothing.
use Rattle.std.proofs.Common.{◌≡◌, ap, ◌<◌, ℕ, List, arith, length, get_or}
use Rattle.wire.proofs.Laws.{all_below_at}
use Rattle.logic.specs.Atoms.{Atoms}
use Rattle.stable.specs.Subset.{places_of}
use Rattle.stable.proofs.Subsets.{size}
use Rattle.stable.proofs.Steps.{length-places_from, carried_none, carried_done, carried_more, carried_all}
use Rattle.stable.proofs.step.Goals as goal

-- an index of the places is one of the atoms
below : {places : List ℕ} (T : Atoms) (k : ℕ) → places ≡ places_of T → k < length places → k < size T
below T k p l = omega (arith, ap length p, length-places_from 0 T)

pub loop-place-init : goal.loop-place-init
loop-place-init c = λ T m p e. carried_none T m e

-- the place is one of the reading's
pub bounds-reading-at : goal.bounds-reading-at
bounds-reading-at c = omega (arith, all_below_at (length c.args.reading.now) c.args.places.now c.requires c.loop-place.place-index c.loop-place-test.true)

pub returns-then-reading-at-eq1 : goal.returns-then-reading-at-eq1
returns-then-reading-at-eq1 c =
    λ T m p e.
    let at : c.from-at.result ≡ get_or (places_of T) c.loop-place.place-index 0 = rw p at c.from-at.ensures in
    rw at (carried_done T m c.loop-place.place-index (below T _ p c.loop-place-test.true) (c.loop-place.invariant T m p e) (rw at at c.if-reading-at-eq1.true))

pub bounds-reading-at-in-loop-place : goal.bounds-reading-at-in-loop-place
bounds-reading-at-in-loop-place c = omega (arith, all_below_at (length c.args.reading.now) c.args.places.now c.requires c.loop-place.place-index c.loop-place-test.true)

pub loop-place-preserved : goal.loop-place-preserved
loop-place-preserved c =
    λ T m p e.
    let at : c.from-at.result ≡ get_or (places_of T) c.loop-place.place-index 0 = rw p at c.from-at.ensures in
    rw at (carried_more T m c.loop-place.place-index (below T _ p c.loop-place-test.true) (c.loop-place.invariant T m p e) (rw at at c.if-reading-at-eq1.false))

pub returns : goal.returns
returns c =
    λ T m p e.
    let loop = c.loop-place in
    let all : loop.place-index ≡ size T = omega (arith, ap length p, length-places_from 0 T) in
    carried_all T m (rw all at (loop.invariant T m p e))

-- `step` adds 1 to the number of the subset: before each turn the bits below the place were 1 and are cleared. Assumes nothing.
use Rattle.std.proofs.Common.{◌≡◌, ℕ}
use Rattle.logic.specs.Atoms.{Atoms}
use Rattle.stable.specs.Subset.{lowered, places_of}
use Rattle.stable.proofs.Steps.{Carried}
use Rattle.stable.proofs.step.Given as goal

abbrev pub invariant-loop-place : goal.invariant-loop-place
invariant-loop-place l = (T : Atoms) (m : ℕ) → l.places ≡ places_of T → l.fn.reading ≡ lowered T m → Carried T m l.place-index l.reading

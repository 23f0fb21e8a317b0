-- `places_of` writes the places: before each turn those written and those from i on make the whole. Assumes nothing.
use Rattle.std.proofs.Common.{◌≡◌, ◌++◌, ◌≤◌, length, take, drop}
use Rattle.refusal.specs.Limits.{most_true}
use Rattle.stable.specs.Subset.{set_of, places_from, places_of}
use Rattle.stable.proofs.places_of.Given as goal

abbrev pub invariant-loop-i : goal.invariant-loop-i
invariant-loop-i l = record {
  whole : take l.count l.places ++ places_from l.i (set_of (drop l.i l.candidate)) ≡ places_of (set_of l.candidate);
  few : l.count ≤ most_true;
  sized : length l.places ≡ most_true;
}

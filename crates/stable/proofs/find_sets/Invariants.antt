-- `find_sets` sets eight bits a turn: before each turn the bits below i * 8 are right, and the turns are as many as the sets ask for. Assumes nothing.
use Rattle.std.proofs.Common.{◌≡◌, ℕ, ◌*◌, ◌^◌, ◌≤◌, ◌<◌, length}
use Rattle.theory.specs.Image.{atom_count}
use Rattle.stable.specs.Bitmap.{bit_at, is_listed}
use Rattle.stable.proofs.find_sets.Given as goal

abbrev pub invariant-loop-i : goal.invariant-loop-i
invariant-loop-i l = record {
  right : (c : ℕ) → c < l.i * 8 → bit_at l.found c ≡ is_listed l.theory.image.now c;
  turns : (2 ^ atom_count l.theory.image.now ≤ l.i-end * 8) × (l.i-end ≤ 512);
  sized : length l.found ≡ 512;
}

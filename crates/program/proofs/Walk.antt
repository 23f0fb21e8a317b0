-- Going from one rule of a section to the next: what is left behind one rule more. Assumes nothing.
use mathlib.Core.Path.{◌≡◌}
use mathlib.Core.Bool.{Bool}
use mathlib.Core.List.{List}
use Prim.Native.Nat.{ℕ, ◌+◌}
use native.Mathlib.Numerals.{add-one}
use lib.ListN.{drop}
use Rattle.program.specs.Image.{length_at, behind}

module _ (packed : Bool) (s : List ℕ) (k : ℕ) {rest : List ℕ} (here : rest ≡ behind packed s k) where
  pub walk_on : {next : List ℕ} → next ≡ drop (length_at packed rest) rest → next ≡ behind packed s (k + 1)
  unfolding behind
  walk_on e = rw (add-one, ← here) e

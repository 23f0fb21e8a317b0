-- Rows 21 to 26 have numbers of their own: computed from the definitions.
use mathlib.Core.Path.{◌≡◌, refl}
use mathlib.Core.Bool.{true}
use mathlib.Core.List.{List}
use Prim.Native.Nat.{ℕ}
use Rattle.refusal.specs.Table.{numbered}
use Rattle.program.specs.Rows.{program_rows}

pub numbered-program_rows : (p : List ℕ) → numbered (program_rows p) ≡ true
unfolding program_rows
numbered-program_rows p = refl

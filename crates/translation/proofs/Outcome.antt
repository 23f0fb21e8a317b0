-- What translation and extension answer at each of their returns, by the rows' tests. Assumes nothing.
use mathlib.Core.Path.{◌≡◌, refl, ap}
use mathlib.Core.Bool.{Bool, true}
use mathlib.Core.List.{List, [], ◌∷◌, map}
use Prim.Native.Nat.{ℕ, ◌≤◌, ◌<◌}
use lib.ListN.{length}
use borrow.Author.Tests.{lt-ltb, le-ltb}
use Rattle.refusal.specs.Table.{Row, refused, accepted, answer, none}
use Rattle.refusal.specs.Rows.{row8, reading_rows}
use Rattle.refusal.specs.declared.Answer.{Answer}
use Rattle.refusal.proofs.Table.{answer_past, none_past}
use Rattle.wire.specs.Wire.{over}
use Rattle.wire.proofs.Outcome.{outcome_both, outcome-refused}
use Rattle.logic.specs.Value.{number}
use Rattle.logic.specs.Formula.{reading_of}
use Rattle.theory.specs.Image.{atom_count, book_of}
use Rattle.program.specs.Image.{image_of}
use Rattle.flat.specs.Flat.{flat}
use Rattle.flat.specs.Extension.{extend}
use Rattle.translation.specs.Outcome.{size_of, rule_total, translate_rows, translated, extend_rows, extended}

-- Of a translation whose image is `needed` bytes long:
module _ (packed : Bool) (t out : List ℕ) {needed : ℕ} (e : needed ≡ length (image_of packed (flat (book_of t)))) where
  -- the room is too short, and row 8 refuses,
  pub translate_short : length out < needed → (refused 8 needed ≡ answer (translate_rows packed t (length out)) (rule_total t)) × (out ≡ translated packed t out)
  unfolding translate_rows translated
  translate_short l = rw (← e, lt-ltb (length out) needed l) (refl, refl)

  -- or no row applies.
  pub translate-all : needed ≤ length out → {rules : ℕ} {after : List ℕ} → rules ≡ rule_total t → after ≡ over (image_of packed (flat (book_of t))) out
      → (accepted rules ≡ answer (translate_rows packed t (length out)) (rule_total t)) × (after ≡ translated packed t out)
  unfolding translate_rows translated
  translate-all l f g = rw (le-ltb (length out) (length (image_of packed (flat (book_of t)))) (rw e at l)) (ap accepted f, g)

-- Of an extension of a reading:
module _ (t reading out : List ℕ) where
  abbrev rows : List Row
  rows = extend_rows t reading (length out)

  abbrev rs : List Row
  rs = reading_rows (atom_count t) reading

  abbrev qs : List Row
  qs = row8 (size_of t) (length out) ∷ []

  -- the reading is refused by row 9 or 10,
  pub extend-reading : {a : Answer} → a ≡ answer rs 0 → (a.number ≡ 0 → ⊥) → (a ≡ answer rows (size_of t)) × (out ≡ extended t reading out)
  unfolding extend_rows extended
  extend-reading e refuses = outcome_both (outcome-refused rs qs (map number (extend (book_of t) (reading_of reading))) out (size_of t) 0 e refuses)

  module _ (fine : none rs ≡ true) {all : ℕ} (e : all ≡ size_of t) where
    -- the room is too short, and row 8 refuses,
    pub extend_short : length out < all → (refused 8 all ≡ answer rows (size_of t)) × (out ≡ extended t reading out)
    unfolding extend_rows extended
    extend_short l = rw (answer_past rs qs (size_of t) fine, none_past rs qs fine, ← e, lt-ltb (length out) all l) (refl, refl)

    -- or no row applies.
    pub extend-all : all ≤ length out → {after : List ℕ} → after ≡ over (map number (extend (book_of t) (reading_of reading))) out
        → (accepted all ≡ answer rows (size_of t)) × (after ≡ extended t reading out)
    unfolding extend_rows extended
    extend-all l g = rw (answer_past rs qs (size_of t) fine, none_past rs qs fine, ← e, le-ltb (length out) all l) (refl, g)

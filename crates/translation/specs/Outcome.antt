-- What translation and extension answer, and what their output holds then.
use Rattle.std.specs.Prelude.{Bool, List, [], ◌∷◌, ◌++◌, map, ℕ, length}
use Rattle.refusal.specs.Table.{Row}
use Rattle.refusal.specs.Rows.{row8, reading_rows}
use Rattle.wire.specs.Outcome.{written}
use Rattle.logic.specs.Value.{number}
use Rattle.logic.specs.Formula.{reading_of}
use Rattle.theory.specs.Image.{atom_count, book_of}
use Rattle.program.specs.Image.{image_of}
use Rattle.flat.specs.Flat.{flat}
use Rattle.flat.specs.Extension.{extend}

-- B and K of the program of a theory image.
abbrev pub size_of : List ℕ → ℕ
size_of t = (flat (book_of t)).size

abbrev pub rule_total : List ℕ → ℕ
rule_total t = length (flat (book_of t)).rules

-- The row of a translation of a checked theory image into either form; `room` is the output's length.
unfoldable pub translate_rows : (packed : Bool) → (t : List ℕ) → (room : ℕ) → List Row
translate_rows packed t room = row8 (length (image_of packed (flat (book_of t)))) room ∷ []

-- What the output holds then: the flat program's image over its start, or what it held where that row applies.
unfoldable pub translated : (packed : Bool) → (t out : List ℕ) → List ℕ
translated packed t out = written (translate_rows packed t (length out)) (image_of packed (flat (book_of t))) out

-- The rows of an extension of a reading, in the order tested.
unfoldable pub extend_rows : (t reading : List ℕ) → (room : ℕ) → List Row
extend_rows t reading room = reading_rows (atom_count t) reading ++ (row8 (size_of t) room ∷ [])

-- What the output holds then: the extension's bytes over its start, or what it held where a row applies.
unfoldable pub extended : (t reading out : List ℕ) → List ℕ
extended t reading out = written (extend_rows t reading (length out)) (map number (extend (book_of t) (reading_of reading))) out

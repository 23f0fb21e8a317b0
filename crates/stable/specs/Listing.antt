-- The listing: each answer set of a small theory as a 2-byte number, ascending.
use Rattle.std.specs.Prelude.{List, [], ◌∷◌, ◌++◌, map, ℕ, ◌*◌, ◌<◌, length, get_or}
use Rattle.wire.specs.Wire.{u16_bytes}
use Rattle.wire.specs.Outcome.{written}
use Rattle.refusal.specs.Limits.{most_listed}
use Rattle.refusal.specs.Table.{Row}
use Rattle.refusal.specs.Rows.{row8, row11}
use Rattle.logic.specs.Atoms.{Atoms}
use Rattle.logic.specs.AnswerSet.{answer_sets}
use Rattle.theory.specs.Book.{book_formulas}
use Rattle.theory.specs.Image.{atom_count, book_of}
use Rattle.stable.specs.Number.{number_of}

-- The answer sets of a theory, ascending.
abbrev pub sets_of : List ℕ → List Atoms
sets_of theory = answer_sets (atom_count theory) (book_formulas (book_of theory))

-- The rows of the listing after the theory's own: more atoms than are listed, and less room than two bytes for each set.
unfoldable pub sets_rows : (theory out : List ℕ) → List Row
sets_rows theory out = row11 (atom_count theory) most_listed ∷ row8 (2 * length (sets_of theory)) (length out) ∷ []

-- Each number as two bytes.
unfoldable pub numbers_bytes : List ℕ → List ℕ
numbers_bytes [] = []
numbers_bytes (c ∷ cs) = u16_bytes c ++ numbers_bytes cs

-- The bytes of the listing: each set as a number in which atom i weighs 2 to the i.
abbrev pub listing : List ℕ → List ℕ
listing theory = numbers_bytes (map number_of (sets_of theory))

-- The buffer as the listing leaves it: with the sets' numbers over its start, or unchanged where a row refuses.
abbrev pub listed : (theory out : List ℕ) → List ℕ
listed theory out = written (sets_rows theory out) (listing theory) out

-- Every number of the list is below each later one.
abbrev pub Ascending : List ℕ → Type 0
Ascending cs = (i j : ℕ) → i < j → j < length cs → get_or cs i 0 < get_or cs j 0

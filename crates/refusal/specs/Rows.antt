-- The rows of the refusal table that are about a call's arguments.
use Rattle.std.specs.Prelude.{Bool, true, false, cond, not, ◌&&◌, ◌||◌, List, [], ◌∷◌, ℕ, suc, eqb, ltb, get_or, length}
use Rattle.refusal.specs.Table.{Row}
use Rattle.refusal.specs.First.{first_such}

-- how many bytes are 2
unfoldable pub count_true : List ℕ → ℕ
count_true [] = 0
count_true (byte ∷ bytes) = cond (eqb byte 2) (suc (count_true bytes)) (count_true bytes)

-- a byte over 2; for a candidate, also a byte 1
abbrev pub wrong : Bool → ℕ → Bool
wrong candidate byte = ltb 2 byte || (candidate && eqb byte 1)

-- row 8: the output buffer's room is shorter than needed; its place is the bytes needed
abbrev pub row8 : ℕ → ℕ → Row
row8 needed room = record { number = 8; applies = ltb room needed; place = needed }

-- row 9: the interpretation's length is not the atom count; its place is the count wanted
abbrev pub row9 : ℕ → List ℕ → Row
row9 count bytes = record { number = 9; applies = not (eqb (length bytes) count); place = count }

-- row 10: a byte is wrong; its place is the first such index
abbrev pub row10 : Bool → List ℕ → Row
row10 candidate bytes = first_such 10 (λ i. wrong candidate (get_or bytes i 0)) (length bytes)

-- row 11: a number of atoms is over its limit; its place is that number
abbrev pub row11 : ℕ → ℕ → Row
row11 atoms limit = record { number = 11; applies = ltb limit atoms; place = atoms }

-- rows 9 and 10, for a candidate or not
unfoldable pub argument_rows : Bool → ℕ → List ℕ → List Row
argument_rows candidate count bytes = row9 count bytes ∷ row10 candidate bytes ∷ []

-- rows 9 and 10 for a reading
abbrev pub reading_rows : ℕ → List ℕ → List Row
reading_rows = argument_rows false

-- rows 9 and 10 for a candidate
abbrev pub candidate_rows : ℕ → List ℕ → List Row
candidate_rows = argument_rows true

-- The set of a candidate. All else here is an implementation note, on which no promise rests: the search goes through the subsets of a set by number.
use Rattle.std.specs.Prelude.{◌≡◌, Bool, true, false, List, [], ◌∷◌, map, ℕ, ◌+◌, ◌/◌, ◌%◌, ◌<◌, eqb, length, get_or}
use Rattle.refusal.specs.Rows.{wrong}
use Rattle.logic.specs.Value.{number}
use Rattle.logic.specs.Formula.{reading_of}
use Rattle.logic.specs.Atoms.{Atoms, here_of, reading}

-- The set of a candidate's bytes: the atoms that are true.
abbrev pub set_of : List ℕ → Atoms
set_of bytes = here_of (reading_of bytes)

-- Is the lowest bit of the number set?
abbrev pub odd : ℕ → Bool
odd m = eqb (m % 2) 1

-- The subset of T with the number m: the j-th atom of T is in it exactly if bit j of m is set.
unfoldable pub subset : Atoms → ℕ → Atoms
subset [] m = []
subset (true ∷ T) m = odd m ∷ subset T (m / 2)
subset (false ∷ T) m = false ∷ subset T m

-- The candidate of a set: 2 on its atoms, 0 elsewhere.
unfoldable pub candidate_of : Atoms → List ℕ
candidate_of T = map number (reading T T)

-- The bytes are a candidate's: none is wrong.
abbrev pub Candidate : List ℕ → Type 0
Candidate bytes = (i : ℕ) → i < length bytes → wrong true (get_or bytes i 0) ≡ false

-- The bytes with 2 on the subset of T with the number m, 1 on the rest of T, 0 elsewhere.
unfoldable pub lowered : Atoms → ℕ → List ℕ
lowered T m = map number (reading (subset T m) T)

-- Where the atoms of T stand, ascending, if T itself begins at i.
unfoldable pub places_from : (i : ℕ) → Atoms → List ℕ
places_from i [] = []
places_from i (true ∷ T) = i ∷ places_from (i + 1) T
places_from i (false ∷ T) = places_from (i + 1) T

abbrev pub places_of : Atoms → List ℕ
places_of T = places_from 0 T

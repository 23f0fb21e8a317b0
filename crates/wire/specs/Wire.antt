-- Little-endian numbers of two and four bytes, numbers below a bound, and what writing over the start of a list leaves.
use Rattle.std.specs.Prelude.{Bool, true, ◌&&◌, List, [], ◌∷◌, ◌++◌, ℕ, ◌+◌, ◌*◌, ◌/◌, ◌%◌, ◌<◌, ltb, length, get_or, drop}

-- the number of two bytes at an index
abbrev pub u16_at : List ℕ → ℕ → ℕ
u16_at s i = get_or s i 0 + get_or s (i + 1) 0 * 256

-- the number of four bytes at an index
abbrev pub u32_at : List ℕ → ℕ → ℕ
u32_at s i = u16_at s i + u16_at s (i + 2) * 65536

-- the two bytes of a number below 65,536
abbrev pub u16_bytes : ℕ → List ℕ
u16_bytes n = n % 256 ∷ n / 256 % 256 ∷ []

-- the four bytes of a number below 4,294,967,296
abbrev pub u32_bytes : ℕ → List ℕ
u32_bytes n = u16_bytes n ++ u16_bytes (n / 65536)

-- every number of a list is a byte
abbrev pub Bytes : List ℕ → Type 0
Bytes s = (i : ℕ) → get_or s i 0 < 256

-- every number of a list is below n
abbrev pub all_below : (n : ℕ) → List ℕ → Bool
all_below n [] = true
all_below n (k ∷ ks) = ltb k n && all_below n ks

-- new bytes written over the start of the old: those past the written part are unchanged
abbrev pub over : List ℕ → List ℕ → List ℕ
over new old = new ++ drop (length new) old

-- Rows 21 to 26 of the refusal table: what a program image is refused for.
use Rattle.std.specs.Prelude.{Bool, not, ◌||◌, cond, List, [], ◌∷◌, ℕ, ◌+◌, ◌*◌, eqb, leb, ltb, length}
use Rattle.refusal.specs.Table.{Row}
use Rattle.refusal.specs.First.{first_such}
use Rattle.refusal.specs.Limits.{most_atoms, most_b, most_rules}
use Rattle.wire.specs.Wire.{u16_at, u32_at}
use Rattle.program.specs.Image.{atom_count, size_of, rule_count, is_packed, total_of, header_length, rule_section, behind, rule_keeps}

-- A, B or K is outside its limits.
abbrev pub outside : (A B K : ℕ) → Bool
outside A B K = ltb most_atoms A || (ltb B A || (ltb most_b B || ltb most_rules K))

-- Row 21: the program is shorter than 16 bytes.
abbrev pub row21 : List ℕ → Row
row21 p = record { number = 21; applies = ltb (length p) header_length; place = 0 }

-- Row 22: A, B or K is outside its limits.
abbrev pub row22 : List ℕ → Row
row22 p = record { number = 22; applies = outside (atom_count p) (size_of p) (rule_count p); place = 0 }

-- Row 23: bytes 6-7 are neither 0 nor 1.
abbrev pub row23 : List ℕ → Row
row23 p = record { number = 23; applies = ltb 1 (u16_at p 6); place = 0 }

-- The total that an image of K rules may have: in the fixed form one alone, in the packed form any that has room for the header.
abbrev pub total_keeps : (packed : Bool) → (K total : ℕ) → Bool
total_keeps packed K total = cond packed (leb header_length total) (eqb total (header_length + K * 10))

-- Row 24: the rule offset or the total length field differs.
abbrev pub row24 : List ℕ → Row
row24 p = record { number = 24; applies = not (eqb (u32_at p 8) header_length) || not (total_keeps (is_packed p) (rule_count p) (total_of p)); place = 0 }

-- Row 25: the image's length differs from the total; its place is the length wanted.
abbrev pub row25 : List ℕ → Row
row25 p = record { number = 25; applies = not (eqb (length p) (total_of p)); place = total_of p }

-- What is wrong at k: rule k does not keep to its form, or, where k is K, bytes are left behind the last rule.
abbrev pub broken_at : (packed : Bool) → (B K : ℕ) → List ℕ → (k : ℕ) → Bool
broken_at packed B K s k = cond (ltb k K) (not (rule_keeps packed B (behind packed s k))) (ltb 0 (length (behind packed s k)))

-- Row 26: a rule has too many literals, runs past the end, has a zero byte that is not 0, an atom not below B, or an unused slot that is not 0;
-- its place is the first such rule, and K where bytes are left behind the last.
abbrev pub rules_row : (packed : Bool) → (B K : ℕ) → List ℕ → Row
rules_row packed B K s = first_such 26 (broken_at packed B K s) (K + 1)

abbrev pub row26 : List ℕ → Row
row26 p = rules_row (is_packed p) (size_of p) (rule_count p) (rule_section p)

-- The rows about the header alone.
abbrev pub header_rows : List ℕ → List Row
header_rows p = row21 p ∷ row22 p ∷ row23 p ∷ row24 p ∷ row25 p ∷ []

-- The rows of a program image, in the order tested.
unfoldable pub program_rows : List ℕ → List Row
program_rows p = row21 p ∷ row22 p ∷ row23 p ∷ row24 p ∷ row25 p ∷ row26 p ∷ []

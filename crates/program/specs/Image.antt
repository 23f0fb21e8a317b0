-- The program image in its two forms, fixed and packed: where its numbers stand, the program that it is, and the image of a program.
use Rattle.std.specs.Prelude.{Bool, true, cond, ◌&&◌, List, [], ◌∷◌, ◌++◌, ℕ, zero, suc, ◌+◌, ◌*◌, eqb, leb, ltb, get_or, length, drop}
use Rattle.wire.specs.Wire.{u16_at, u32_at, u16_bytes, u32_bytes}
use Rattle.wire.specs.Sequence.{up_to}
use Rattle.program.specs.Rule.{Rule}
use Rattle.program.specs.Program.{Program}

-- A, B and K of the header.
abbrev pub atom_count : List ℕ → ℕ
atom_count p = u16_at p 0

abbrev pub size_of : List ℕ → ℕ
size_of p = u16_at p 2

abbrev pub rule_count : List ℕ → ℕ
rule_count p = u16_at p 4

-- The form: bytes 6-7 are 1 in a packed image, and 0 in a fixed one.
abbrev pub is_packed : List ℕ → Bool
is_packed p = eqb (u16_at p 6) 1

-- The length of the whole image.
abbrev pub total_of : List ℕ → ℕ
total_of p = u32_at p 12

-- The header has 16 bytes,
abbrev pub header_length : ℕ
header_length = 16

-- and the rules start behind it.
abbrev pub rule_section : List ℕ → List ℕ
rule_section p = drop header_length p

-- The two numbers in which the forms differ: the most literals that a rule has,
abbrev pub most_literals : (packed : Bool) → ℕ
most_literals packed = cond packed 8 3

-- and the slots of a rule of so many literals.
abbrev pub slot_count : (packed : Bool) → (used : ℕ) → ℕ
slot_count packed used = cond packed used 3

-- The length of such a rule: three counts and a zero byte, and two bytes for each slot.
abbrev pub rule_length : (packed : Bool) → (used : ℕ) → ℕ
rule_length packed used = 4 + slot_count packed used * 2

-- Reading, from the start of a slice.

-- The number of literals of the rule at the start: its heads, positives and negatives.
abbrev pub used_at : List ℕ → ℕ
used_at s = get_or s 0 0 + get_or s 1 0 + get_or s 2 0

-- What stands in its slot i.
abbrev pub slot_at : List ℕ → (i : ℕ) → ℕ
slot_at s i = u16_at s (4 + i * 2)

-- What stands in n of its slots, from slot i on.
abbrev pub slots_from : List ℕ → (i n : ℕ) → List ℕ
slots_from s i n = up_to (λ j. slot_at s (i + j)) n

-- The rule at the start: heads, then positives, then negatives stand in its slots.
abbrev pub rule_at : List ℕ → Rule
rule_at s = record {
  heads = slots_from s 0 (get_or s 0 0);
  positives = slots_from s (get_or s 0 0) (get_or s 1 0);
  negatives = slots_from s (get_or s 0 0 + get_or s 1 0) (get_or s 2 0);
}

-- Its length,
abbrev pub length_at : (packed : Bool) → List ℕ → ℕ
length_at packed s = rule_length packed (used_at s)

-- and what is left behind k rules: the rest behind the rule at the start of what is left behind those before.
unfoldable pub behind : (packed : Bool) → List ℕ → (k : ℕ) → List ℕ
behind packed s zero = s
behind packed s (suc k) = drop (length_at packed (behind packed s k)) (behind packed s k)

-- The first K rules.
abbrev pub rules_in : (packed : Bool) → List ℕ → (K : ℕ) → List Rule
rules_in packed s = up_to (λ k. rule_at (behind packed s k))

-- The program of an image.
unfoldable pub program_of : List ℕ → Program
program_of p = record { atoms = atom_count p; size = size_of p; rules = rules_in (is_packed p) (rule_section p) (rule_count p) }

-- What a rule keeps to.

-- Slot i of a rule of so many literals holds an atom below B, and 0 where it is unused.
abbrev pub slot_keeps : (B used i atom : ℕ) → Bool
slot_keeps B used i a = cond (ltb i used) (ltb a B) (eqb a 0)

-- Each of the first n slots does.
unfoldable pub slots_keep : (B used : ℕ) → (slot : ℕ → ℕ) → (n : ℕ) → Bool
slots_keep B used slot zero = true
slots_keep B used slot (suc n) = slots_keep B used slot n && slot_keeps B used n (slot n)

-- The rule at the start has no more literals than its form allows, does not run past the end, and has a zero byte that is 0, atoms below B, and 0 in its unused slots.
abbrev pub rule_keeps : (packed : Bool) → (B : ℕ) → List ℕ → Bool
rule_keeps packed B s =
    leb (used_at s) (most_literals packed)
    && (leb (length_at packed s) (length s) && (eqb (get_or s 3 0) 0 && slots_keep B (used_at s) (slot_at s) (slot_count packed (used_at s))))

-- Writing.

-- The literals of a rule: heads, then positives, then negatives.
abbrev pub literals : Rule → List ℕ
literals r = r.heads ++ (r.positives ++ r.negatives)

-- How many literals the rules have.
abbrev pub literal_total : List Rule → ℕ
literal_total [] = 0
literal_total (r ∷ rs) = length (literals r) + literal_total rs

-- The bytes of n slots: the list's numbers, and 0 where it ends.
unfoldable pub slot_bytes : List ℕ → (n : ℕ) → List ℕ
slot_bytes l zero = []
slot_bytes l (suc n) = slot_bytes l n ++ u16_bytes (get_or l n 0)

-- The bytes of a rule of so many heads, positives and negatives: the three counts, a zero byte, and its slots.
abbrev pub counted_bytes : (packed : Bool) → (heads positives negatives : ℕ) → (slots : List ℕ) → List ℕ
counted_bytes packed h p n slots = h ∷ p ∷ n ∷ 0 ∷ slot_bytes slots (slot_count packed (h + p + n))

unfoldable pub rule_bytes : (packed : Bool) → Rule → List ℕ
rule_bytes packed r = counted_bytes packed (length r.heads) (length r.positives) (length r.negatives) (literals r)

-- The bytes of a list of rules.
unfoldable pub rules_bytes : (packed : Bool) → List Rule → List ℕ
rules_bytes packed [] = []
rules_bytes packed (r ∷ rs) = rule_bytes packed r ++ rules_bytes packed rs

-- The length of the image of K rules that have so many literals in all.
abbrev pub image_length : (packed : Bool) → (K literals : ℕ) → ℕ
image_length packed K literals = header_length + cond packed (K * 4 + literals * 2) (K * 10)

-- The header of an image of K rules, with its total length.
unfoldable pub header : (packed : Bool) → (A B K total : ℕ) → List ℕ
header packed A B K total = u16_bytes A ++ (u16_bytes B ++ (u16_bytes K ++ (u16_bytes (cond packed 1 0) ++ (u32_bytes header_length ++ u32_bytes total))))

-- The image of a program.
unfoldable pub image_of : (packed : Bool) → Program → List ℕ
image_of packed p =
    let rules = rules_bytes packed p.rules in
    header packed p.atoms p.size (length p.rules) (header_length + length rules) ++ rules

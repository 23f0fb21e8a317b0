-- How long the parts of an image are: a slot has two bytes, a header sixteen, and a rule and a list of rules go by induction. Assumes nothing.
use mathlib.Core.Path.{◌≡◌, refl}
use mathlib.Core.Bool.{Bool, true, false}
use mathlib.Core.List.{List, [], ◌∷◌, ◌++◌, append_assoc, append-nil}
use Prim.Native.Nat.{ℕ, zero, suc, ◌+◌, ◌*◌}
use native.Mathlib.Omega.{arith}
use lib.ListN.{length, length-append}
use Rattle.program.specs.Rule.{Rule}
use Rattle.program.specs.Program.{Program}
use Rattle.program.specs.Image.{header_length, slot_count, rule_length, literals, literal_total, slot_bytes, counted_bytes, rule_bytes, rules_bytes, image_length, header, image_of}

pub length-slot_bytes : (l : List ℕ) (n : ℕ) → length (slot_bytes l n) ≡ n * 2
unfolding slot_bytes
length-slot_bytes l zero = refl
length-slot_bytes l (suc n) = rw length-append (omega (arith, length-slot_bytes l n))

pub ruleset slot_lengths = (length-slot_bytes)

-- The bytes of a rule of so many counts have its length.
pub length-counted_bytes : (packed : Bool) (h p n : ℕ) (slots : List ℕ) → length (counted_bytes packed h p n slots) ≡ rule_length packed (h + p + n)
length-counted_bytes packed h p n slots = omega (arith, length-slot_bytes slots (slot_count packed (h + p + n)))

-- The counts of a rule are its number of literals.
pub literals_counted : (r : Rule) → length r.heads + length r.positives + length r.negatives ≡ length (literals r)
literals_counted r = omega (arith, length-append r.heads (r.positives ++ r.negatives), length-append r.positives r.negatives)

pub length-rule_bytes : (packed : Bool) (r : Rule) → length (rule_bytes packed r) ≡ rule_length packed (length (literals r))
unfolding rule_bytes
length-rule_bytes packed r =
    rw (← literals_counted r) (length-counted_bytes packed (length r.heads) (length r.positives) (length r.negatives) (literals r))

pub length-header : (packed : Bool) (A B K total : ℕ) → length (header packed A B K total) ≡ header_length
unfolding header
length-header packed A B K total = refl

pub length-rules_bytes : (packed : Bool) (rs : List Rule) → header_length + length (rules_bytes packed rs) ≡ image_length packed (length rs) (literal_total rs)
unfolding rules_bytes
length-rules_bytes true [] = refl
length-rules_bytes false [] = refl
length-rules_bytes true (r ∷ rs) = rw length-append (omega (arith, length-rule_bytes true r, length-rules_bytes true rs))
length-rules_bytes false (r ∷ rs) = rw length-append (omega (arith, length-rule_bytes false r, length-rules_bytes false rs))

pub length-image_of : (packed : Bool) (p : Program) → length (image_of packed p) ≡ header_length + length (rules_bytes packed p.rules)
unfolding image_of
length-image_of packed p =
    rw length-append (omega (arith, length-header packed p.atoms p.size (length p.rules) (header_length + length (rules_bytes packed p.rules))))

-- The bytes of two lists of rules stand one behind the other.
pub rules_bytes-append : (packed : Bool) (rs qs : List Rule) → rules_bytes packed (rs ++ qs) ≡ rules_bytes packed rs ++ rules_bytes packed qs
unfolding rules_bytes
rules_bytes-append packed [] qs = refl
rules_bytes-append packed (r ∷ rs) qs = rw (rules_bytes-append packed rs qs, append_assoc)

-- One rule more.
pub rules_bytes_more : (packed : Bool) (rs : List Rule) (r : Rule) → rules_bytes packed (rs ++ (r ∷ [])) ≡ rules_bytes packed rs ++ rule_bytes packed r
unfolding rules_bytes
rules_bytes_more packed rs r = rw (rules_bytes-append packed rs (r ∷ []), append-nil (rule_bytes packed r))

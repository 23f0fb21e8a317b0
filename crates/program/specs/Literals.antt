-- The literals of a rule as the code walks along them and writes them: notes on the code, which no public promise names.
use Rattle.std.specs.Prelude.{Bool, true, cond, List, ◌∷◌, ◌++◌, ℕ, ◌+◌, ◌*◌, ◌≤◌, ◌<◌, ltb, length, take}
use Rattle.wire.specs.Wire.{u16_bytes, over}
use Rattle.logic.specs.declared.Value.{Value}
use Rattle.logic.specs.Value.{negation}
use Rattle.logic.specs.Formula.{Reading, value_of}
use Rattle.program.specs.Image.{most_literals, rule_length, used_at, slot_at, slot_bytes, counted_bytes}

-- The rule at the start of a slice has all its literals there, and each is below a size.
pub record Named (s : List ℕ) (size : ℕ) : Type 0 where
  pub few : used_at s ≤ most_literals true
  pub whole : rule_length true (used_at s) ≤ length s
  pub below : (i : ℕ) → i < used_at s → slot_at s i < size

-- The value of a literal: that of its atom, or of not its atom.
abbrev pub literal_value : (negative : Bool) → Reading → ℕ → Value
literal_value negative J a = cond negative (negation (value_of J a)) (value_of J a)

-- Bytes in which slot j of a rule was written behind its counts, if it is one of the first n.
abbrev pub slot_put : (n j slot : ℕ) → List ℕ → List ℕ
slot_put n j slot out = cond (ltb j n) (over (take (4 + j * 2) out ++ u16_bytes slot) out) out

-- A rule as the code holds it: how many heads, positives and negatives it has, and what stands in its slots.
pub record Slotted : Type 0 where
  pub heads : ℕ
  pub positives : ℕ
  pub negatives : ℕ
  pub slots : List ℕ

-- How many literals it has,
abbrev pub slotted_used : Slotted → ℕ
slotted_used r = r.heads + r.positives + r.negatives

-- the bytes of its counts and of its first n slots,
abbrev pub first_bytes : (n : ℕ) → Slotted → List ℕ
first_bytes n r = r.heads ∷ r.positives ∷ r.negatives ∷ 0 ∷ slot_bytes r.slots n

-- and its bytes.
abbrev pub slotted_bytes : (packed : Bool) → Slotted → List ℕ
slotted_bytes packed r = counted_bytes packed r.heads r.positives r.negatives r.slots

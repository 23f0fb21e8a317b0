-- The rule table in numbers, as the code has it: a row for each rule, and where the rows of each kind stand. Notes on the code, which no public promise names.
use Rattle.std.specs.Prelude.{◌≡◌, cond, List, [], ◌∷◌, ℕ, ◌+◌, ◌≤◌, ◌<◌, eqb, ltb, length, get_or, take, drop}
use Rattle.wire.specs.Sequence.{up_to}
use Rattle.program.specs.Rule.{RuleOf}
use Rattle.theory.specs.declared.Kind.{Kind}
use Rattle.theory.specs.declared.Kind.TheVariants.{False, True, Atom, Not, And, Or, Implies}
use Rattle.flat.specs.Table.{Slot, x, y, L, M, rows}

-- A row: heads, positives, negatives, and which term in which slot, where x is 0, y 1, L 2 and M 3; 4 is an unused slot.
abbrev shape : (heads positives negatives : ℕ) → (first second third : ℕ) → List ℕ
shape h p n a b c = h ∷ p ∷ n ∷ a ∷ b ∷ c ∷ []

-- A row for each rule.
abbrev pub shapes : List (List ℕ)
shapes =
    shape 1 0 1 2 0 4 ∷  -- L ← not x
    shape 0 2 0 2 0 4 ∷  -- ← L, x
    shape 1 1 0 0 2 4 ∷  -- x ← L
    shape 1 1 0 1 2 4 ∷  -- y ← L
    shape 1 2 0 2 0 1 ∷  -- L ← x, y
    shape 1 1 0 2 0 4 ∷  -- L ← x
    shape 1 1 0 2 1 4 ∷  -- L ← y
    shape 2 1 0 0 1 2 ∷  -- x | y ← L
    shape 1 2 0 1 2 0 ∷  -- y ← L, x
    shape 1 0 1 2 0 4 ∷  -- L ← not x
    shape 1 1 0 2 1 4 ∷  -- L ← y
    shape 3 0 0 0 3 2 ∷  -- x | M | L ←
    shape 1 0 1 3 1 4 ∷  -- M ← not y
    shape 0 2 0 3 1 4 ∷  -- ← M, y
    []

-- The first row of each kind,
abbrev pub first_row : Kind → ℕ
first_row False = 0
first_row True = 0
first_row Atom = 0
first_row Not = 0
first_row And = 2
first_row Or = 5
first_row Implies = 8

-- and its rows.
abbrev pub kind_shapes : Kind → List (List ℕ)
kind_shapes kind = take (length (rows kind)) (drop (first_row kind) shapes)

-- How many literals rows have.
abbrev pub row_literals : RuleOf Slot → ℕ
row_literals r = length r.heads + length r.positives + length r.negatives

abbrev pub rows_literals : List (RuleOf Slot) → ℕ
rows_literals [] = 0
rows_literals (r ∷ rs) = row_literals r + rows_literals rs

-- How many slots a row uses.
abbrev pub used_by : List ℕ → ℕ
used_by s = get_or s 0 0 + get_or s 1 0 + get_or s 2 0

-- A row that can be filled: it has at most three literals, and the slots that it uses, and no others, name x, y, L or M.
abbrev pub Named : List ℕ → Type 0
Named s = (j : ℕ) → j < 6 → get_or s j 0 < 5

pub record Fillable (s : List ℕ) : Type 0 where
  pub named : Named s
  pub few : used_by s ≤ 3
  pub slots : (j : ℕ) → j < 3 → ltb (get_or s (3 + j) 0) 4 ≡ ltb j (used_by s)

-- The slot of a number, and the number of a slot.
abbrev pub slot_of : ℕ → Slot
slot_of n = cond (eqb n 0) x (cond (eqb n 1) y (cond (eqb n 2) L M))

abbrev pub slot_number : Slot → ℕ
slot_number x = 0
slot_number y = 1
slot_number L = 2
slot_number M = 3

-- The rule of a row: its heads stand from 3 on, then its positives, then its negatives.
abbrev pub slots_from : List ℕ → (start count : ℕ) → List Slot
slots_from s start count = up_to (λ j. slot_of (get_or s (start + j) 0)) count

abbrev pub shape_rule : List ℕ → RuleOf Slot
shape_rule s = record {
  heads = slots_from s 3 (get_or s 0 0);
  positives = slots_from s (3 + get_or s 0 0) (get_or s 1 0);
  negatives = slots_from s (3 + get_or s 0 0 + get_or s 1 0) (get_or s 2 0);
}

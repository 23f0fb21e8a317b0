-- The rule table: for each kind of node its labels and its rules.
use Rattle.std.specs.Prelude.{List, [], ◌∷◌, ℕ}
use Rattle.theory.specs.declared.Kind.{Kind}
use Rattle.theory.specs.declared.Kind.TheVariants.{False, True, Atom, Not, And, Or, Implies}
use Rattle.program.specs.Rule.{RuleOf}

-- What stands in a row: the terms x of left and y of right, the label L, and M, the label for the negation of right.
pub data Slot : Type 0 where
  x y L M : Slot

-- A rule of the table: heads ← positives, not negatives.
abbrev row : (heads positives negatives : List Slot) → RuleOf Slot
row h p n = record { heads = h; positives = p; negatives = n }

-- A row for each rule.
abbrev pub rows : Kind → List (RuleOf Slot)
rows False = []
rows True = []
rows Atom = []
rows Not =
    row (L ∷ []) [] (x ∷ []) ∷  -- L ← not x
    row [] (L ∷ x ∷ []) [] ∷  -- ← L, x
    []
rows And =
    row (x ∷ []) (L ∷ []) [] ∷  -- x ← L
    row (y ∷ []) (L ∷ []) [] ∷  -- y ← L
    row (L ∷ []) (x ∷ y ∷ []) [] ∷  -- L ← x, y
    []
rows Or =
    row (L ∷ []) (x ∷ []) [] ∷  -- L ← x
    row (L ∷ []) (y ∷ []) [] ∷  -- L ← y
    row (x ∷ y ∷ []) (L ∷ []) [] ∷  -- x | y ← L
    []
rows Implies =
    row (y ∷ []) (L ∷ x ∷ []) [] ∷  -- y ← L, x
    row (L ∷ []) [] (x ∷ []) ∷  -- L ← not x
    row (L ∷ []) (y ∷ []) [] ∷  -- L ← y
    row (x ∷ M ∷ L ∷ []) [] [] ∷  -- x | M | L ←
    row (M ∷ []) [] (y ∷ []) ∷  -- M ← not y
    row [] (M ∷ y ∷ []) [] ∷  -- ← M, y
    []

-- How many labels a kind takes: L, and for implies M too.
abbrev pub label_count : Kind → ℕ
label_count False = 0
label_count True = 0
label_count Atom = 0
label_count Not = 1
label_count And = 1
label_count Or = 1
label_count Implies = 2

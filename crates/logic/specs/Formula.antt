-- Formulas, their value under a reading, and what it is to satisfy a list of them.
use Rattle.std.specs.Prelude.{Bool, true, ◌&&◌, List, [], ◌∷◌, map, ℕ, ◌<◌, get_or}
use Rattle.logic.specs.declared.Value.{Value}
use Rattle.logic.specs.declared.Value.TheVariants.{Neither, Both}
use Rattle.logic.specs.Value.{of_byte, smaller, larger, negation, implication, true_here}

-- False, true, an atom by its number, not, and, or, left implies right.
pub data Formula : Type 0 where
  falsum verum : Formula
  atom : ℕ → Formula
  neg : Formula → Formula
  conj disj impl : Formula → Formula → Formula

-- A reading, or interpretation: a value for each atom, atom 0 first.
abbrev pub Reading : Type 0
Reading = List Value

-- The reading of a list of bytes.
abbrev pub reading_of : List ℕ → Reading
reading_of bytes = map of_byte bytes

-- The value of an atom; 0 past the reading's end.
abbrev pub value_of : Reading → ℕ → Value
value_of I a = get_or I a Neither

-- The value of a formula under a reading.
abbrev pub value : Reading → Formula → Value
value I falsum = Neither
value I verum = Both
value I (atom a) = value_of I a
value I (neg f) = negation (value I f)
value I (conj f g) = smaller (value I f) (value I g)
value I (disj f g) = larger (value I f) (value I g)
value I (impl f g) = implication (value I f) (value I g)

-- Every formula has the value 2; with none this always holds.
abbrev pub satisfies : Reading → List Formula → Bool
satisfies I [] = true
satisfies I (f ∷ Γ) = true_here (value I f) && satisfies I Γ

-- The formula's atoms are all below n.
abbrev pub Over : ℕ → Formula → Type 0
Over n falsum = Unit {0}
Over n verum = Unit {0}
Over n (atom a) = a < n
Over n (neg f) = Over n f
Over n (conj f g) = Over n f × Over n g
Over n (disj f g) = Over n f × Over n g
Over n (impl f g) = Over n f × Over n g

-- The atoms of all formulas are below n.
abbrev pub AllOver : ℕ → List Formula → Type 0
AllOver n [] = Unit {0}
AllOver n (f ∷ Γ) = Over n f × AllOver n Γ

-- Sets of atoms, and the readings that two of them make.
use Rattle.std.specs.Prelude.{Bool, true, false, not, ◌&&◌, ◌||◌, List, [], ◌∷◌, map, ℕ, zero, suc, get_or}
use Rattle.logic.specs.declared.Value.{Value}
use Rattle.logic.specs.declared.Value.TheVariants.{Neither, There, Both}
use Rattle.logic.specs.Value.{true_here, true_there}
use Rattle.logic.specs.Formula.{Reading}

-- A set of atoms below n is a list of n Bools: is atom 0 in it, atom 1, and so on.
abbrev pub Atoms : Type 0
Atoms = List Bool

-- Is atom a in the set?
abbrev pub member : Atoms → ℕ → Bool
member T a = get_or T a false

-- H is a subset of T, both sets of as many atoms.
abbrev pub inside : (H T : Atoms) → Bool
inside [] [] = true
inside [] (t ∷ T) = false
inside (h ∷ H) [] = false
inside (h ∷ H) (t ∷ T) = (not h || t) && inside H T

-- H is a proper subset of T.
abbrev pub proper : (H T : Atoms) → Bool
proper H T = inside H T && not (inside T H)

-- The value of an atom, by whether it is in H and whether it is in T.
abbrev pub mark : (h t : Bool) → Value
mark true t = Both
mark false true = There
mark false false = Neither

-- The reading of the pair (H, T): 2 on H, 1 on the rest of T, 0 elsewhere.
abbrev pub reading : (H T : Atoms) → Reading
reading [] T = []
reading (h ∷ H) [] = []
reading (h ∷ H) (t ∷ T) = mark h t ∷ reading H T

-- The pair of a reading: the atoms that are true here, and those that are true there.
abbrev pub here_of : Reading → Atoms
here_of I = map true_here I

abbrev pub there_of : Reading → Atoms
there_of I = map true_there I

-- Each set of the list without the atom 0 and with it; its other atoms move up by one.
abbrev pub with_and_without : List Atoms → List Atoms
with_and_without [] = []
with_and_without (T ∷ Ts) = (false ∷ T) ∷ (true ∷ T) ∷ with_and_without Ts

-- All sets of atoms below n, ascending where atom i weighs 2 to the i.
abbrev pub all_sets : ℕ → List Atoms
all_sets zero = [] ∷ []
all_sets (suc n) = with_and_without (all_sets n)

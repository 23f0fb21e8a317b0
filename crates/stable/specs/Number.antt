-- Sets of atoms as numbers in which atom i weighs 2 to the i.
use Rattle.std.specs.Prelude.{cond, [], ◌∷◌, ℕ, zero, suc, ◌+◌, ◌*◌, ◌/◌}
use Rattle.logic.specs.Atoms.{Atoms}
use Rattle.stable.specs.Subset.{odd}

-- The number of a set.
unfoldable pub number_of : Atoms → ℕ
number_of [] = 0
number_of (b ∷ T) = cond b 1 0 + 2 * number_of T

-- The set of atoms below n that has the number c.
unfoldable pub set_of_number : (n c : ℕ) → Atoms
set_of_number zero c = []
set_of_number (suc n) c = odd c ∷ set_of_number n (c / 2)

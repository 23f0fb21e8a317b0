-- The first items of a numbered sequence, as a list.
use Rattle.std.specs.Prelude.{List, [], ◌∷◌, ◌++◌, ℕ, zero, suc}

-- f 0, f 1, .. and so on: n items.
unfoldable pub up_to : {S : Type 0} → (ℕ → S) → (n : ℕ) → List S
up_to f zero = []
up_to f (suc n) = up_to f n ++ (f n ∷ [])

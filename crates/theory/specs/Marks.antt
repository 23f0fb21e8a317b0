-- An implementation note, on which no promise rests: what is used is marked in a byte for each node.
use Rattle.std.specs.Prelude.{List, [], ◌∷◌, ℕ, set}

-- The bytes with a 1 at each of some numbers.
abbrev pub marked : List ℕ → (marks : List ℕ) → List ℕ
marked [] marks = marks
marked (k ∷ ks) marks = marked ks (set marks k 1)

-- The first elements of a mapped list, by induction on their number.
use mathlib.Core.Path.{◌≡◌, refl, ap}
use mathlib.Core.List.{List, [], ◌∷◌, map}
use Prim.Native.Nat.{ℕ, zero, suc}
use lib.ListN.{take}

module _ {S T : Type 0} (f : S → T) where
  pub take-map : (n : ℕ) (l : List S) → take n (map f l) ≡ map f (take n l)
  take-map zero l = refl
  take-map (suc n) [] = refl
  take-map (suc n) (s ∷ l) = ap (λ r. f s ∷ r) (take-map n l)

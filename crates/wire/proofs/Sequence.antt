-- Laws of the first items of a sequence, by induction on their number.
use mathlib.Core.Path.{◌≡◌, refl, ◌∙◌, ap, ap₂}
use mathlib.Core.Logic.{⊎_elim}
use mathlib.Core.Bool.{cond}
use mathlib.Core.List.{[], ◌∷◌, ◌++◌, map, map-append, append_assoc, append-nil}
use Prim.Native.Nat.{ℕ, zero, suc, ◌+◌, ◌<◌}
use native.Mathlib.Nat.{add-zero, add-suc, eq-or-lt_of_le}
use native.Mathlib.Numerals.{add-one}
use native.Mathlib.Omega.{arith}
use lib.Dec.{ltb}
use lib.ListN.{length, get_or, length-append, get_or-append, get_or-eq_default}
use lib.Seq.{get_or_at}
use borrow.Author.Tests.{ltb-true, ltb-false}
use Rattle.refusal.proofs.Table.{cases}
use Rattle.wire.specs.Sequence.{up_to}

module _ {S : Type 0} where
  pub up_to-none : (f : ℕ → S) → up_to f 0 ≡ []
  unfolding up_to
  up_to-none f = refl

  -- One item more.
  pub up_to_more : (f : ℕ → S) (n : ℕ) → up_to f (n + 1) ≡ up_to f n ++ (f n ∷ [])
  unfolding up_to
  up_to_more f n = rw add-one

  pub length-up_to : (f : ℕ → S) (n : ℕ) → length (up_to f n) ≡ n
  unfolding up_to
  length-up_to f zero = refl
  length-up_to f (suc n) = rw length-append (omega (arith, length-up_to f n))

  -- Item k stands at k.
  pub get_d_up_to : (f : ℕ → S) (n k : ℕ) (d : S) → k < n → get_or (up_to f n) k d ≡ f k
  unfolding up_to
  get_d_up_to f zero k d h = absurd (omega arith)
  get_d_up_to f (suc n) k d h = ⊎_elim
      (λ (e : suc k ≡ suc n). let m : k ≡ n = omega arith in rw m (get_or_at (up_to f n) (f n) [] d n (length-up_to f n)))
      (λ (l : suc k < suc n). get_or-append (up_to f n) (f n ∷ []) d k (omega (arith, length-up_to f n)) ∙ get_d_up_to f n k d (omega arith))
      (eq-or-lt_of_le h)

  -- Sequences that agree below n have the same first n items.
  pub up_to_equal : (f g : ℕ → S) (n : ℕ) → ((k : ℕ) → k < n → f k ≡ g k) → up_to f n ≡ up_to g n
  unfolding up_to
  up_to_equal f g zero h = refl
  up_to_equal f g (suc n) h = ap₂ (λ l s. l ++ (s ∷ [])) (up_to_equal f g n (λ k l. h k (omega arith))) (h n (omega arith))

pub map-up_to : {S T : Type 0} (g : S → T) (f : ℕ → S) (n : ℕ) → map g (up_to f n) ≡ up_to (λ k. g (f k)) n
unfolding up_to
map-up_to g f zero = refl
map-up_to g f (suc n) = map-append g (up_to f n) (f n ∷ []) ∙ ap (λ l. l ++ (g (f n) ∷ [])) (map-up_to g f n)

module _ {S : Type 0} (f : ℕ → S) where
  -- The items of two stretches.
  pub up_to-append : (m n : ℕ) → up_to f (m + n) ≡ up_to f m ++ up_to (λ j. f (m + j)) n
  unfolding up_to
  up_to-append m zero = rw (add-zero, append-nil)
  up_to-append m (suc n) = rw (add-suc, up_to-append m n, append_assoc)

  -- The item at k, or the default behind the last.
  pub get_d_up_to-cond : (n k : ℕ) (d : S) → get_or (up_to f n) k d ≡ cond (ltb k n) (f k) d
  get_d_up_to-cond n k d = cases (ltb k n)
      (λ t. rw t (get_d_up_to f n k d (ltb-true k n t)))
      (λ u. rw u (get_or-eq_default (up_to f n) d (rw length-up_to (ltb-false k n u))))

-- A law of values holds if a test that is computed at all of them passes: there are three. So does one of the numbers below a bound.
use mathlib.Core.Path.{◌≡◌, refl}
use mathlib.Core.Bool.{Bool, true, ◌&&◌}
use Prim.Native.Nat.{ℕ, zero, suc, ◌<◌}
use native.Mathlib.Nat.{le_of_suc-le-suc, not-suc-le-zero}
use lib.Dec.{eqb}
use Rattle.logic.specs.declared.Value.{Value}
use Rattle.logic.specs.declared.Value.TheVariants.{Neither, There, Both}
use Rattle.logic.specs.Value.{number}
use Rattle.logic.proofs.Bools.{&&_split}

-- The test passes at every value.
abbrev pub every : (Value → Bool) → Bool
every p = p Neither && p There && p Both

pub every_at : (p : Value → Bool) → every p ≡ true → (v : Value) → p v ≡ true
every_at p h v =
    let h1 = &&_split (p Neither && p There) (p Both) h in
    let h2 = &&_split (p Neither) (p There) h1.0 in
    elim v as (λ k. p k ≡ true) [ Neither ↦ h2.0 | There ↦ h2.1 | Both ↦ h1.1 ]

-- Two values are the same.
abbrev pub same : Value → Value → Bool
same x y = eqb (number x) (number y)

pub same_sound : (x y : Value) → same x y ≡ true → x ≡ y
same_sound Neither Neither h = refl
same_sound Neither There h = cc
same_sound Neither Both h = cc
same_sound There Neither h = cc
same_sound There There h = refl
same_sound There Both h = cc
same_sound Both Neither h = cc
same_sound Both There h = cc
same_sound Both Both h = refl

pub same_refl : (x : Value) → same x x ≡ true
same_refl = every_at (λ x. same x x) refl

-- Two functions of values are equal where a sound test of equality passes at all values.
module _ {R : Type 0} (test : R → R → Bool) (sound : (a b : R) → test a b ≡ true → a ≡ b) where
  pub agree₁ : (f g : Value → R) → every (λ a. test (f a) (g a)) ≡ true → (a : Value) → f a ≡ g a
  agree₁ f g h a = sound (f a) (g a) (every_at (λ a. test (f a) (g a)) h a)

  pub agree₂ : (f g : Value → Value → R) → every (λ a. every (λ b. test (f a b) (g a b))) ≡ true → (a b : Value) → f a b ≡ g a b
  agree₂ f g h a = agree₁ (f a) (g a) (every_at (λ a. every (λ b. test (f a b) (g a b))) h a)

  pub agree₃ : (f g : Value → Value → Value → R) → every (λ a. every (λ b. every (λ c. test (f a b c) (g a b c)))) ≡ true
      → (a b c : Value) → f a b c ≡ g a b c
  agree₃ f g h a = agree₂ (f a) (g a) (every_at (λ a. every (λ b. every (λ c. test (f a b c) (g a b c)))) h a)

  pub agree₄ : (f g : Value → Value → Value → Value → R)
      → every (λ a. every (λ b. every (λ c. every (λ d. test (f a b c d) (g a b c d))))) ≡ true
      → (a b c d : Value) → f a b c d ≡ g a b c d
  agree₄ f g h a = agree₃ (f a) (g a) (every_at (λ a. every (λ b. every (λ c. every (λ d. test (f a b c d) (g a b c d))))) h a)

-- The test passes at every number below n.
abbrev pub all : (ℕ → Bool) → ℕ → Bool
all p zero = true
all p (suc n) = p 0 && all (λ k. p (suc k)) n

pub all_at : (p : ℕ → Bool) (n : ℕ) → all p n ≡ true → (k : ℕ) → k < n → p k ≡ true
all_at p zero t k h = absurd (not-suc-le-zero h)
all_at p (suc n) t zero h = (&&_split (p 0) (all (λ k. p (suc k)) n) t).0
all_at p (suc n) t (suc k) h = all_at (λ k. p (suc k)) n (&&_split (p 0) (all (λ k. p (suc k)) n) t).1 k (le_of_suc-le-suc h)

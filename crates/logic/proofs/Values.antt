-- Laws of the values: the tables are what document 01 says of them by number. Each is computed at all values.
use mathlib.Core.Path.{◌≡◌, refl}
use mathlib.Core.Logic.{◌↔◌}
use mathlib.Core.Bool.{true, cond, false≢true}
use Prim.Native.Nat.{ℕ, zero, suc, min, max, ◌≤◌}
use native.Mathlib.Omega.{arith}
use lib.Dec.{leb, eqb, lit≤}
use borrow.Author.Tests.{eqb-true}
use Rattle.logic.specs.declared.Value.{Value}
use Rattle.logic.specs.declared.Value.TheVariants.{Neither, There, Both}
use Rattle.logic.specs.Value.{number, of_byte, smaller, larger, negation, implication, true_here, true_there}
use Rattle.logic.proofs.Finite.{same, same_sound, agree₁, agree₂}

-- The four operations, by number.

pub smaller-number : (x y : Value) → number (smaller x y) ≡ min (number x) (number y)
smaller-number = agree₂ eqb eqb-true (λ x y. number (smaller x y)) (λ x y. min (number x) (number y)) refl

pub larger-number : (x y : Value) → number (larger x y) ≡ max (number x) (number y)
larger-number = agree₂ eqb eqb-true (λ x y. number (larger x y)) (λ x y. max (number x) (number y)) refl

pub negation-number : (x : Value) → number (negation x) ≡ cond (eqb (number x) 0) 2 0
negation-number = agree₁ eqb eqb-true (λ x. number (negation x)) (λ x. cond (eqb (number x) 0) 2 0) refl

pub implication-number : (x y : Value) → number (implication x y) ≡ cond (leb (number x) (number y)) 2 (number y)
implication-number = agree₂ eqb eqb-true (λ x y. number (implication x y)) (λ x y. cond (leb (number x) (number y)) 2 (number y)) refl

-- Bytes.

pub of_byte-number : (v : Value) → of_byte (number v) ≡ v
of_byte-number = agree₁ same same_sound (λ v. of_byte (number v)) (λ v. v) refl

pub number-of_byte : (b : ℕ) → b ≤ 2 → number (of_byte b) ≡ b
number-of_byte zero h = refl
number-of_byte (suc zero) h = refl
number-of_byte (suc (suc zero)) h = refl
number-of_byte (suc (suc (suc b))) h = absurd (omega arith)

pub number_small : (v : Value) → number v ≤ 2
number_small Neither = lit≤ tt
number_small There = lit≤ tt
number_small Both = lit≤ tt

-- Truth in the two worlds.

pub true_here_iff : (v : Value) → (true_here v ≡ true) ↔ (v ≡ Both)
true_here_iff Neither = (λ h. cc, λ h. cc)
true_here_iff There = (λ h. cc, λ h. cc)
true_here_iff Both = (λ h. refl, λ h. refl)

pub true_there_iff : (v : Value) → (true_there v ≡ true) ↔ (1 ≤ number v)
true_there_iff Neither = (λ h. absurd (false≢true h), λ h. absurd (omega arith))
true_there_iff There = (λ h. lit≤ tt, λ h. refl)
true_there_iff Both = (λ h. lit≤ tt, λ h. refl)

-- The value there, in both worlds: it commutes with the four operations.

abbrev pub up : Value → Value
up Neither = Neither
up There = Both
up Both = Both

pub up_smaller : (x y : Value) → up (smaller x y) ≡ smaller (up x) (up y)
up_smaller = agree₂ same same_sound (λ x y. up (smaller x y)) (λ x y. smaller (up x) (up y)) refl

pub up_larger : (x y : Value) → up (larger x y) ≡ larger (up x) (up y)
up_larger = agree₂ same same_sound (λ x y. up (larger x y)) (λ x y. larger (up x) (up y)) refl

pub up_negation : (x : Value) → up (negation x) ≡ negation (up x)
up_negation = agree₁ same same_sound (λ x. up (negation x)) (λ x. negation (up x)) refl

pub up_implication : (x y : Value) → up (implication x y) ≡ implication (up x) (up y)
up_implication = agree₂ same same_sound (λ x y. up (implication x y)) (λ x y. implication (up x) (up y)) refl

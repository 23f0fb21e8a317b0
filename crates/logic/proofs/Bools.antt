-- Laws of Bool that turn a computed test into facts and back, each by its cases.
use mathlib.Core.Path.{◌≡◌, refl, sym, ◌∙◌}
use mathlib.Core.Logic.{◌↔◌, ◌⊎◌, inl, inr, ⊎_elim}
use mathlib.Core.Bool.{Bool, true, false, ◌&&◌, ◌||◌, beq, false≢true, and-eq-true_iff}

pub &&_split : (a b : Bool) → (a && b) ≡ true → (a ≡ true) × (b ≡ true)
&&_split a b h = (and-eq-true_iff a b).0 h

pub &&_join : {a b : Bool} → a ≡ true → b ≡ true → (a && b) ≡ true
&&_join p q = rw (p, q)

-- Two conjunctions are equal where the second halves are, once the first half holds.
pub &&_if : (a b c : Bool) → (a ≡ true → b ≡ c) → (a && b) ≡ (a && c)
&&_if true b c h = h refl
&&_if false b c h = refl

-- A Bool that is not true is false.
pub false_of : (a : Bool) → (a ≡ true → ⊥) → a ≡ false
false_of true h = absurd (h refl)
false_of false h = refl

pub not_both : {a : Bool} → a ≡ false → a ≡ true → ⊥
not_both f t = false≢true (sym f ∙ t)

-- A Bool is the other one where the two are true together.
pub iff_equal : (a b : Bool) → (a ≡ true) ↔ (b ≡ true) → a ≡ b
iff_equal true b e = sym (e.0 refl)
iff_equal false b e = sym (false_of b (λ h. false≢true (e.1 h)))

pub beq_sound : (a b : Bool) → beq a b ≡ true → a ≡ b
beq_sound true true h = refl
beq_sound true false h = sym h
beq_sound false true h = h
beq_sound false false h = refl

pub ||-split : (a b : Bool) → (a || b) ≡ false → (a ≡ false) × (b ≡ false)
||-split true b h = (h, cc)
||-split false b h = (refl, h)

pub ||-iff : (a b : Bool) → ((a || b) ≡ true) ↔ ((a ≡ true) ⊎ (b ≡ true))
||-iff true b = (λ h. inl refl, λ h. refl)
||-iff false b = (λ h. inr h, ⊎_elim (λ h. absurd (false≢true h)) (λ h. h))

-- The three values compute the logic of here-and-there: at each world a formula's value says its truth there, by induction on the formula.
use mathlib.Core.Path.{◌≡◌, refl, sym, ap, ap₂, ◌∙◌}
use mathlib.Core.Logic.Iff
use mathlib.Core.Logic.{◌↔◌}
use mathlib.Core.Bool.{Bool, true, not, ◌&&◌, ◌||◌, beq}
use mathlib.Core.List.{List}
use Prim.Native.Nat.{ℕ, ◌≤◌}
use lib.ListN.{get_or-map}
use Rattle.logic.specs.declared.Value.{Value}
use Rattle.logic.specs.declared.Value.TheVariants.{Neither, Both}
use Rattle.logic.specs.Value.{number, smaller, larger, negation, implication, true_here, true_there}
use Rattle.logic.specs.Formula.{Formula, falsum, verum, atom, neg, conj, disj, impl, Reading, value, satisfies}
use Rattle.logic.specs.Atoms.{Atoms, inside, reading, here_of, there_of}
use Rattle.logic.specs.HereAndThere.{World, here, there, every_from, truth, Model}
use Rattle.logic.proofs.Bools.{beq_sound}
use Rattle.logic.proofs.Finite.{every, agree₁, agree₂}
use Rattle.logic.proofs.Values.{true_here_iff, true_there_iff}
use Rattle.logic.proofs.Formulas.{satisfies-each}
use Rattle.logic.proofs.Sets.{here_of-reading, there_of-reading}

-- Is the value true at the world?
abbrev at : World → Value → Bool
at here v = true_here v
at there v = true_there v

at_smaller : (w : World) (u v : Value) → at w (smaller u v) ≡ (at w u && at w v)
at_smaller w = agree₂ beq beq_sound (λ u v. at w (smaller u v)) (λ u v. at w u && at w v)
    (elim w as (λ k. every (λ a. every (λ b. beq (at k (smaller a b)) (at k a && at k b))) ≡ true) [ here ↦ refl | there ↦ refl ])

at_larger : (w : World) (u v : Value) → at w (larger u v) ≡ (at w u || at w v)
at_larger w = agree₂ beq beq_sound (λ u v. at w (larger u v)) (λ u v. at w u || at w v)
    (elim w as (λ k. every (λ a. every (λ b. beq (at k (larger a b)) (at k a || at k b))) ≡ true) [ here ↦ refl | there ↦ refl ])

at_negation : (w : World) (u : Value) → at w (negation u) ≡ every_from w (λ x. not (at x u))
at_negation w = agree₁ beq beq_sound (λ u. at w (negation u)) (λ u. every_from w (λ x. not (at x u)))
    (elim w as (λ k. every (λ a. beq (at k (negation a)) (every_from k (λ x. not (at x a)))) ≡ true) [ here ↦ refl | there ↦ refl ])

at_implication : (w : World) (u v : Value) → at w (implication u v) ≡ every_from w (λ x. not (at x u) || at x v)
at_implication w = agree₂ beq beq_sound (λ u v. at w (implication u v)) (λ u v. every_from w (λ x. not (at x u) || at x v))
    (elim w as (λ k. every (λ a. every (λ b. beq (at k (implication a b)) (every_from k (λ x. not (at x a) || at x b)))) ≡ true) [ here ↦ refl | there ↦ refl ])

every_from_equal : (w : World) (p q : World → Bool) → ((u : World) → p u ≡ q u) → every_from w p ≡ every_from w q
every_from_equal w p q h = rw (h here, h there)

module _ (I : Reading) where
  at_atom : (w : World) (a : ℕ) → at w (value I (atom a)) ≡ truth (here_of I) (there_of I) w (atom a)
  at_atom here a = sym (get_or-map true_here I a Neither)
  at_atom there a = sym (get_or-map true_there I a Neither)

  pub value-truth : (w : World) (f : Formula) → at w (value I f) ≡ truth (here_of I) (there_of I) w f
  value-truth here falsum = refl
  value-truth there falsum = refl
  value-truth here verum = refl
  value-truth there verum = refl
  value-truth w (atom a) = at_atom w a
  value-truth w (neg f) = at_negation w (value I f) ∙ every_from_equal w _ _ (λ u. ap not (value-truth u f))
  value-truth w (conj f g) = rw (← value-truth w f, ← value-truth w g) (at_smaller w (value I f) (value I g))
  value-truth w (disj f g) = rw (← value-truth w f, ← value-truth w g) (at_larger w (value I f) (value I g))
  value-truth w (impl f g) = at_implication w (value I f) (value I g)
      ∙ every_from_equal w _ _ (λ u. ap₂ (λ a b. not a || b) (value-truth u f) (value-truth u g))

  -- A formula's value is 2 exactly if it is true here, and at least 1 exactly if it is true there.
  pub value_here : (f : Formula) → (value I f ≡ Both) ↔ (truth (here_of I) (there_of I) here f ≡ true)
  value_here f = rw (← value-truth here f) (Iff.symm (true_here_iff (value I f)))

  pub value_there : (f : Formula) → (1 ≤ number (value I f)) ↔ (truth (here_of I) (there_of I) there f ≡ true)
  value_there f = rw (← value-truth there f) (Iff.symm (true_there_iff (value I f)))

-- A pair with H inside T is an HT-model exactly if its reading satisfies.
pub model_iff : (H T : Atoms) (Γ : List Formula) → inside H T ≡ true → (satisfies (reading H T) Γ ≡ true) ↔ Model H T Γ
model_iff H T Γ p = (
  λ h. record { within = p; true_here_lem = λ f m. (value_at f).0 ((satisfies-each (reading H T) Γ).0 h f m) },
  λ m. (satisfies-each (reading H T) Γ).1 (λ f i. (value_at f).1 (m.true_here_lem f i)),
)
  where
    value_at : (f : Formula) → (value (reading H T) f ≡ Both) ↔ (truth H T here f ≡ true)
    value_at f = rw (here_of-reading H T p, there_of-reading H T p) at (value_here (reading H T) f)

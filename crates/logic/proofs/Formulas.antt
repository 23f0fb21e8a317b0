-- Laws of readings, of the value of formulas and of satisfaction, by induction on the formula or on the list.
use mathlib.Core.Path.{◌≡◌, refl, sym, ap₂}
use mathlib.Core.Logic.{◌↔◌, ⊎_elim}
use mathlib.Core.Bool.{true, ◌&&◌, and_assoc}
use mathlib.Core.List.Memᴰ
use mathlib.Core.List.{List, [], ◌∷◌, ◌++◌, map, Memᴰ}
use lib.ListN.{length, get_or-append, get_or-map}
use Rattle.logic.specs.declared.Value.{Value}
use Rattle.logic.specs.declared.Value.TheVariants.{Neither, Both}
use Rattle.logic.specs.Value.{number, true_here}
use Rattle.logic.specs.Formula.{Formula, falsum, verum, atom, neg, conj, disj, impl, Reading, reading_of, value, satisfies, Over, AllOver}
use Rattle.logic.proofs.Bools.{&&_split, &&_join}
use Rattle.logic.proofs.Values.{of_byte-number, true_here_iff, up, up_smaller, up_larger, up_negation, up_implication}

-- The bytes of values stand for those values.
pub reading_of-number : (vs : List Value) → reading_of (map number vs) ≡ vs
reading_of-number [] = refl
reading_of-number (v ∷ vs) = ap₂ ◌∷◌ (of_byte-number v) (reading_of-number vs)

-- A list of formulas is satisfied exactly if each of them has the value 2.
pub satisfies-each : (I : Reading) (Γ : List Formula) → (satisfies I Γ ≡ true) ↔ ((f : Formula) → Memᴰ f Γ → value I f ≡ Both)
satisfies-each I [] = (λ h f m. absurd (Memᴰ.not-nil m), λ h. refl)
satisfies-each I (g ∷ Γ) = (
  λ h f m. let q = &&_split (true_here (value I g)) (satisfies I Γ) h in
      ⊎_elim (λ e. rw e ((true_here_iff (value I g)).0 q.0)) ((satisfies-each I Γ).0 q.1 f) (Memᴰ.cases_cons m),
  λ h. &&_join ((true_here_iff (value I g)).1 (h g (Memᴰ.head refl))) ((satisfies-each I Γ).1 (λ f m. h f (Memᴰ.tail m))),
)

pub satisfies-append : (I : Reading) (Γ Δ : List Formula) → satisfies I (Γ ++ Δ) ≡ (satisfies I Γ && satisfies I Δ)
satisfies-append I [] Δ = refl
satisfies-append I (f ∷ Γ) Δ = rw (satisfies-append I Γ Δ) (sym (and_assoc (true_here (value I f)) (satisfies I Γ) (satisfies I Δ)))

-- A formula over the atoms of I has the same value in every reading that goes on after I.
pub value-append : (I X : Reading) (f : Formula) → Over (length I) f → value (I ++ X) f ≡ value I f
value-append I X falsum h = refl
value-append I X verum h = refl
value-append I X (atom a) h = get_or-append I X Neither a h
value-append I X (neg f) h = rw (value-append I X f h)
value-append I X (conj f g) h = rw (value-append I X f h.0, value-append I X g h.1)
value-append I X (disj f g) h = rw (value-append I X f h.0, value-append I X g h.1)
value-append I X (impl f g) h = rw (value-append I X f h.0, value-append I X g h.1)

pub satisfies-extended : (I X : Reading) (Γ : List Formula) → AllOver (length I) Γ → satisfies (I ++ X) Γ ≡ satisfies I Γ
satisfies-extended I X [] h = refl
satisfies-extended I X (f ∷ Γ) h = rw (value-append I X f h.0, satisfies-extended I X Γ h.1)

-- What is true there goes through every formula.
pub value_up : (I : Reading) (f : Formula) → up (value I f) ≡ value (map up I) f
value_up I falsum = refl
value_up I verum = refl
value_up I (atom a) = sym (get_or-map up I a Neither)
value_up I (neg f) = rw (up_negation, value_up I f)
value_up I (conj f g) = rw (up_smaller, value_up I f, value_up I g)
value_up I (disj f g) = rw (up_larger, value_up I f, value_up I g)
value_up I (impl f g) = rw (up_implication, value_up I f, value_up I g)

pub values_up : (I : Reading) (fs : List Formula) → map up (map (value I) fs) ≡ map (value (map up I)) fs
values_up I [] = refl
values_up I (f ∷ fs) = ap₂ ◌∷◌ (value_up I f) (values_up I fs)

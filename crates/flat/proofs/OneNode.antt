-- The one-node lemma: whatever terms stand for left and right, a kind's rules hold exactly where its labels have their values. The table is tried at all values.
use mathlib.Core.Path.{◌≡◌, refl, ◌∙◌, ap, fun_ext}
use mathlib.Core.Bool.{Bool, true, ◌&&◌, beq}
use Prim.Native.Nat.{ℕ, suc}
use Rattle.logic.specs.declared.Value.{Value}
use Rattle.logic.specs.Value.{smaller, larger, negation, implication}
use Rattle.logic.specs.Formula.{Reading, value_of}
use Rattle.logic.proofs.Bools.{beq_sound}
use Rattle.logic.proofs.Finite.{every, same, agree₄}
use Rattle.theory.specs.declared.Kind.{Kind}
use Rattle.theory.specs.declared.Kind.TheVariants.{False, True, Atom, Not, And, Or, Implies}
use Rattle.program.specs.Rule.{all_hold}
use Rattle.flat.specs.Table.{Slot, x, y, L, M, rows}
use Rattle.flat.specs.Flat.{Term, fill, instances}
use Rattle.flat.proofs.Simplify.{term_value, instances_hold}

-- The values in the slots.
abbrev slots : (a b l m : Value) → Slot → Value
slots a b l m x = a
slots a b l m y = b
slots a b l m L = l
slots a b l m M = m

-- L has the node's value l, where left has the value a and right b, and M has that of not right.
abbrev pub labelled : Kind → (a b l m : Value) → Bool
labelled False a b l m = true
labelled True a b l m = true
labelled Atom a b l m = true
labelled Not a b l m = same l (negation a)
labelled And a b l m = same l (smaller a b)
labelled Or a b l m = same l (larger a b)
labelled Implies a b l m = same l (implication a b) && same m (negation b)

table : (k : Kind) (a b l m : Value) → all_hold (slots a b l m) (rows k) ≡ labelled k a b l m
table k = agree₄ beq beq_sound (λ a b l m. all_hold (slots a b l m) (rows k)) (labelled k)
    (elim k as (λ k'. every (λ a. every (λ b. every (λ c. every (λ d. beq (all_hold (slots a b c d) (rows k')) (labelled k' a b c d))))) ≡ true)
    [ False ↦ refl | True ↦ refl | Atom ↦ refl | Not ↦ refl | And ↦ refl | Or ↦ refl | Implies ↦ refl ])

pub one_node : (J : Reading) (k : Kind) (left right : Term) (next : ℕ)
    → all_hold (value_of J) (instances (fill left right next) (rows k)) ≡ labelled k (term_value J left) (term_value J right) (value_of J next) (value_of J (suc next))
one_node J k left right next = instances_hold J (fill left right next) (rows k)
    ∙ ap (λ v. all_hold v (rows k)) (fun_ext filled)
    ∙ table k (term_value J left) (term_value J right) (value_of J next) (value_of J (suc next))
  where
    filled : (s : Slot) → term_value J (fill left right next s) ≡ slots (term_value J left) (term_value J right) (value_of J next) (value_of J (suc next)) s
    filled x = refl
    filled y = refl
    filled L = refl
    filled M = refl

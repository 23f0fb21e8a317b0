-- Filling slots and removing constants keep what a rule says: a constant is a term with a fixed value, so dropping it or the rule changes nothing.
use mathlib.Core.Path.{◌≡◌, refl, sym, ◌∙◌, ap₂}
use mathlib.Core.Bool.{Bool, true, false, ◌&&◌, ◌||◌, and-true, cond, beq}
use mathlib.Core.List.{List, [], ◌∷◌}
use lib.Dec.{leb}
use Rattle.logic.specs.declared.Value.{Value}
use Rattle.logic.specs.declared.Value.TheVariants.{Neither, Both}
use Rattle.logic.specs.Value.{number, smaller, larger, negation}
use Rattle.logic.specs.Formula.{Reading, value_of}
use Rattle.logic.proofs.Bools.{beq_sound}
use Rattle.logic.proofs.Finite.{same, same_sound, agree₁, agree₂, agree₃}
use Rattle.program.specs.Rule.{RuleOf, Rule, smallest, largest, holds, all_hold}
use Rattle.program.proofs.Rules.{smallest-map, largest-map, all_hold-append}
use Rattle.flat.specs.Table.{Slot}
use Rattle.flat.specs.Flat.{Term, constant, name, has, names, simplify, map_rule, instances}

-- The value of a constant, and of a term.
abbrev pub constant_value : Bool → Value
constant_value false = Neither
constant_value true = Both

abbrev pub term_value : Reading → Term → Value
term_value J (constant b) = constant_value b
term_value J (name a) = value_of J a

-- Filling slots.

module _ {S T : Type 0} (f : S → T) where
  holds-map : (v : T → Value) (r : RuleOf S) → holds v (map_rule f r) ≡ holds (λ s. v (f s)) r
  holds-map v r = rw (smallest-map f v r.positives, smallest-map f (λ s. negation (v s)) r.negatives, largest-map f v r.heads)

-- Removing constants.

smaller_swap : (a b c : Value) → smaller a (smaller b c) ≡ smaller b (smaller a c)
smaller_swap = agree₃ same same_sound (λ a b c. smaller a (smaller b c)) (λ a b c. smaller b (smaller a c)) refl

larger_swap : (a b c : Value) → larger a (larger b c) ≡ larger b (larger a c)
larger_swap = agree₃ same same_sound (λ a b c. larger a (larger b c)) (λ a b c. larger b (larger a c)) refl

below_Both : (a : Value) → leb (number a) 2 ≡ true
below_Both = agree₁ beq beq_sound (λ a. leb (number a) 2) (λ a. true) refl

smaller_Neither : (a b : Value) → leb (number (smaller a Neither)) (number b) ≡ true
smaller_Neither = agree₂ beq beq_sound (λ a b. leb (number (smaller a Neither)) (number b)) (λ a b. true) refl

module _ (J : Reading) where
  largest-names : (ts : List Term) → largest (term_value J) ts ≡ larger (constant_value (has true ts)) (largest (value_of J) (names ts))
  largest-names [] = refl
  largest-names (constant true ∷ ts) = refl
  largest-names (constant false ∷ ts) = largest-names ts
  largest-names (name a ∷ ts) = rw (largest-names ts) (larger_swap (value_of J a) (constant_value (has true ts)) (largest (value_of J) (names ts)))

  smallest-names : (ts : List Term) → smallest (term_value J) ts ≡ smaller (negation (constant_value (has false ts))) (smallest (value_of J) (names ts))
  smallest-names [] = refl
  smallest-names (constant true ∷ ts) = smallest-names ts
  smallest-names (constant false ∷ ts) = refl
  smallest-names (name a ∷ ts) = rw (smallest-names ts) (smaller_swap (value_of J a) (negation (constant_value (has false ts))) (smallest (value_of J) (names ts)))

  smallest_not_names : (ts : List Term)
      → smallest (λ t. negation (term_value J t)) ts ≡ smaller (negation (constant_value (has true ts))) (smallest (λ a. negation (value_of J a)) (names ts))
  smallest_not_names [] = refl
  smallest_not_names (constant true ∷ ts) = refl
  smallest_not_names (constant false ∷ ts) = smallest_not_names ts
  smallest_not_names (name a ∷ ts) =
      rw (smallest_not_names ts) (smaller_swap (negation (value_of J a)) (negation (constant_value (has true ts))) (smallest (λ a. negation (value_of J a)) (names ts)))

  removed : (a b c : Bool) (r : Rule) (h p n : Value) → holds (value_of J) r ≡ leb (number (smaller p n)) (number h)
      → all_hold (value_of J) (cond (a || b || c) [] (r ∷ []))
      ≡ leb (number (smaller (smaller (negation (constant_value b)) p) (smaller (negation (constant_value c)) n))) (number (larger (constant_value a) h))
  removed true b c r h p n e = sym (below_Both (smaller (smaller (negation (constant_value b)) p) (smaller (negation (constant_value c)) n)))
  removed false true c r h p n e = sym (smaller_Neither Neither h)
  removed false false true r h p n e = sym (smaller_Neither p h)
  removed false false false r h p n e = and-true (holds (value_of J) r) ∙ e

  pub simplify-holds : (r : RuleOf Term) → all_hold (value_of J) (simplify r) ≡ holds (term_value J) r
  simplify-holds r = rw (largest-names r.heads, smallest-names r.positives, smallest_not_names r.negatives)
      (removed (has true r.heads) (has false r.positives) (has true r.negatives)
      (record { heads = names r.heads; positives = names r.positives; negatives = names r.negatives }) _ _ _ refl)

  pub instances_hold : (f : Slot → Term) (rs : List (RuleOf Slot)) → all_hold (value_of J) (instances f rs) ≡ all_hold (λ s. term_value J (f s)) rs
  instances_hold f [] = refl
  instances_hold f (r ∷ rs) = all_hold-append (value_of J) (simplify (map_rule f r)) (instances f rs)
      ∙ ap₂ ◌&&◌ (simplify-holds (map_rule f r) ∙ holds-map f (term_value J) r) (instances_hold f rs)

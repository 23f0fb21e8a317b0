-- Flat rules, when a reading satisfies one, and the formula of one.
use Rattle.std.specs.Prelude.{Bool, true, ◌&&◌, List, [], ◌∷◌, map, ℕ, leb}
use Rattle.logic.specs.declared.Value.{Value}
use Rattle.logic.specs.declared.Value.TheVariants.{Neither, Both}
use Rattle.logic.specs.Value.{number, smaller, larger, negation}
use Rattle.logic.specs.Formula.{Formula, falsum, verum, atom, neg, conj, disj, impl}

-- heads ← positives, not negatives.
pub record RuleOf (S : Type 0) : Type 0 where
  pub heads : List S
  pub positives : List S
  pub negatives : List S

-- A rule over atoms.
abbrev pub Rule : Type 0
Rule = RuleOf ℕ

module _ {S : Type 0} (v : S → Value) where
  -- The smallest value of the list; 2 when it is empty.
  abbrev pub smallest : List S → Value
  smallest [] = Both
  smallest (s ∷ ss) = smaller (v s) (smallest ss)

  -- The largest value of the list; 0 when it is empty.
  abbrev pub largest : List S → Value
  largest [] = Neither
  largest (s ∷ ss) = larger (v s) (largest ss)

module _ {S : Type 0} (v : S → Value) where
  -- The smallest body value, a negative literal having the value of not.
  abbrev pub body_value : RuleOf S → Value
  body_value r = smaller (smallest v r.positives) (smallest (λ s. negation (v s)) r.negatives)

  -- The rule is satisfied: the smallest body value is at most the largest head value.
  abbrev pub holds : RuleOf S → Bool
  holds r = leb (number (body_value r)) (number (largest v r.heads))

  -- Each rule of the list is.
  abbrev pub all_hold : List (RuleOf S) → Bool
  all_hold [] = true
  all_hold (r ∷ rs) = holds r && all_hold rs

-- The conjunction of a list of formulas, and the disjunction.
abbrev pub conjs : List Formula → Formula
conjs [] = verum
conjs (f ∷ fs) = conj f (conjs fs)

abbrev pub disjs : List Formula → Formula
disjs [] = falsum
disjs (f ∷ fs) = disj f (disjs fs)

-- The formula of a rule: its body implies its heads.
abbrev pub rule_formula : Rule → Formula
rule_formula r =
    impl (conj (conjs (map atom r.positives)) (conjs (map (λ a. neg (atom a)) r.negatives))) (disjs (map atom r.heads))

-- A rule is satisfied by document 01's words exactly if its formula has the value 2: the smallest and the largest are the values of conjunction and disjunction.
use mathlib.Core.Path.{◌≡◌, refl, sym}
use mathlib.Core.Logic.{◌↔◌, ⊎_elim}
use mathlib.Core.Bool.{true, false, ◌&&◌, and_assoc, and-false, beq}
use mathlib.Core.List.{List, [], ◌∷◌, ◌++◌, map}
use Prim.Native.Nat.{ℕ, zero, suc, ◌+◌, ◌<◌}
use native.Mathlib.Nat.{eq-or-lt_of_le}
use native.Mathlib.Omega.{arith}
use lib.Dec.{leb}
use Rattle.wire.specs.Sequence.{up_to}
use Rattle.wire.proofs.Sequence.{up_to_more}
use Rattle.logic.specs.declared.Value.{Value}
use Rattle.logic.specs.declared.Value.TheVariants.{Both}
use Rattle.logic.specs.Value.{number, implication, true_here}
use Rattle.logic.specs.Formula.{Formula, atom, neg, Reading, value_of, value, satisfies}
use Rattle.logic.proofs.Bools.{beq_sound}
use Rattle.logic.proofs.Finite.{agree₂}
use Rattle.logic.proofs.Values.{true_here_iff}
use Rattle.program.specs.Rule.{RuleOf, Rule, smallest, largest, body_value, holds, all_hold, conjs, disjs, rule_formula}
use Rattle.program.specs.Program.{Program, satisfies_program, program_formulas}

implication_true : (a b : Value) → true_here (implication a b) ≡ leb (number a) (number b)
implication_true = agree₂ beq beq_sound (λ a b. true_here (implication a b)) (λ a b. leb (number a) (number b)) refl

module _ (J : Reading) where
  conjs-value : (g : ℕ → Formula) (l : List ℕ) → value J (conjs (map g l)) ≡ smallest (λ a. value J (g a)) l
  conjs-value g [] = refl
  conjs-value g (a ∷ l) = rw (conjs-value g l)

  disjs-value : (l : List ℕ) → value J (disjs (map atom l)) ≡ largest (value_of J) l
  disjs-value [] = refl
  disjs-value (a ∷ l) = rw (disjs-value l)

  rule_value : (r : Rule) → true_here (value J (rule_formula r)) ≡ holds (value_of J) r
  rule_value r = rw (conjs-value atom r.positives, conjs-value (λ a. neg (atom a)) r.negatives, disjs-value r.heads)
      (implication_true (body_value (value_of J) r) (largest (value_of J) r.heads))

  -- A rule is satisfied exactly if its formula has the value 2.
  pub rule_iff : (r : Rule) → (holds (value_of J) r ≡ true) ↔ (value J (rule_formula r) ≡ Both)
  rule_iff r = rw (← rule_value r) (true_here_iff (value J (rule_formula r)))

  rules-value : (rs : List Rule) → satisfies J (map rule_formula rs) ≡ all_hold (value_of J) rs
  rules-value [] = refl
  rules-value (r ∷ rs) = rw (rule_value r, rules-value rs)

  -- A program is satisfied exactly if its formulas are.
  pub program_value : (p : Program) → satisfies J (program_formulas p) ≡ satisfies_program J p
  program_value p = rules-value p.rules

-- The smallest and the largest value of a mapped list.
module _ {S T : Type 0} (f : S → T) where
  pub smallest-map : (v : T → Value) (l : List S) → smallest v (map f l) ≡ smallest (λ s. v (f s)) l
  smallest-map v [] = refl
  smallest-map v (s ∷ l) = rw (smallest-map v l)

  pub largest-map : (v : T → Value) (l : List S) → largest v (map f l) ≡ largest (λ s. v (f s)) l
  largest-map v [] = refl
  largest-map v (s ∷ l) = rw (largest-map v l)

pub all_hold-append : {S : Type 0} (v : S → Value) (rs qs : List (RuleOf S)) → all_hold v (rs ++ qs) ≡ (all_hold v rs && all_hold v qs)
all_hold-append v [] qs = refl
all_hold-append v (r ∷ rs) qs = rw (all_hold-append v rs qs) (sym (and_assoc (holds v r) (all_hold v rs) (all_hold v qs)))

-- Of the first rules of a sequence: one more that holds keeps them, and one that does not breaks them.
module _ {S : Type 0} (v : S → Value) (f : ℕ → RuleOf S) where
  pub all_hold_more : (n : ℕ) → all_hold v (up_to f n) ≡ true → holds v (f n) ≡ true → all_hold v (up_to f (n + 1)) ≡ true
  all_hold_more n h t = rw (up_to_more f n, all_hold-append v (up_to f n) (f n ∷ []), h, t)

  pub all_hold_broken : (n k : ℕ) → k < n → holds v (f k) ≡ false → all_hold v (up_to f n) ≡ false
  unfolding up_to
  all_hold_broken zero k l t = absurd (omega arith)
  all_hold_broken (suc n) k l t = rw (all_hold-append v (up_to f n) (f n ∷ [])) (⊎_elim
      (λ (e : suc k ≡ suc n). let m : k ≡ n = omega arith in rw (rw m at t) (and-false (all_hold v (up_to f n))))
      (λ (m : suc k < suc n). rw (all_hold_broken n k (omega arith) t))
      (eq-or-lt_of_le l))

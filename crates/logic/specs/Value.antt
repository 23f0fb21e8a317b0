-- The three values, their numbers, and the tables of the four operations.
use Rattle.std.specs.Prelude.{Bool, true, false, cond, ℕ, eqb}
use Rattle.logic.specs.declared.Value.{Value}
use Rattle.logic.specs.declared.Value.TheVariants.{Neither, There, Both}

-- 2 is true here and there, 1 true only there, 0 neither.
abbrev pub number : Value → ℕ
number Neither = 0
number There = 1
number Both = 2

-- The value that a byte stands for; the bytes of a reading are at most 2.
abbrev pub of_byte : ℕ → Value
of_byte b = cond (eqb b 0) Neither (cond (eqb b 1) There Both)

-- Is the value true here, that is 2?
abbrev pub true_here : Value → Bool
true_here Neither = false
true_here There = false
true_here Both = true

-- Is the value true there, that is 1 or 2?
abbrev pub true_there : Value → Bool
true_there Neither = false
true_there There = true
true_there Both = true

-- And: the smaller value.
abbrev pub smaller : Value → Value → Value
smaller Neither y = Neither
smaller There Neither = Neither
smaller There There = There
smaller There Both = There
smaller Both y = y

-- Or: the larger value.
abbrev pub larger : Value → Value → Value
larger Neither y = y
larger There Neither = There
larger There There = There
larger There Both = Both
larger Both y = Both

-- Not: 2 on 0, else 0.
abbrev pub negation : Value → Value
negation Neither = Both
negation There = Neither
negation Both = Neither

-- Implies: 2 if left is at most right, else right.
abbrev pub implication : Value → Value → Value
implication Neither y = Both
implication There Neither = Neither
implication There There = Both
implication There Both = Both
implication Both y = y

-- A flat program: A, B and its rules.
use Rattle.std.specs.Prelude.{Bool, List, map, ℕ}
use Rattle.logic.specs.Formula.{Formula, Reading, value_of}
use Rattle.program.specs.Rule.{Rule, all_hold, rule_formula}

-- The book's own atoms are 0 to A - 1, and all atoms, labels with them, 0 to B - 1.
pub record Program : Type 0 where
  pub atoms : ℕ
  pub size : ℕ
  pub rules : List Rule

-- The reading satisfies every rule.
abbrev pub satisfies_program : Reading → Program → Bool
satisfies_program J p = all_hold (value_of J) p.rules

-- The program as formulas: one for each rule.
abbrev pub program_formulas : Program → List Formula
program_formulas p = map rule_formula p.rules

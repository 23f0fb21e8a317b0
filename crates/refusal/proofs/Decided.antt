-- What rows decide of an outcome, from the laws of an answer. Assumes nothing.
use Rattle.std.proofs.Common.{◌≡◌, ◌∙◌, true, false, List, ◌++◌, ℕ, Result, Ok, Err}
use Rattle.refusal.specs.declared.Refusal.{Refusal}
use Rattle.refusal.specs.declared.Refusal.TheVariants.{TheoryHeader, TheoryLimits, TheoryOffsets, TheoryLength, Node, Root, Room, ArgumentLength, ArgumentByte, TooManyAtoms, UnusedNode, Pair, ProgramHeader, ProgramLimits, ProgramForm, ProgramOffsets, ProgramLength, Rule}
use Rattle.refusal.specs.Table.{Row, answer, none}
use Rattle.refusal.specs.Refusal.{number, refused_for, Decides}
use Rattle.refusal.proofs.Table.{answer-refused, answer_later, none_past, none-refused}

-- every refusal has a number, which is not 0
pub number-some : (why : Refusal) → number why ≡ 0 → ⊥
number-some TheoryHeader e = cc
number-some TheoryLimits e = cc
number-some TheoryOffsets e = cc
number-some (TheoryLength wanted) e = cc
number-some (Node node field) e = cc
number-some (Root index) e = cc
number-some (Room needed) e = cc
number-some (ArgumentLength wanted) e = cc
number-some (ArgumentByte index) e = cc
number-some (TooManyAtoms atoms) e = cc
number-some (UnusedNode node) e = cc
number-some (Pair index) e = cc
number-some ProgramHeader e = cc
number-some ProgramLimits e = cc
number-some ProgramForm e = cc
number-some ProgramOffsets e = cc
number-some (ProgramLength wanted) e = cc
number-some (Rule index) e = cc

module _ (rows more : List Row) (why : Refusal) where
  -- a refusal by the first rows stands, whatever rows are behind and whatever result was wanted,
  pub refused_first : (x : ℕ) → refused_for why ≡ answer rows 0 → refused_for why ≡ answer (rows ++ more) x
  refused_first x e = answer-refused rows more 0 x e (number-some why)

  -- one by later rows stands where none of the first applies,
  pub refused_later : (x : ℕ) → none rows ≡ true → refused_for why ≡ answer more 0 → refused_for why ≡ answer (rows ++ more) x
  refused_later x n e = answer_later rows more 0 x n e (number-some why)

-- and where a refusal is decided, some row applies
pub refused-some : (rows : List Row) (why : Refusal) → refused_for why ≡ answer rows 0 → none rows ≡ false
refused-some rows why e = none-refused rows 0 e (number-some why)

-- rows decide one behind the other
pub decides-later : {A : Type 0} (rows more : List Row) (outcome : Result A Refusal) → none rows ≡ true → Decides more outcome → Decides (rows ++ more) outcome
decides-later rows more (Ok x) n m = none_past rows more n ∙ m
decides-later rows more (Err why) n e = refused_later rows more why 0 n e

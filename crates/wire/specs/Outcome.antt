-- The outcome of a call that writes: its answer, and its output as the call leaves it.
use Rattle.std.specs.Prelude.{cond, List, ℕ}
use Rattle.refusal.specs.declared.Answer.{Answer}
use Rattle.refusal.specs.Table.{Row, none}
use Rattle.wire.specs.Wire.{over}

pub record Outcome : Type 0 where
  pub answer : Answer
  pub out : List ℕ

abbrev pub outcome : Answer → List ℕ → Outcome
outcome a o = record { answer = a; out = o }

-- where no row applies the bytes are written over the output's start, and else the output is as it was
abbrev pub written : (rows : List Row) → (bytes out : List ℕ) → List ℕ
written rows bytes out = cond (none rows) (over bytes out) out

-- Laws of the outcome of a call that writes: what its first rows refuse is refused and nothing is written, past them the later rows decide. From the laws of an answer.
use mathlib.Core.Path.{◌≡◌, refl, sym, ap, ap₂}
use mathlib.Core.Bool.{Bool, true, false, cond}
use mathlib.Core.List.{List, ◌∷◌, ◌++◌}
use Prim.Native.Nat.{ℕ}
use lib.ListN.{length, take, drop}
use Rattle.refusal.specs.declared.Answer.{Answer}
use Rattle.refusal.specs.Table.{Row, answer, none}
use Rattle.refusal.proofs.Table.{answer-none, answer-refused, none-refused, idle_row}
use Rattle.wire.specs.Wire.{over}
use Rattle.wire.specs.Outcome.{Outcome, outcome, written}
use Rattle.wire.proofs.Laws.{take-over, drop-over}

-- equal outcomes have the same answer and the same output
pub outcome_both : {a b : Answer} {left right : List ℕ} → outcome a left ≡ outcome b right → (a ≡ b) × (left ≡ right)
outcome_both e = (ap (λ (o : Outcome). o.answer) e, ap (λ (o : Outcome). o.out) e)

-- a refusal leaves the output as it was
pub written-refused : (rows : List Row) (x : ℕ) (bytes out : List ℕ) → ((answer rows x).number ≡ 0 → ⊥) → written rows bytes out ≡ out
written-refused rows x bytes out h = rw (none-refused rows x refl h)

-- an acceptance writes the bytes, and leaves what stands past them
pub written-accepted : (rows : List Row) (bytes out : List ℕ) → none rows ≡ true
    → (take (length bytes) (written rows bytes out) ≡ bytes) × (drop (length bytes) (written rows bytes out) ≡ drop (length bytes) out)
written-accepted rows bytes out n = rw n (take-over bytes out, drop-over bytes out)

pub written_over : (rows : List Row) (bytes out : List ℕ) → none rows ≡ true → written rows bytes out ≡ over bytes out
written_over rows bytes out n = rw n

-- so where the result is the length of the bytes, that part of the output is what was written
pub written_part : (rows : List Row) (bytes out : List ℕ) {x : ℕ} → length bytes ≡ x → none rows ≡ true → take (answer rows x).result (written rows bytes out) ≡ bytes
written_part rows bytes out {x = x} e n = rw (answer-none rows x n, ← e) (written-accepted rows bytes out n).0

module _ (rs qs : List Row) (bytes out : List ℕ) (y : ℕ) where
  pub outcome-refused : (x : ℕ) {a : Answer} → a ≡ answer rs x → (a.number ≡ 0 → ⊥) → outcome a out ≡ outcome (answer (rs ++ qs) y) (written (rs ++ qs) bytes out)
  outcome-refused x e h =
      let whole = answer-refused rs qs x y e h in
      ap₂ outcome whole (ap (λ (b : Bool). cond b (over bytes out) out) (sym (none-refused (rs ++ qs) y whole h)))

-- without a row that does not apply where no row before it does, the outcome is the same
pub outcome_idle : (before : List Row) (r : Row) (after : List Row) (x : ℕ) (bytes out : List ℕ) → (none before ≡ true → r.applies ≡ false)
    → outcome (answer (before ++ r ∷ after) x) (written (before ++ r ∷ after) bytes out) ≡ outcome (answer (before ++ after) x) (written (before ++ after) bytes out)
outcome_idle before r after x bytes out h = let same = idle_row before r after x h in rw (same.0, same.1)

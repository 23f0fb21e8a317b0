-- What a call gives that tries some rows, and others behind them only where none of the first applies. From the laws of an answer. Assumes nothing.
use Rattle.std.proofs.Common.{◌≡◌, refl, sym, ap₂, ◌∙◌, Bool, true, false, List, [], ◌++◌, append-nil, ℕ, Result, IsErrAnd}
use Rattle.std.proofs.lemmas.Result.{err_from_is_err_and}
use mir.Val.{bool_byte}
use Rattle.refusal.specs.declared.Answer.{Answer}
use Rattle.refusal.specs.declared.Refusal.{Refusal}
use Rattle.refusal.specs.Table.{Row, yes, answer, none}
use Rattle.refusal.specs.Refusal.{refused_for, answer_of}
use Rattle.refusal.proofs.Table.{answer_past, none_past}
use Rattle.refusal.proofs.Decided.{refused_first, refused-some}
use Rattle.wire.specs.Outcome.{outcome}

-- the result of a question, as a number
pub yes-byte : (b : Bool) → bool_byte b ≡ yes b
yes-byte true = refl
yes-byte false = refl

module _ (rows more : List Row) (x : ℕ) where
  -- Where none of the first rows applies, those behind answer,
  pub behind : none rows ≡ true → {a : Answer} → a ≡ answer more x → a ≡ answer (rows ++ more) x
  behind n e = e ∙ sym (answer_past rows more x n)

  -- and decide what is left in the output.
  pub behind_left : none rows ≡ true → {a : Answer} → a ≡ answer more x → {out left : List ℕ} → (none (rows ++ more) ≡ none more → out ≡ left)
      → outcome a out ≡ outcome (answer (rows ++ more) x) left
  behind_left n e f = ap₂ outcome (behind n e) (f (none_past rows more n))

  -- Where `?` hands on a refusal by the first rows, it stands,
  module _ (why : Refusal) (result : Result ℕ Refusal) (handed_on : IsErrAnd result (λ e. e ≡ why)) (e : refused_for why ≡ answer rows 0) where
    pub refused_on : answer_of result ≡ answer (rows ++ more) x
    refused_on = let p = err_from_is_err_and result handed_on in rw (p.1, p.2) (refused_first rows more why x e)

    -- and some row applies.
    pub refused_left : {out left : List ℕ} → (none (rows ++ more) ≡ false → out ≡ left) → outcome (answer_of result) out ≡ outcome (answer (rows ++ more) x) left
    refused_left f = ap₂ outcome refused_on (f (refused-some (rows ++ more) why (refused_first rows more why 0 e)))

-- It stands where no rows are behind.
pub refused_alone : (rows : List Row) (x : ℕ) (why : Refusal) (result : Result ℕ Refusal) → IsErrAnd result (λ e. e ≡ why) → refused_for why ≡ answer rows 0 → answer_of result ≡ answer rows x
refused_alone rows x why result h e = rw append-nil at (refused_on rows [] x why result h e)

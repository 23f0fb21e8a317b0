-- `argument` tests row 9, and searches for the place of row 10. Assumes nothing.
use Rattle.std.proofs.Common.{◌≡◌, sym, ℕ, Bool, List, [], ◌∷◌, length, refl, ◌∙◌, eq-eqb, ne_eqb}
use Rattle.refusal.specs.Rows.{wrong, row10, argument_rows}
use Rattle.refusal.proofs.Table.{Reached, reached_first, reached_next, reached_refused, reached_none}
use Rattle.refusal.proofs.First.{position-below, searched-refused, searched_next}
use Rattle.refusal.proofs.argument.Goals as goal

-- where the length is the count, row 9 is past
past9 : (candidate : Bool) (count : ℕ) (bytes : List ℕ) → length bytes ≡ count → Reached (argument_rows candidate count bytes) 0 (row10 candidate bytes ∷ [])
unfolding argument_rows
past9 candidate count bytes e = reached_next (reached_first (argument_rows candidate count bytes) 0) (rw (eq-eqb _ _ e))

pub returns-then-bytes-count : goal.returns-then-bytes-count
unfolding argument_rows
returns-then-bytes-count c =
    reached_refused (reached_first (argument_rows c.args.candidate c.args.count c.args.bytes.now) 0) (rw (ne_eqb _ _ c.if-bytes-count.true)) refl

pub returns-in-Some : goal.returns-in-Some
returns-in-Some c =
    let args = c.args in
    searched-refused 10 (λ k. k) _ _ (position-below (wrong args.candidate) 0 args.bytes.now) (past9 args.candidate args.count args.bytes.now c.if-bytes-count.false)
    c.in-Some.index (sym c.first_wrong.ensures ∙ c.in-Some.is) refl

pub returns-in-None : goal.returns-in-None
returns-in-None c =
    let args = c.args in
    reached_none
    (searched_next 10 (λ k. k) _ _ (position-below (wrong args.candidate) 0 args.bytes.now) (past9 args.candidate args.count args.bytes.now c.if-bytes-count.false)
    (sym c.first_wrong.ensures ∙ c.in-None.is))

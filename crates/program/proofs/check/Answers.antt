-- `check` leaves rows 21 to 25 to the header, and row 26 to the rules behind it. Assumes nothing.
use Rattle.std.proofs.Common.{◌≡◌, true, List, [], ◌∷◌, ℕ, ◌-◌, Result, Ok, Err, eqb, length, take, drop}
use Rattle.std.proofs.lemmas.Result.{err_from_is_err_and}
use Rattle.refusal.specs.declared.Refusal.{Refusal}
use Rattle.refusal.specs.Table.{none}
use Rattle.refusal.specs.Refusal.{Decides}
use Rattle.refusal.proofs.Decided.{refused_first, decides-later}
use Rattle.wire.specs.Wire.{u16_at}
use Rattle.wire.proofs.Laws.{part_from}
use Rattle.program.specs.Image.{size_of, rule_count, header_length}
use Rattle.program.specs.Rows.{row26, header_rows, rules_row, program_rows}
use Rattle.program.proofs.check.Goals as goal

-- where none of the header's rows applies, the rules decide
decided : (p : List ℕ) (outcome : Result (Unit {0}) Refusal) → none (header_rows p) ≡ true → {form size count : ℕ} → form ≡ u16_at p 6 → size ≡ size_of p → count ≡ rule_count p
    → Decides (rules_row (eqb form 1) size count (take (length p - header_length) (drop header_length p)) ∷ []) outcome → Decides (program_rows p) outcome
unfolding program_rows
decided p outcome n form size count d = decides-later (header_rows p) (row26 p ∷ []) outcome n (rw (form, size, count, part_from header_length p) at d)

pub returns-in_err-check_header-clause-decided : goal.returns-in_err-check_header-clause-decided
unfolding program_rows
returns-in_err-check_header-clause-decided c =
    let e = err_from_is_err_and c.from_residual.result c.from_residual.ensures.1 in
    rw (e.1, e.2) (refused_first (header_rows c.args.image.now) (row26 c.args.image.now ∷ []) c.in_err-check_header.field-0.0 0 c.in_err-check_header.ensures)

pub returns-in_err-check_rules-clause-decided : goal.returns-in_err-check_rules-clause-decided
returns-in_err-check_rules-clause-decided c =
    let e = err_from_is_err_and c.from_residual-in_err-check_rules.result c.from_residual-in_err-check_rules.ensures.1 in
    rw (e.1, e.2) (decided c.args.image.now (Err c.in_err-check_rules.field-0.0) c.in_ok-check_header.ensures c.u16_at-form.ensures.0 c.u16_at-size.ensures.0 c.u16_at-count.ensures.0 c.in_err-check_rules.ensures)

pub invariant_of-result : goal.invariant_of-result
invariant_of-result c = record {
  checked = decided c.args.image.now (Ok c.in_ok-check_rules.field-0) c.in_ok-check_header.ensures c.u16_at-form.ensures.0 c.u16_at-size.ensures.0 c.u16_at-count.ensures.0 c.in_ok-check_rules.ensures;
}

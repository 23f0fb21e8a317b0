use Rattle.std.proofs.Common.{◌≡◌, sym, List, ℕ, ◌<◌, arith, true}
use Rattle.refusal.specs.Table.{none}
use Rattle.wire.proofs.Laws.{part_from}
use Rattle.wire.proofs.Sequence.{up_to-none}
use Rattle.logic.specs.Formula.{reading_of, value_of}
use Rattle.program.specs.Image.{size_of, rule_count, is_packed, header_length, rule_section, rule_at, behind, program_of}
use Rattle.program.specs.Rows.{program_rows}
use Rattle.program.proofs.Rules.{all_hold_more, all_hold_broken}
use Rattle.program.proofs.Accepted.{none-program_rows, Kept, rule_keeps_true, kept_named}
use Rattle.program.proofs.Walk.{walk_on}
use Rattle.program.proofs.Program.satisfied.Goals as goal

-- what is left behind rules of an accepted image begins with one that keeps to its form
kept : (p : List ℕ) (k : ℕ) {rest : List ℕ} → none (program_rows p) ≡ true → rest ≡ behind (is_packed p) (rule_section p) k → k < rule_count p → Kept (is_packed p) (size_of p) rest
kept p k checked here l = rw here (rule_keeps_true _ _ _ ((none-program_rows p checked).rules.keeps k l))

pub loop-init : goal.loop-init
unfolding behind
loop-init c = (part_from header_length c.args.self.now.image.now, rw up_to-none)

pub invariant_of-under : goal.invariant_of-under
invariant_of-under c =
    record { named = rw c.requires (kept_named _ _ _ (kept c.args.self.now.image.now c.loop.counter c.args.self.now.checked c.loop.invariant.0 (omega arith))) }

pub returns-then-not-holds : goal.returns-then-not-holds
unfolding program_of
returns-then-not-holds c =
    let p = c.args.self.now.image.now in
    sym (all_hold_broken (value_of (reading_of c.args.reading.now)) (λ k. rule_at (behind (is_packed p) (rule_section p) k)) (rule_count p) c.loop.counter
    (omega arith) (rw (← c.loop.invariant.0, ← c.holds.ensures) c.if-not-holds.true))

pub behind_first-rest-requires : goal.behind_first-rest-requires
behind_first-rest-requires c =
    rw c.u16_at-packed.ensures.0 (kept c.args.self.now.image.now c.loop.counter c.args.self.now.checked c.loop.invariant.0 (omega arith)).whole

pub loop-preserved : goal.loop-preserved
loop-preserved c =
    let p = c.args.self.now.image.now in (
      walk_on (is_packed p) (rule_section p) c.loop.counter c.loop.invariant.0 (rw c.u16_at-packed.ensures.0 at c.behind_first-rest.ensures),
      all_hold_more (value_of (reading_of c.args.reading.now)) (λ k. rule_at (behind (is_packed p) (rule_section p) k)) c.loop.counter c.loop.invariant.1
          (rw (← c.loop.invariant.0, ← c.holds.ensures) c.if-not-holds.false),
    )

pub returns : goal.returns
unfolding program_of
returns c =
    let e : c.loop.counter ≡ rule_count c.args.self.now.image.now = omega arith in
    sym (rw e at c.loop.invariant.1)

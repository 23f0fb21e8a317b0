-- Each turn's reading is the smaller one with the counter's number, so its call says whether that one satisfies. Assumes nothing.
use Rattle.std.proofs.Common.{◌≡◌, sym, ap, ◌∙◌, Bool, ℕ, List, ◌+◌, ◌-◌, ◌^◌, add-zero, add_assoc, arith, below_more}
use Rattle.refusal.specs.Rows.{count_true}
use Rattle.logic.specs.Formula.{Formula, reading_of, satisfies}
use Rattle.stable.specs.Testable.{Testable}
use Rattle.stable.specs.Subset.{set_of, lowered}
use Rattle.stable.proofs.Candidates.{length-set_of}
use Rattle.stable.proofs.Steps.{places_from-below}
use Rattle.stable.proofs.Tests.{satisfies_lowered, testable_length, testable_candidate, testable_within, full_reading, stepped, answer_unsatisfied, answer_iff, answer-smaller}
use Rattle.stable.proofs.is_answer_set.Goals as goal

-- the call at the reading after a step says whether the smaller one with this number satisfies
called : (atoms : ℕ) (formulas : List Formula) (candidate reading : List ℕ) (m : ℕ) (answer : Bool) → Testable atoms candidate
    → reading ≡ lowered (set_of candidate) (2 ^ count_true candidate - 1 + m + 1) → answer ≡ satisfies (reading_of reading) formulas
    → answer ≡ satisfies_lowered formulas candidate m
called atoms formulas candidate reading m answer t next asked = rw (next ∙ ap (lowered (set_of candidate)) (add_assoc _ m 1), stepped atoms candidate t m) at asked

pub satisfied_by-requires-clause-reading_len : goal.satisfied_by-requires-clause-reading_len
satisfied_by-requires-clause-reading_len g c = testable_length _ _ c.requires.testable

pub returns-then-not-satisfied_by : goal.returns-then-not-satisfied_by
returns-then-not-satisfied_by g c = sym (answer_unsatisfied _ _ c.requires.testable (g.I.Image.formulas_of c.args.image.now) (sym c.satisfied_by.ensures ∙ c.if-not-satisfied_by.true))

pub places_of-count-requires-clause-candidate : goal.places_of-count-requires-clause-candidate
places_of-count-requires-clause-candidate g c = testable_candidate _ _ c.requires.testable

pub places_of-count-requires-clause-candidate_len_bound : goal.places_of-count-requires-clause-candidate_len_bound
places_of-count-requires-clause-candidate_len_bound g c = testable_within _ _ c.requires.testable

pub loop-init : goal.loop-init
loop-init g c = record {
  none_before = λ m l. absurd (omega arith);
  stands = full_reading _ _ c.requires.testable ∙ ap (lowered (set_of c.args.reading.now)) (sym (add-zero _));
}

pub step-requires : goal.step-requires
step-requires g c =
    rw c.places_of-count.ensures.places_after (places_from-below 0 _ _ (omega (arith, length-set_of c.args.reading.now)))

pub satisfied_by-requires-in-loop-clause-reading_len : goal.satisfied_by-requires-in-loop-clause-reading_len
satisfied_by-requires-in-loop-clause-reading_len g c = omega (arith, testable_length _ _ c.requires.testable)

pub returns-then-satisfied_by : goal.returns-then-satisfied_by
returns-then-satisfied_by g c =
    let loop = c.loop in
    let next = c.step.ensures _ _ c.places_of-count.ensures.places_after loop.invariant.stands in
    let asked = called _ (g.I.Image.formulas_of c.args.image.now) _ _ loop.counter _ c.requires.testable next c.satisfied_by-in-loop.ensures in
    let turns = rw c.places_of-count.ensures.value at c.two_to-end.ensures.0 in
    sym (answer-smaller _ _ c.requires.testable (g.I.Image.formulas_of c.args.image.now) loop.counter (omega (arith, turns)) (sym asked ∙ c.if-satisfied_by.true))

pub loop-preserved : goal.loop-preserved
loop-preserved g c =
    let loop = c.loop in
    let next = c.step.ensures _ _ c.places_of-count.ensures.places_after loop.invariant.stands in
    let asked = called _ (g.I.Image.formulas_of c.args.image.now) _ _ loop.counter _ c.requires.testable next c.satisfied_by-in-loop.ensures in record {
      none_before = below_more _ loop.counter loop.invariant.none_before (sym asked ∙ c.if-satisfied_by.false);
      stands = next ∙ ap (lowered (set_of c.args.reading.now)) (add_assoc _ loop.counter 1);
    }

pub returns : goal.returns
returns g c =
    let loop = c.loop in
    let turns = rw c.places_of-count.ensures.value at c.two_to-end.ensures.0 in
    sym ((answer_iff _ _ c.requires.testable (g.I.Image.formulas_of c.args.image.now)).1 (sym c.satisfied_by.ensures ∙ c.if-not-satisfied_by.false, λ m l. loop.invariant.none_before m (omega (arith, turns))))

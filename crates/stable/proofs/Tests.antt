-- The candidate test: what the readings that are tried say of the candidate's set. Each from the law of the numbered subsets. Assumes nothing.
use mathlib.Core.Path.{◌≡◌, sym, ap, ◌∙◌}
use mathlib.Core.Logic.{◌↔◌}
use mathlib.Core.Bool.{Bool, true, false, cond}
use mathlib.Core.List.{List}
use Prim.Native.Nat.{ℕ, ◌+◌, ◌-◌, ◌^◌, ◌≤◌, ◌<◌}
use native.Mathlib.Omega.{arith}
use lib.ListN.{length}
use lib.Pow.{pow_pos}
use Rattle.refusal.specs.Limits.{most_atoms, most_b, most_true}
use Rattle.refusal.specs.Table.{none}
use Rattle.refusal.specs.Rows.{candidate_rows, count_true}
use Rattle.refusal.proofs.Rows.{none-argument_rows}
use Rattle.logic.specs.Formula.{Formula, reading_of, satisfies}
use Rattle.logic.specs.Atoms.{reading}
use Rattle.logic.specs.AnswerSet.{is_answer_set}
use Rattle.logic.proofs.Bools.{false_of, not_both}
use Rattle.theory.specs.Image.{atom_count}
use Rattle.theory.specs.Rows.{theory_rows}
use Rattle.theory.proofs.Accepted.{accepted}
use Rattle.program.specs.Image.{size_of}
use Rattle.program.specs.Rows.{program_rows}
use Rattle.program.proofs.Accepted.{none-program_rows}
use Rattle.stable.specs.Testable.{Testable}
use Rattle.stable.specs.Subset.{set_of, subset, Candidate, lowered}
use Rattle.stable.proofs.Subsets.{size, is_answer_set_subsets}
use Rattle.stable.proofs.Steps.{lowered_anew}
use Rattle.stable.proofs.Candidates.{length-set_of, candidate_reading, candidate_size, candidate_full, lowered-reading}

-- The smaller reading with the number m satisfies.
abbrev pub satisfies_lowered : List Formula → (candidate : List ℕ) → ℕ → Bool
satisfies_lowered formulas candidate m = satisfies (reading_of (lowered (set_of candidate) m)) formulas

-- A candidate that no row refuses, of a program image or a theory image that none refuses, is as short as the image's readings,
module _ (program : Bool) (image candidate : List ℕ) (checked : none (cond program (program_rows image) (theory_rows image)) ≡ true)
    (kept : none (candidate_rows (cond program (size_of image) (atom_count image)) candidate) ≡ true) where
  few_atoms : cond program (size_of image) (atom_count image) ≤ cond program most_b most_atoms
  few_atoms = few program checked
    where
      few : (program : Bool) → none (cond program (program_rows image) (theory_rows image)) ≡ true → cond program (size_of image) (atom_count image) ≤ cond program most_b most_atoms
      few true h = (none-program_rows image h).inside.size
      few false h = (accepted image h).header.few-atoms

  most_small : cond program most_b most_atoms ≤ most_b
  most_small = most program
    where
      most : (program : Bool) → cond program most_b most_atoms ≤ most_b
      most true = omega arith
      most false = omega arith

  pub testable_short : length candidate ≤ cond program most_b most_atoms
  testable_short = rw (none-argument_rows true (cond program (size_of image) (atom_count image)) candidate kept).0 few_atoms

  pub testable_small : length candidate ≤ most_b
  testable_small = omega (arith, testable_short, most_small)

  -- and can be tested where few of its atoms are true.
  pub image_testable : count_true candidate ≤ most_true → Testable (cond program (size_of image) (atom_count image)) candidate
  image_testable few = record { small = omega (arith, few_atoms, most_small); accepted = kept; few = few }

module _ (atoms : ℕ) (candidate : List ℕ) (t : Testable atoms candidate) where
  pub testable_length : length candidate ≡ atoms
  testable_length = (none-argument_rows true atoms candidate t.accepted).0

  pub testable_candidate : Candidate candidate
  testable_candidate = (none-argument_rows true atoms candidate t.accepted).1

  pub testable_within : length candidate ≤ most_b
  testable_within = rw testable_length t.small

  -- The candidate is the reading of the full subset, and the steps from it go through the smaller readings from the empty subset on.
  pub full_reading : candidate ≡ lowered (set_of candidate) (2 ^ count_true candidate - 1)
  full_reading = rw (← candidate_size candidate testable_candidate) (candidate_full candidate testable_candidate)

  pub stepped : (m : ℕ) → lowered (set_of candidate) (2 ^ count_true candidate - 1 + (m + 1)) ≡ lowered (set_of candidate) m
  stepped m =
      let count = candidate_size candidate testable_candidate in
      let anew : 2 ^ count_true candidate - 1 + (m + 1) ≡ 2 ^ size (set_of candidate) + m = rw count (omega (arith, pow_pos (count_true candidate))) in
      ap (lowered (set_of candidate)) anew ∙ lowered_anew (set_of candidate) m

  module _ (formulas : List Formula) where
    -- A candidate is an answer set exactly if it satisfies and no smaller reading does.
    pub answer_iff : (is_answer_set atoms formulas (set_of candidate) ≡ true)
        ↔ ((satisfies (reading_of candidate) formulas ≡ true) × ((m : ℕ) → m < 2 ^ count_true candidate - 1 → satisfies_lowered formulas candidate m ≡ false))
    answer_iff =
        let law = is_answer_set_subsets atoms formulas (set_of candidate) (length-set_of candidate ∙ testable_length) in
        let same : (m : ℕ) → satisfies_lowered formulas candidate m ≡ satisfies (reading (subset (set_of candidate) m) (set_of candidate)) formulas
        = λ m. ap (λ I. satisfies I formulas) (lowered-reading (set_of candidate) m) in
        let whole : satisfies (reading_of candidate) formulas ≡ satisfies (reading (set_of candidate) (set_of candidate)) formulas
        = ap (λ I. satisfies I formulas) (candidate_reading candidate testable_candidate) in
        let count = candidate_size candidate testable_candidate in (
          λ h. let s = law.0 h in (whole ∙ s.0, λ m l. same m ∙ s.1 m (rw count l)),
          λ h. law.1 (sym whole ∙ h.0, λ m l. sym (same m) ∙ h.1 m (rw (← count) l)),
        )

    -- So one that does not satisfy is none, and neither is one with a smaller reading that does.
    pub answer_unsatisfied : satisfies (reading_of candidate) formulas ≡ false → is_answer_set atoms formulas (set_of candidate) ≡ false
    answer_unsatisfied f = false_of _ (λ h. not_both f (answer_iff.0 h).0)

    pub answer-smaller : (m : ℕ) → m < 2 ^ count_true candidate - 1 → satisfies_lowered formulas candidate m ≡ true
        → is_answer_set atoms formulas (set_of candidate) ≡ false
    answer-smaller m l s = false_of _ (λ h. not_both ((answer_iff.0 h).1 m l) s)

-- What each public call gives, for every input: number, place and result by the rows of the refusal table in their order, and every byte of its output.
-- Behind each, its contract: what the answer has to be and, for a call that writes, what is left in its output.
use Rattle.std.specs.Prelude.{◌≡◌, Bool, List, [], ◌∷◌, ◌++◌, map, ℕ, length}
use Rattle.refusal.specs.declared.Answer.{Answer}
use Rattle.refusal.specs.Limits.{most_true}
use Rattle.refusal.specs.Table.{Row, yes, answer}
use Rattle.refusal.specs.Rows.{reading_rows, candidate_rows, row11, count_true}
use Rattle.wire.specs.Outcome.{Outcome, outcome, written}
use Rattle.logic.specs.Value.{number}
use Rattle.logic.specs.Formula.{reading_of, satisfies}
use Rattle.logic.specs.AnswerSet.{is_answer_set}
use Rattle.theory.specs.Book.{book_formulas}
use Rattle.theory.specs.Image.{atom_count, book_of}
use Rattle.theory.specs.Rows.{theory_rows}
use Rattle.program.specs.Program.{satisfies_program, program_formulas}
use Rattle.program.specs.Image.{size_of, program_of, image_of}
use Rattle.program.specs.Rows.{program_rows}
use Rattle.flat.specs.Flat.{flat}
use Rattle.flat.specs.Extension.{extend as extension}
use Rattle.translation.specs.Outcome.{rule_total, translate_rows, extend_rows}
use Rattle.stable.specs.Subset.{set_of}
use Rattle.stable.specs.Listing.{sets_of, sets_rows, listing}

-- Checking a theory: the theory's rows; the result is yes.
abbrev pub check_theory : (theory : List ℕ) → Answer
check_theory t = answer (theory_rows t) 1

-- Its contract.
abbrev pub ChecksTheory : (theory : List ℕ) → Answer → Type 0
ChecksTheory t a = a ≡ check_theory t

-- Evaluating a theory: the theory's rows, 9, 10; the result is whether the reading satisfies it.
abbrev pub evaluate_theory_rows : (theory reading : List ℕ) → List Row
evaluate_theory_rows t r = theory_rows t ++ reading_rows (atom_count t) r

abbrev pub evaluate_theory : (theory reading : List ℕ) → Answer
evaluate_theory t r = answer (evaluate_theory_rows t r) (yes (satisfies (reading_of r) (book_formulas (book_of t))))

-- Its contract.
abbrev pub EvaluatesTheory : (theory reading : List ℕ) → Answer → Type 0
EvaluatesTheory t r a = a ≡ evaluate_theory t r

-- Checking a program: rows 21-26; the result is yes.
abbrev pub check_program : (program : List ℕ) → Answer
check_program p = answer (program_rows p) 1

-- Its contract.
abbrev pub ChecksProgram : (program : List ℕ) → Answer → Type 0
ChecksProgram p a = a ≡ check_program p

-- Evaluating a program: rows 21-26, 9, 10; the result is whether the reading satisfies it.
abbrev pub evaluate_program_rows : (program reading : List ℕ) → List Row
evaluate_program_rows p r = program_rows p ++ reading_rows (size_of p) r

abbrev pub evaluate_program : (program reading : List ℕ) → Answer
evaluate_program p r = answer (evaluate_program_rows p r) (yes (satisfies_program (reading_of r) (program_of p)))

-- Its contract.
abbrev pub EvaluatesProgram : (program reading : List ℕ) → Answer → Type 0
EvaluatesProgram p r a = a ≡ evaluate_program p r

-- Translating: the theory's rows, 8; the result is K, and the bytes are the flat program's image in the form chosen.
abbrev pub translate_call_rows : (theory : List ℕ) → (packed : Bool) → (out : List ℕ) → List Row
translate_call_rows t packed out = theory_rows t ++ translate_rows packed t (length out)

abbrev pub translate : (theory : List ℕ) → (packed : Bool) → (out : List ℕ) → Outcome
translate t packed out =
    outcome (answer (translate_call_rows t packed out) (rule_total t)) (written (translate_call_rows t packed out) (image_of packed (flat (book_of t))) out)

-- Its contract.
abbrev pub Translates : (theory : List ℕ) → (packed : Bool) → (out : List ℕ) → Answer → (left : List ℕ) → Type 0
Translates t packed out a left = outcome a left ≡ translate t packed out

-- Extending: the theory's rows, 9, 10, 8; the result is B, and the bytes are the reading's and then each label's value.
abbrev pub extend_call_rows : (theory reading out : List ℕ) → List Row
extend_call_rows t r out = theory_rows t ++ extend_rows t r (length out)

abbrev pub extend : (theory reading out : List ℕ) → Outcome
extend t r out =
    outcome (answer (extend_call_rows t r out) (flat (book_of t)).size) (written (extend_call_rows t r out) (map number (extension (book_of t) (reading_of r))) out)

-- Its contract.
abbrev pub ExtendsReading : (theory reading out : List ℕ) → Answer → (left : List ℕ) → Type 0
ExtendsReading t r out a left = outcome a left ≡ extend t r out

-- The row of a candidate test's own: over 16 atoms true.
abbrev pub row11_true : (candidate : List ℕ) → Row
row11_true c = row11 (count_true c) most_true

-- Testing a candidate of a theory: the theory's rows, 9, 10, 11; the result is whether it is an answer set.
abbrev pub test_theory_rows : (theory candidate : List ℕ) → List Row
test_theory_rows t c = theory_rows t ++ (candidate_rows (atom_count t) c ++ (row11_true c ∷ []))

abbrev pub test_theory : (theory candidate : List ℕ) → Answer
test_theory t c = answer (test_theory_rows t c) (yes (is_answer_set (atom_count t) (book_formulas (book_of t)) (set_of c)))

-- Its contract.
abbrev pub TestsTheory : (theory candidate : List ℕ) → Answer → Type 0
TestsTheory t c a = a ≡ test_theory t c

-- Testing a candidate of a program: rows 21-26, 9, 10, 11; the result is whether it is an answer set.
abbrev pub test_program_rows : (program candidate : List ℕ) → List Row
test_program_rows p c = program_rows p ++ (candidate_rows (size_of p) c ++ (row11_true c ∷ []))

abbrev pub test_program : (program candidate : List ℕ) → Answer
test_program p c = answer (test_program_rows p c) (yes (is_answer_set (size_of p) (program_formulas (program_of p)) (set_of c)))

-- Its contract.
abbrev pub TestsProgram : (program candidate : List ℕ) → Answer → Type 0
TestsProgram p c a = a ≡ test_program p c

-- Listing: the theory's rows, 11, 8; the result is the number of answer sets, and the bytes are their numbers.
abbrev pub list_sets_rows : (theory out : List ℕ) → List Row
list_sets_rows t out = theory_rows t ++ sets_rows t out

abbrev pub list_sets : (theory out : List ℕ) → Outcome
list_sets t out = outcome (answer (list_sets_rows t out) (length (sets_of t))) (written (list_sets_rows t out) (listing t) out)

-- Its contract.
abbrev pub ListsSets : (theory out : List ℕ) → Answer → (left : List ℕ) → Type 0
ListsSets t out a left = outcome a left ≡ list_sets t out

-- A byte holds eight bits of a test, each at its place, since a number's bits are the atoms of its set. By induction on the set. Assumes nothing.
use mathlib.Core.Path.{◌≡◌, refl, ap, ◌∙◌}
use mathlib.Core.Bool.{Bool, true, false, cond}
use mathlib.Core.List.{List, [], ◌∷◌, ◌++◌}
use Prim.Native.Nat.{ℕ, zero, suc, ◌+◌, ◌*◌, ◌/◌, ◌%◌, ◌^◌, ◌<◌}
use native.Mathlib.Nat.{pow-succ', zero-div, div-one, div-div-eq-div-mul}
use native.Mathlib.Omega.{arith}
use lib.Dec.{ltb}
use lib.ListN.{length, get_or, set}
use lib.Seq.{get_or-set_same, get_or-set_other}
use borrow.Author.Tests.{ltb-true, ltb-false}
use Rattle.refusal.proofs.Table.{cases}
use Rattle.refusal.proofs.Rows.{argument_rows-none}
use Rattle.wire.specs.Sequence.{up_to}
use Rattle.wire.proofs.Sequence.{up_to_more, length-up_to, get_d_up_to}
use Rattle.logic.specs.Atoms.{Atoms}
use Rattle.logic.specs.AnswerSet.{is_answer_set}
use Rattle.theory.specs.Book.{book_formulas}
use Rattle.theory.specs.Image.{atom_count, book_of}
use Rattle.stable.specs.Testable.{Testable}
use Rattle.stable.specs.Subset.{set_of, odd, candidate_of}
use Rattle.stable.specs.Number.{number_of, set_of_number}
use Rattle.stable.specs.Bitmap.{bit_at, eight_of, is_listed, Listable}
use Rattle.stable.proofs.Digits.{odd_digit, half_digit}
use Rattle.stable.proofs.Numbers.{length-set_of_number, number_of_lt}
use Rattle.stable.proofs.Candidates.{candidate_of_candidate, set_of-candidate_of, length-candidate_of, count_true_le}

-- Bit j of a set's number says whether atom j is in the set.
bit_number_of : (T : Atoms) (j : ℕ) → odd (number_of T / 2 ^ j) ≡ get_or T j false
unfolding number_of
bit_number_of [] j = rw zero-div
bit_number_of (b ∷ T) zero = rw div-one (odd_digit b (number_of T))
bit_number_of (b ∷ T) (suc j) =
    rw (pow-succ' 2 j, ← div-div-eq-div-mul (cond b 1 0 + 2 * number_of T) 2 (2 ^ j), half_digit b (number_of T)) (bit_number_of T j)

-- An atom more behind the others weighs 2 to their number.
number_of_with : (T : Atoms) → number_of (T ++ (true ∷ [])) ≡ number_of T + 2 ^ length T
unfolding number_of
number_of_with [] = refl
number_of_with (t ∷ T) = omega (arith, number_of_with T, pow-succ' 2 (length T))

number_of_without : (T : Atoms) → number_of (T ++ (false ∷ [])) ≡ number_of T
unfolding number_of
number_of_without [] = refl
number_of_without (t ∷ T) = omega (arith, number_of_without T)

-- The number of a test's first bits.
module _ (test : ℕ → Bool) (j : ℕ) where
  pub bits_with : test j ≡ true → number_of (up_to test (j + 1)) ≡ number_of (up_to test j) + 2 ^ j
  bits_with t = rw (up_to_more test j, t) (number_of_with (up_to test j) ∙ ap (λ n. number_of (up_to test j) + 2 ^ n) (length-up_to test j))

  pub bits_without : test j ≡ false → number_of (up_to test (j + 1)) ≡ number_of (up_to test j)
  bits_without t = rw (up_to_more test j, t) (number_of_without (up_to test j))

  pub bits_lt : number_of (up_to test j) < 2 ^ j
  bits_lt = rw (length-up_to test j) at (number_of_lt (up_to test j))

-- A byte written at i gives the test's eight bits from i * 8 on, and leaves those before.
module _ (test : ℕ → Bool) (bitmap : List ℕ) (i : ℕ) (fits : i < length bitmap) (before : (c : ℕ) → c < i * 8 → bit_at bitmap c ≡ test c) where
  pub bit_at-set : (c : ℕ) → c < (i + 1) * 8 → bit_at (set bitmap i (eight_of test (i * 8))) c ≡ test c
  unfolding eight_of
  bit_at-set c l = cases (ltb c (i * 8))
      (λ t. let s = ltb-true c (i * 8) t in rw (get_or-set_other bitmap i (c / 8) (eight_of test (i * 8)) 0 (omega arith)) (before c s))
      (λ t.
      let s = ltb-false c (i * 8) t in
      let place : c / 8 ≡ i = omega arith in
      let whole : i * 8 + c % 8 ≡ c = omega arith in
      rw (place, get_or-set_same bitmap i (eight_of test (i * 8)) 0 fits)
      (bit_number_of (up_to (λ j. test (i * 8 + j)) 8) (c % 8) ∙ get_d_up_to (λ j. test (i * 8 + j)) 8 (c % 8) false (omega arith) ∙ ap test whole))

-- Room of the same lengths will do as well.
pub listable_kept : {theory reading values reading₂ values₂ : List ℕ} → Listable theory reading values
    → length reading₂ ≡ length reading → length values₂ ≡ length values → Listable theory reading₂ values₂
listable_kept l r v = record { few = l.few; sized = r ∙ l.sized; long = rw v l.long }

-- The candidate of a number's set can be tested, and the test says whether that set is listed.
module _ {theory reading values : List ℕ} (l : Listable theory reading values) (c : ℕ) where
  abbrev numbered : List ℕ
  numbered = candidate_of (set_of_number (length reading) c)

  length-numbered : length numbered ≡ atom_count theory
  length-numbered = length-candidate_of (set_of_number (length reading) c) ∙ length-set_of_number _ _ ∙ l.sized

  pub number_testable : Testable (atom_count theory) numbered
  number_testable = record {
    small = omega (arith, l.few);
    accepted = argument_rows-none true _ numbered length-numbered (candidate_of_candidate _);
    few = omega (arith, count_true_le numbered, length-numbered, l.few);
  }

  pub number-listed : is_answer_set (atom_count theory) (book_formulas (book_of theory)) (set_of numbered) ≡ is_listed theory c
  unfolding is_listed
  number-listed = ap (is_answer_set (atom_count theory) (book_formulas (book_of theory))) (set_of-candidate_of _ ∙ ap (λ n. set_of_number n c) l.sized)

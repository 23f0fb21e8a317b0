-- A candidate's bytes are those of the reading of its set, since each of them is 0 or 2. By induction on the bytes. Assumes nothing.
use mathlib.Core.Path.{◌≡◌, refl, sym, ap, ap₂, ◌∙◌}
use mathlib.Core.Bool.{Bool, true, false, cond, true≢false}
use mathlib.Core.List.{List, [], ◌∷◌, ◌++◌, map}
use Prim.Native.Nat.{ℕ, zero, suc, ◌+◌, ◌-◌, ◌*◌, ◌/◌, ◌%◌, ◌^◌, ◌≤◌, ◌<◌}
use native.Mathlib.Numerals.{add-one}
use native.Mathlib.Omega.{arith}
use lib.Dec.{eqb}
use lib.ListN.{length, get_or, length-map, take, drop, set}
use lib.Seq.{drop-cons, take-suc-set, append_snoc}
use borrow.Author.Tests.{lt-ltb}
use Rattle.refusal.specs.Rows.{wrong, count_true}
use Rattle.refusal.proofs.Table.{cases}
use Rattle.logic.specs.Value.{number, of_byte, true_here}
use Rattle.logic.specs.Formula.{reading_of}
use Rattle.logic.specs.Atoms.{Atoms, mark, reading, here_of}
use Rattle.logic.proofs.Sets.{inside_refl, here_of-reading, length-reading}
use Rattle.logic.proofs.Formulas.{reading_of-number}
use Rattle.stable.specs.Subset.{set_of, candidate_of, odd, subset, Candidate, lowered, places_from}
use Rattle.stable.specs.Number.{set_of_number}
use Rattle.stable.proofs.Digits.{digit_odd}
use Rattle.stable.proofs.Subsets.{size, subset_full}

pub length-set_of : (bytes : List ℕ) → length (set_of bytes) ≡ length bytes
length-set_of bytes = length-map (reading_of bytes) true_here ∙ length-map bytes of_byte

-- What holds of 0 and of 2 holds of a byte that is not wrong.
candidate_byte : (P : ℕ → Type 0) → P 0 → P 2 → (b : ℕ) → wrong true b ≡ false → P b
candidate_byte P none two zero h = none
candidate_byte P none two (suc zero) h = absurd (true≢false h)
candidate_byte P none two (suc (suc zero)) h = two
candidate_byte P none two (suc (suc (suc b))) h = absurd (true≢false (rw (lt-ltb 2 (suc (suc (suc b))) (omega arith)) at h))

candidate_tail : (b : ℕ) (bytes : List ℕ) → Candidate (b ∷ bytes) → Candidate bytes
candidate_tail b bytes h i l = h (suc i) (omega arith)

-- A candidate is that of its set, and so the reading of it; its bytes 2 are the atoms of the set.
candidate_bytes : (bytes : List ℕ) → Candidate bytes → bytes ≡ candidate_of (set_of bytes)
unfolding candidate_of
candidate_bytes [] h = refl
candidate_bytes (b ∷ bytes) h = ap₂ ◌∷◌
    (candidate_byte (λ b. b ≡ number (mark (true_here (of_byte b)) (true_here (of_byte b)))) refl refl b (h 0 (omega arith)))
    (candidate_bytes bytes (candidate_tail b bytes h))

pub candidate_reading : (bytes : List ℕ) → Candidate bytes → reading_of bytes ≡ reading (set_of bytes) (set_of bytes)
unfolding candidate_of
candidate_reading bytes h = ap reading_of (candidate_bytes bytes h) ∙ reading_of-number (reading (set_of bytes) (set_of bytes))

pub candidate_size : (bytes : List ℕ) → Candidate bytes → size (set_of bytes) ≡ count_true bytes
unfolding size count_true
candidate_size [] h = refl
candidate_size (b ∷ bytes) h =
    candidate_byte (λ b. size (true_here (of_byte b) ∷ set_of bytes) ≡ cond (eqb b 2) (suc (count_true bytes)) (count_true bytes))
    (candidate_size bytes (candidate_tail b bytes h)) (ap suc (candidate_size bytes (candidate_tail b bytes h))) b (h 0 (omega arith))

pub count_true_le : (bytes : List ℕ) → count_true bytes ≤ length bytes
unfolding count_true
count_true_le [] = omega arith
count_true_le (b ∷ bytes) = cases (eqb b 2) (λ t. rw t (omega (arith, count_true_le bytes))) (λ t. rw t (omega (arith, count_true_le bytes)))

-- The candidate of a set is one, and its set is that set.
pub candidate_of_candidate : (T : Atoms) → Candidate (candidate_of T)
unfolding candidate_of
candidate_of_candidate [] i h = absurd (omega arith)
candidate_of_candidate (t ∷ T) zero h = elim t as (λ k. wrong true (get_or (candidate_of (k ∷ T)) 0 0) ≡ false) [ true ↦ refl | false ↦ refl ]
candidate_of_candidate (t ∷ T) (suc i) h = candidate_of_candidate T i (omega arith)

pub set_of-candidate_of : (T : Atoms) → set_of (candidate_of T) ≡ T
unfolding candidate_of
set_of-candidate_of T = ap here_of (reading_of-number (reading T T)) ∙ here_of-reading T T (inside_refl T)

pub length-candidate_of : (T : Atoms) → length (candidate_of T) ≡ length T
unfolding candidate_of
length-candidate_of T = length-map (reading T T) number ∙ length-reading T

-- The byte of the lowest atom, and the number that is left for the others.
pub candidate_of-number : (n c : ℕ) → candidate_of (set_of_number (suc n) c) ≡ c % 2 * 2 ∷ candidate_of (set_of_number n (c / 2))
unfolding candidate_of set_of_number
candidate_of-number n c = ap (λ b. b ∷ candidate_of (set_of_number n (c / 2))) (marked (odd c) ∙ ap (λ d. d * 2) (digit_odd c))
  where
    marked : (b : Bool) → number (mark b b) ≡ cond b 1 0 * 2
    marked true = refl
    marked false = refl

-- The smaller readings.

pub lowered-reading : (T : Atoms) (m : ℕ) → reading_of (lowered T m) ≡ reading (subset T m) T
unfolding lowered
lowered-reading T m = reading_of-number (reading (subset T m) T)

-- A candidate is the reading of the full subset of its set.
pub candidate_full : (bytes : List ℕ) → Candidate bytes → bytes ≡ lowered (set_of bytes) (2 ^ size (set_of bytes) - 1)
unfolding lowered candidate_of
candidate_full bytes h = candidate_bytes bytes h ∙ ap (λ H. map number (reading H (set_of bytes))) (sym (subset_full (set_of bytes)))

-- The places from an index on: whether the index itself is one.
module _ (bytes : List ℕ) (h : Candidate bytes) (i : ℕ) (l : i < length bytes) where
  pub places_at : places_from i (set_of (drop i bytes)) ≡ cond (eqb (get_or bytes i 0) 2) (i ∷ places_from (i + 1) (set_of (drop (i + 1) bytes))) (places_from (i + 1) (set_of (drop (i + 1) bytes)))
  unfolding places_from
  places_at =
      let rest = drop (i + 1) bytes in
      let begins : drop i bytes ≡ get_or bytes i 0 ∷ rest = rw (drop-cons bytes i 0 l, add-one) in
      rw begins (candidate_byte (λ b. places_from i (set_of (b ∷ rest)) ≡ cond (eqb b 2) (i ∷ places_from (i + 1) (set_of rest)) (places_from (i + 1) (set_of rest))) refl refl (get_or bytes i 0) (h i l))

-- A number written where the unwritten rest begins.
pub next_number : (out : List ℕ) (i n : ℕ) (rest all : List ℕ) {old : List ℕ} → i < length out → take i out ++ old ≡ all → old ≡ n ∷ rest
    → take (i + 1) (set out i n) ++ rest ≡ all
next_number out i n rest all l w e = rw (add-one, take-suc-set out i n l, append_snoc) (rw e at w)

-- The listing's numbers are those below 2 to the n whose set is an answer set, in ascending order: `all_sets` has the sets of 0, 1, .. in turn. Assumes nothing.
use mathlib.Core.Path.{◌≡◌, refl, sym, ap, ap₂, ◌∙◌}
use mathlib.Core.Logic.{⊎_elim}
use mathlib.Core.Bool.{Bool, true, false, cond}
use mathlib.Core.List.{List, [], ◌∷◌, ◌++◌, map, map-append, append-nil}
use Prim.Native.Nat.{ℕ, zero, suc, ◌+◌, ◌*◌, ◌^◌, ◌≤◌, ◌<◌}
use native.Mathlib.Nat.{eq-or-lt_of_le, zero-add}
use native.Mathlib.Numerals.{add-one}
use native.Mathlib.Omega.{arith}
use Rattle.std.specs.List.{range_with_len, count_by}
use Rattle.std.proofs.lemmas.List.{map-id}
use Rattle.std.proofs.lemmas.List.FromFn.{sum_by-map-range_with_len_more}
use lib.Dec.{ltb}
use lib.ListN.{length, get_or, length-append, length-map, get_or-append}
use lib.Seq.{get_or_at}
use borrow.Author.Tests.{ltb-true, ltb-false, lt-ltb, le-ltb}
use Rattle.refusal.specs.Limits.{most_listed}
use Rattle.refusal.specs.Table.{answer, refused, accepted}
use Rattle.refusal.proofs.Table.{cases}
use Rattle.wire.specs.Wire.{u16_bytes, over}
use Rattle.wire.specs.Sequence.{up_to}
use Rattle.logic.specs.Formula.{Formula}
use Rattle.logic.specs.Atoms.{Atoms}
use Rattle.logic.specs.AnswerSet.{those, is_answer_set, answer_sets}
use Rattle.theory.specs.Book.{book_formulas}
use Rattle.theory.specs.Image.{atom_count, book_of}
use Rattle.stable.specs.Number.{number_of, set_of_number}
use Rattle.stable.specs.Listing.{sets_of, sets_rows, listing, listed, numbers_bytes, Ascending}
use Rattle.stable.specs.Bitmap.{bit_at, passing, is_listed}
use Rattle.stable.proofs.Numbers.{number_of-set_of_number, all_sets-up_to}

-- Numbers that pass a test.

module _ (test : ℕ → Bool) (n : ℕ) where
  pub passing_true : test n ≡ true → passing test (n + 1) ≡ passing test n ++ (n ∷ [])
  unfolding passing
  passing_true t = rw (add-one, t)

  pub passing_false : test n ≡ false → passing test (n + 1) ≡ passing test n
  unfolding passing
  passing_false t = rw (add-one, t, append-nil)

pub length-passing : (test : ℕ → Bool) (n : ℕ) → length (passing test n) ≤ n
unfolding passing
length-passing test zero = omega arith
length-passing test (suc n) = rw length-append (omega (arith, one (test n), length-passing test n))
  where
    one : (b : Bool) → length (cond b (n ∷ []) []) ≤ 1
    one true = omega arith
    one false = omega arith

-- They are as many as the library counts.
pub passing-count_by : (test : ℕ → Bool) (n : ℕ) → count_by test (range_with_len 0 n) ≡ length (passing test n)
unfolding passing
passing-count_by test zero = refl
passing-count_by test (suc n) =
    let more : count_by test (range_with_len 0 (n + 1)) ≡ count_by test (range_with_len 0 n) + cond (test n) 1 0
    = rw (map-id, map-id) at (sum_by-map-range_with_len_more (λ c. cond (test c) 1 0) (λ c. c) 0 n n (zero-add n)) in
    ap (λ k. count_by test (range_with_len 0 k)) (sym (add-one n)) ∙ more ∙ rw (passing-count_by test n, length-append) (ap (λ k. length (passing test n) + k) (one (test n)))
  where
    one : (b : Bool) → cond b 1 0 ≡ length (cond b (n ∷ []) [])
    one true = refl
    one false = refl

pub passing_le : (test : ℕ → Bool) (n m : ℕ) → n ≤ m → length (passing test n) ≤ length (passing test m)
unfolding passing
passing_le test n zero h = let e : n ≡ 0 = omega arith in rw e (omega arith)
passing_le test n (suc m) h = ⊎_elim
    (λ (e : n ≡ suc m). rw e (omega arith))
    (λ (l : n < suc m). rw length-append (omega (arith, passing_le test n m (omega arith))))
    (eq-or-lt_of_le h)

pub passing_equal : (test other : ℕ → Bool) (n : ℕ) → ((c : ℕ) → c < n → test c ≡ other c) → passing test n ≡ passing other n
unfolding passing
passing_equal test other zero h = refl
passing_equal test other (suc n) h = ap₂ (λ l b. l ++ cond b (n ∷ []) []) (passing_equal test other n (λ c l. h c (omega arith))) (h n (omega arith))

-- Every number of the list is below n.
abbrev Below : ℕ → List ℕ → Type 0
Below n l = (i : ℕ) → i < length l → get_or l i 0 < n

module _ (l : List ℕ) (n : ℕ) (below : Below n l) where
  -- In l with n behind it: n stands at the end, and all before it as in l.
  at_end : (i : ℕ) → i < length (l ++ (n ∷ [])) → (length l ≤ i → get_or (l ++ (n ∷ [])) i 0 ≡ n) × (i < length l → get_or (l ++ (n ∷ [])) i 0 ≡ get_or l i 0)
  at_end i h = (λ e. get_or_at l n [] 0 i (omega (arith, length-append l (n ∷ []))), λ s. get_or-append l (n ∷ []) 0 i s)

  below_more : (b : Bool) → Below (suc n) (l ++ cond b (n ∷ []) [])
  below_more false = rw append-nil (λ i h. omega (arith, below i h))
  below_more true = λ i h. cases (ltb i (length l))
      (λ t. let s = ltb-true i (length l) t in omega (arith, (at_end i h).1 s, below i s))
      (λ t. omega (arith, (at_end i h).0 (ltb-false i (length l) t)))

  ascending_more : Ascending l → (b : Bool) → Ascending (l ++ cond b (n ∷ []) [])
  ascending_more up false = rw append-nil up
  ascending_more up true = λ i j s h.
      let before : i < length l = omega (arith, length-append l (n ∷ [])) in
      let same = (at_end i (omega (arith, length-append l (n ∷ [])))).1 before in
      cases (ltb j (length l))
      (λ t. let r = ltb-true j (length l) t in omega (arith, same, (at_end j h).1 r, up i j s r))
      (λ t. omega (arith, same, below i before, (at_end j h).0 (ltb-false j (length l) t)))

passing-below : (test : ℕ → Bool) (n : ℕ) → Below n (passing test n)
unfolding passing
passing-below test zero = λ i h. absurd (omega arith)
passing-below test (suc n) = below_more (passing test n) n (passing-below test n) (test n)

pub passing-ascending : (test : ℕ → Bool) (n : ℕ) → Ascending (passing test n)
unfolding passing
passing-ascending test zero = λ i j s h. absurd (omega arith)
passing-ascending test (suc n) = ascending_more (passing test n) n (passing-below test n) (passing-ascending test n) (test n)

-- The sets of a sequence that pass a test, each numbered as it stands there.

those_snoc : (p : Atoms → Bool) (Ts : List Atoms) (T : Atoms) → those p (Ts ++ (T ∷ [])) ≡ those p Ts ++ cond (p T) (T ∷ []) []
those_snoc p [] T = refl
those_snoc p (S ∷ Ts) T = rw (those_snoc p Ts T) (either (p S))
  where
    either : (b : Bool) → cond b (S ∷ those p Ts ++ cond (p T) (T ∷ []) []) (those p Ts ++ cond (p T) (T ∷ []) []) ≡ cond b (S ∷ those p Ts) (those p Ts) ++ cond (p T) (T ∷ []) []
    either true = refl
    either false = refl

those-passing : (p : Atoms → Bool) (f : ℕ → Atoms) (n : ℕ) → ((c : ℕ) → c < n → number_of (f c) ≡ c) → map number_of (those p (up_to f n)) ≡ passing (λ c. p (f c)) n
unfolding up_to passing
those-passing p f zero h = refl
those-passing p f (suc n) h =
    rw (those_snoc p (up_to f n) (f n), map-append, those-passing p f n (λ c l. h c (omega arith))) (ap (λ l. passing (λ c. p (f c)) n ++ l) (last (p (f n))))
  where
    last : (b : Bool) → map number_of (cond b (f n ∷ []) []) ≡ cond b (n ∷ []) []
    last true = ap (λ c. c ∷ []) (h n (omega arith))
    last false = refl

module _ (n : ℕ) (Γ : List Formula) where
  -- The numbers of the answer sets are those below 2 to the n whose set is one.
  pub answer_sets-passing : map number_of (answer_sets n Γ) ≡ passing (λ c. is_answer_set n Γ (set_of_number n c)) (2 ^ n)
  answer_sets-passing = ap (λ Ts. map number_of (those (is_answer_set n Γ) Ts)) (all_sets-up_to n) ∙ (those-passing (is_answer_set n Γ) (set_of_number n) (2 ^ n) (number_of-set_of_number n))

  -- They are strictly ascending, so each set stands once.
  pub answer_sets-ascending : Ascending (map number_of (answer_sets n Γ))
  answer_sets-ascending = rw answer_sets-passing (passing-ascending _ (2 ^ n))

-- Bytes.

pub numbers_bytes-append : (cs ds : List ℕ) → numbers_bytes (cs ++ ds) ≡ numbers_bytes cs ++ numbers_bytes ds
unfolding numbers_bytes
numbers_bytes-append [] ds = refl
numbers_bytes-append (c ∷ cs) ds = ap (λ l. u16_bytes c ++ l) (numbers_bytes-append cs ds)

pub length-numbers_bytes : (cs : List ℕ) → length (numbers_bytes cs) ≡ 2 * length cs
unfolding numbers_bytes
length-numbers_bytes [] = refl
length-numbers_bytes (c ∷ cs) = omega (arith, length-numbers_bytes cs)

-- What a bitmap that is right for every set counts and writes.
module _ (theory found : List ℕ) (right : (c : ℕ) → c < 2 ^ atom_count theory → bit_at found c ≡ is_listed theory c) where
  pub found_numbers : passing (bit_at found) (2 ^ atom_count theory) ≡ map number_of (sets_of theory)
  unfolding is_listed
  found_numbers = passing_equal (bit_at found) (is_listed theory) (2 ^ atom_count theory) right ∙ sym (answer_sets-passing (atom_count theory) (book_formulas (book_of theory)))

  pub found_count : length (passing (bit_at found) (2 ^ atom_count theory)) ≡ length (sets_of theory)
  found_count = ap length found_numbers ∙ length-map (sets_of theory) number_of

-- The three outcomes: more atoms than are listed, too little room, and the listing.
module _ (theory out : List ℕ) where
  pub listed_many : most_listed < atom_count theory
      → (refused 11 (atom_count theory) ≡ answer (sets_rows theory out) (length (sets_of theory))) × (out ≡ listed theory out)
  unfolding sets_rows
  listed_many h = rw (lt-ltb most_listed (atom_count theory) h) (refl, refl)

  pub listed_short : atom_count theory ≤ most_listed → length out < 2 * length (sets_of theory)
      → (refused 8 (2 * length (sets_of theory)) ≡ answer (sets_rows theory out) (length (sets_of theory))) × (out ≡ listed theory out)
  unfolding sets_rows
  listed_short h l = rw (le-ltb most_listed (atom_count theory) h, lt-ltb (length out) (2 * length (sets_of theory)) l) (refl, refl)

  pub listed-whole : atom_count theory ≤ most_listed → 2 * length (sets_of theory) ≤ length out
      → (accepted (length (sets_of theory)) ≡ answer (sets_rows theory out) (length (sets_of theory))) × (over (listing theory) out ≡ listed theory out)
  unfolding sets_rows
  listed-whole h l = rw (le-ltb most_listed (atom_count theory) h, le-ltb (length out) (2 * length (sets_of theory)) l) (refl, refl)

-- Laws of the first number at which a test holds, by induction on the bound; and what a loop that tries 0, 1, .. in turn needs of it. Assumes nothing.
use Rattle.std.proofs.Common.{Option, Some, None, find, position, length, get_or, add-zero, zero-add}
use Rattle.std.proofs.lemmas.Option.{none-some, cond_some}
use Rattle.std.specs.List.{position_or_len, range_with_len}
use mathlib.Core.Path.{◌≡◌, refl, sym, ap, ap₂, ◌∙◌}
use mathlib.Core.Logic.{◌↔◌, ⊎_elim}
use mathlib.Core.Bool.{Bool, true, false, cond, true≢false}
use mathlib.Core.List.{List, [], ◌∷◌}
use Prim.Native.Nat.{ℕ, zero, suc, ◌+◌, ◌≤◌, ◌<◌}
use native.Mathlib.Nat.{eq-or-lt_of_le, le_of_suc-le-suc, not-suc-le-zero}
use native.Mathlib.Omega.{arith}
use lib.Dec.{ltb}
use borrow.Author.Tests.{lt-ltb, le-ltb, ltb-true, ltb-false}
use Rattle.refusal.specs.declared.Answer.{Answer}
use Rattle.refusal.specs.Table.{Row, refused, answer}
use Rattle.refusal.specs.First.{first, found, first_placed, FirstAt}
use Rattle.refusal.proofs.Table.{cases, Reached, reached_next, reached_refused}

-- it is at most the bound
pub first_le : (test : ℕ → Bool) (n : ℕ) → first test n ≤ n
unfolding first
first_le test zero = omega arith
first_le test (suc n) = cases (test 0) (λ t. rw t (omega arith)) (λ t. rw t (omega (arith, first_le (λ k. test (suc k)) n)))

-- below it the test fails
pub first-before : (test : ℕ → Bool) (n k : ℕ) → k < first test n → test k ≡ false
unfolding first
first-before test zero k h = absurd (not-suc-le-zero h)
first-before test (suc n) zero h = cases (test 0) (λ t. absurd (not-suc-le-zero (rw t at h))) (λ t. t)
first-before test (suc n) (suc k) h =
    cases (test 0) (λ t. absurd (not-suc-le-zero (rw t at h))) (λ t. first-before (λ j. test (suc j)) n k (le_of_suc-le-suc (rw t at h)))

-- at it the test holds, if it is below the bound
first_at : (test : ℕ → Bool) (n : ℕ) → first test n < n → test (first test n) ≡ true
unfolding first
first_at test zero h = absurd (not-suc-le-zero h)
first_at test (suc n) h = cases (test 0) (λ t. rw t t) (λ t. rw t (first_at (λ k. test (suc k)) n (le_of_suc-le-suc (rw t at h))))

-- tests that agree below the bound have the same first number
pub first_equal : (test other : ℕ → Bool) (n : ℕ) → ((k : ℕ) → k < n → test k ≡ other k) → first test n ≡ first other n
unfolding first
first_equal test other zero h = refl
first_equal test other (suc n) h = ap₂ (λ (b : Bool) (m : ℕ). cond b 0 (suc m)) (h 0 (omega arith)) (first_equal (λ k. test (suc k)) (λ k. other (suc k)) n (λ k l. h (suc k) (omega arith)))

module _ (test : ℕ → Bool) (n k : ℕ) (not-passed : k ≤ first test n) where
  -- a loop that tries 0, 1, .. and has come to k: where it finds the test, that is the first such number,
  pub first_here : test k ≡ true → k ≡ first test n
  first_here t = ⊎_elim (λ e. e) (λ l. absurd (true≢false (sym t ∙ first-before test n k l))) (eq-or-lt_of_le not-passed)

  -- where it does not, it goes on,
  pub first_on : k < n → test k ≡ false → k + 1 ≤ first test n
  first_on h t = ⊎_elim (λ e. absurd (true≢false (sym (first_at test n (rw (← e) h)) ∙ rw (← e) t))) (λ l. omega arith) (eq-or-lt_of_le not-passed)

  -- and at the bound there is none
  pub first_end : n ≤ k → k ≡ first test n
  first_end h = omega (arith, first_le test n)

-- there is none exactly if the test fails at every number below the bound
pub first-none : (test : ℕ → Bool) (n : ℕ) → (ltb (first test n) n ≡ false) ↔ ((k : ℕ) → k < n → test k ≡ false)
first-none test n = (
  λ h k l. first-before test n k (omega (arith, ltb-false (first test n) n h)),
  λ h. cases (ltb (first test n) n) (λ t. let l = ltb-true (first test n) n t in absurd (true≢false (sym (first_at test n l) ∙ h (first test n) l))) (λ t. t),
)

-- where there is one, it is the first such
pub first_is : (test : ℕ → Bool) (n : ℕ) → ltb (first test n) n ≡ true → FirstAt test n (first test n)
first_is test n h =
    let l = ltb-true (first test n) n h in
    record { below = l; holds = first_at test n l; not_before = first-before test n }

-- the row of the first such number, where a scan has found k: below the bound it refuses with the place made from k, and at the bound it is past
module _ (number : ℕ) (place : ℕ → ℕ) (test : ℕ → Bool) (n k : ℕ) (found : k ≡ first test n)
    {rows rest : List Row} {x : ℕ} (at : Reached rows x (first_placed number place test n ∷ rest)) where
  pub first-refused : k < n → {a : Answer} → a ≡ refused number (place k) → a ≡ answer rows x
  first-refused h e = reached_refused at (rw (← found) (lt-ltb k n h)) (rw (← found) e)

  pub first_next : n ≤ k → Reached rows x rest
  first_next h = reached_next at (rw (← found) (le-ltb k n h))

-- the first index of a list at which a test holds is the library's
position-first : {S : Type 0} (p : S → Bool) (d : S) (xs : List S) → position_or_len p xs ≡ first (λ i. p (get_or xs i d)) (length xs)
unfolding first
position-first p d [] = refl
position-first p d (x ∷ xs) = cases (p x) (λ t. rw t refl) (λ t. rw (t, position-first p d xs) (omega arith))

-- a number that is below the bound
abbrev pub below : (k n : ℕ) → Option ℕ
below k n = cond (ltb k n) (Some k) None

-- the first index of a list at which a test holds is the library's,
pub position-below : {S : Type 0} (p : S → Bool) (d : S) (xs : List S) → position p xs ≡ below (first (λ i. p (get_or xs i d)) (length xs)) (length xs)
position-below p d xs = rw (position-first p d xs) refl

-- and so is the first of some numbers in turn
find-first : (test : ℕ → Bool) (a n : ℕ)
    → find test (range_with_len a n) ≡ cond (ltb (first (λ k. test (a + k)) n) n) (Some (a + first (λ k. test (a + k)) n)) None
unfolding first
find-first test a zero = refl
find-first test a (suc n) =
    cases (test a)
    (λ t. rw (add-zero, t, add-zero, lt-ltb 0 (suc n) (omega arith)) refl)
    (λ t. rw (add-zero, t) (find-first test (a + 1) n ∙ rw (first_equal (λ k. test (a + 1 + k)) (λ k. test (a + suc k)) n (λ k l. ap test (omega arith))) (on (first (λ k. test (a + suc k)) n))))
  where
    on : (k : ℕ) → cond (ltb k n) (Some (a + 1 + k)) None ≡ cond (ltb (suc k) (suc n)) (Some (a + suc k)) None
    on k =
        cases (ltb k n)
        (λ t. rw (t, lt-ltb (suc k) (suc n) (omega (arith, ltb-true k n t))) (ap Some (omega arith)))
        (λ t. rw (t, le-ltb (suc k) (suc n) (omega (arith, ltb-false k n t))) refl)

pub found-below : (test : ℕ → Bool) (n : ℕ) → found test n ≡ below (first test n) n
found-below test n = find-first test 0 n ∙ rw (first_equal (λ k. test (0 + k)) test n (λ k l. ap test (zero-add k)), zero-add) refl

-- the row of the first such number, where a search has given it: it refuses with the place made from that number, and where there is none it is past
module _ (number : ℕ) (place : ℕ → ℕ) (test : ℕ → Bool) (n : ℕ) {o : Option ℕ} (searched : o ≡ below (first test n) n)
    {rows rest : List Row} {x : ℕ} (at : Reached rows x (first_placed number place test n ∷ rest)) where
  pub searched-refused : (k : ℕ) → o ≡ Some k → {a : Answer} → a ≡ refused number (place k) → a ≡ answer rows x
  searched-refused k e {a} r =
      let s = cond_some (ltb (first test n) n) (first test n) k (sym searched ∙ e) in
      reached_refused at s.0 (r ∙ ap (λ j. refused number (place j)) (sym s.1))

  pub searched_next : o ≡ None → Reached rows x rest
  searched_next e = reached_next at (cases (ltb (first test n) n) (λ t. absurd (none-some (first test n) (sym e ∙ searched ∙ rw t refl))) (λ t. t))

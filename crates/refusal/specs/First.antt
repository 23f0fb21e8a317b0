-- The first of the numbers below a bound at which a test holds, and the row whose place that is.
use Rattle.std.specs.Prelude.{◌≡◌, Bool, true, false, cond, ℕ, zero, suc, ◌<◌, ltb, Option, find}
use Rattle.std.specs.List.{range_with_len}
use Rattle.refusal.specs.Table.{Row}

-- the first number below n at which the test holds, and n where there is none
unfoldable pub first : (ℕ → Bool) → ℕ → ℕ
first test zero = 0
first test (suc n) = cond (test 0) 0 (suc (first (λ k. test (suc k)) n))

-- that number where there is one: the numbers from 0 on are searched
abbrev pub found : (ℕ → Bool) → ℕ → Option ℕ
found test n = find test (range_with_len 0 n)

-- the row with this number that applies where the test holds at some number below n; its place is made from the first such
abbrev pub first_placed : ℕ → (place : ℕ → ℕ) → (ℕ → Bool) → ℕ → Row
first_placed number place test n = record { number = number; applies = ltb (first test n) n; place = place (first test n) }

-- the row whose place is that number itself
abbrev pub first_such : ℕ → (ℕ → Bool) → ℕ → Row
first_such number = first_placed number (λ k. k)

-- k is the first number below n at which the test holds
pub record FirstAt (test : ℕ → Bool) (n k : ℕ) : Type 0 where
  pub below : k < n
  pub holds : test k ≡ true
  pub not_before : (j : ℕ) → j < k → test j ≡ false

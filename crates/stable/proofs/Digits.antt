-- The lowest bit of a number and what is left of it, each by the two cases of the bit. Assumes nothing.
use mathlib.Core.Path.{◌≡◌, sym}
use mathlib.Core.Bool.{Bool, true, false, cond}
use Prim.Native.Nat.{ℕ, ◌+◌, ◌*◌, ◌/◌, ◌%◌, ◌≤◌}
use native.Mathlib.Omega.{arith}
use borrow.Author.Tests.{eq-eqb, ne_eqb, eqb-true, eqb-false}
use Rattle.refusal.proofs.Table.{cases}
use Rattle.stable.specs.Subset.{odd}

pub digit_lt : (b : Bool) → cond b 1 0 ≤ 1
digit_lt true = omega arith
digit_lt false = omega arith

pub odd_digit : (b : Bool) (r : ℕ) → odd (cond b 1 0 + 2 * r) ≡ b
odd_digit true r = eq-eqb ((1 + 2 * r) % 2) 1 (omega arith)
odd_digit false r = ne_eqb ((0 + 2 * r) % 2) 1 (omega arith)

pub half_digit : (b : Bool) (r : ℕ) → (cond b 1 0 + 2 * r) / 2 ≡ r
half_digit true r = omega arith
half_digit false r = omega arith

pub digit_odd : (c : ℕ) → cond (odd c) 1 0 ≡ c % 2
digit_odd c = cases (odd c) (λ t. rw t (sym (eqb-true (c % 2) 1 t))) (λ t. let other = eqb-false (c % 2) 1 t in rw t (omega (arith, other)))

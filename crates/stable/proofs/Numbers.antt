-- A set of atoms below n is a number below 2 to the n, by induction on n: atom 0 is the lowest bit. So the list of all sets is the sets of 0, 1, .. in turn. Assumes nothing.
use mathlib.Core.Path.{◌≡◌, refl, sym, ap, ◌∙◌}
use mathlib.Core.Bool.{true, false}
use mathlib.Core.List.{List, [], ◌∷◌, ◌++◌, append_assoc}
use Prim.Native.Nat.{ℕ, zero, suc, ◌*◌, ◌/◌, ◌%◌, ◌^◌, ◌<◌}
use native.Mathlib.Nat.{pow-succ'}
use native.Mathlib.Omega.{arith}
use lib.ListN.{length}
use borrow.Author.Tests.{eq-eqb, ne_eqb}
use Rattle.wire.specs.Sequence.{up_to}
use Rattle.logic.specs.Atoms.{Atoms, with_and_without, all_sets}
use Rattle.stable.specs.Subset.{odd}
use Rattle.stable.specs.Number.{number_of, set_of_number}
use Rattle.stable.proofs.Digits.{digit_lt, digit_odd}

pub length-set_of_number : (n c : ℕ) → length (set_of_number n c) ≡ n
unfolding set_of_number
length-set_of_number zero c = refl
length-set_of_number (suc n) c = ap suc (length-set_of_number n (c / 2))

pub number_of_lt : (T : Atoms) → number_of T < 2 ^ length T
unfolding number_of
number_of_lt [] = omega arith
number_of_lt (b ∷ T) = omega (arith, digit_lt b, number_of_lt T, pow-succ' 2 (length T))

pub number_of-set_of_number : (n c : ℕ) → c < 2 ^ n → number_of (set_of_number n c) ≡ c
unfolding number_of set_of_number
number_of-set_of_number zero c h = omega arith
number_of-set_of_number (suc n) c h = omega (arith, digit_odd c, number_of-set_of_number n (c / 2) (omega (arith, pow-succ' 2 n)))

-- The list of all sets.

with_snoc : (Ts : List Atoms) (T : Atoms) → with_and_without (Ts ++ (T ∷ [])) ≡ with_and_without Ts ++ ((false ∷ T) ∷ (true ∷ T) ∷ [])
with_snoc [] T = refl
with_snoc (S ∷ Ts) T = ap (λ l. (false ∷ S) ∷ (true ∷ S) ∷ l) (with_snoc Ts T)

with_up_to : (f : ℕ → Atoms) (n : ℕ) → with_and_without (up_to f n) ≡ up_to (λ c. odd c ∷ f (c / 2)) (2 * n)
unfolding up_to
with_up_to f zero = refl
with_up_to f (suc n) =
    let twice : 2 * suc n ≡ suc (suc (2 * n)) = omega arith in
    let even : odd (2 * n) ≡ false = ne_eqb (2 * n % 2) 1 (omega arith) in
    let next : odd (suc (2 * n)) ≡ true = eq-eqb (suc (2 * n) % 2) 1 (omega arith) in
    let half : 2 * n / 2 ≡ n = omega arith in
    let half-next : suc (2 * n) / 2 ≡ n = omega arith in
    rw (twice, even, next, half, half-next, ← with_up_to f n) (with_snoc (up_to f n) (f n) ∙ sym (append_assoc (with_and_without (up_to f n)) ((false ∷ f n) ∷ []) ((true ∷ f n) ∷ [])))

pub all_sets-up_to : (n : ℕ) → all_sets n ≡ up_to (set_of_number n) (2 ^ n)
unfolding set_of_number up_to
all_sets-up_to zero = refl
all_sets-up_to (suc n) = rw (all_sets-up_to n, pow-succ' 2 n) (with_up_to (set_of_number n) (2 ^ n))

-- From the reading of one subset to that of the next: the bit of each atom stands at the atom's place. By induction on the set. Assumes nothing.
use mathlib.Core.Path.{◌≡◌, refl, sym, ap, ap₂, ◌∙◌}
use mathlib.Core.Bool.{Bool, true, false, cond}
use mathlib.Core.List.{List, [], ◌∷◌, ◌++◌}
use Prim.Native.Nat.{ℕ, zero, suc, ◌+◌, ◌*◌, ◌/◌, ◌%◌, ◌^◌, ◌≤◌, ◌<◌}
use native.Mathlib.Nat.{pow-suc, pow-succ', mul-one, one-mul, mul_assoc, add-mul}
use native.Mathlib.Numerals.{add-one}
use native.Mathlib.Omega.{arith}
use lib.ListN.{length, get_or, set}
use lib.Seq.{get_or_at, set_at}
use borrow.Author.Tests.{lt-ltb}
use Rattle.wire.specs.Wire.{all_below}
use Rattle.wire.specs.Sequence.{up_to}
use Rattle.logic.specs.Value.{number}
use Rattle.logic.specs.Atoms.{Atoms, mark}
use Rattle.logic.proofs.Bools.{&&_join}
use Rattle.stable.specs.Subset.{odd, subset, lowered, places_from, places_of}
use Rattle.stable.proofs.Digits.{digit_odd}
use Rattle.stable.proofs.Subsets.{size}

-- The places of {0, 2} among three atoms, and the readings of its subsets in turn.
pub in_turn : let T = true ∷ false ∷ true ∷ [] in
    (places_of T ≡ 0 ∷ 2 ∷ []) × (up_to (lowered T) 4 ≡ (1 ∷ 0 ∷ 1 ∷ []) ∷ (2 ∷ 0 ∷ 1 ∷ []) ∷ (1 ∷ 0 ∷ 2 ∷ []) ∷ (2 ∷ 0 ∷ 2 ∷ []) ∷ [])
unfolding places_from lowered subset up_to
in_turn = (refl, refl)

-- The byte of an atom of the set, and the number that is left for the atoms behind it.
lowered-atom : (T : Atoms) (m : ℕ) → lowered (true ∷ T) m ≡ (1 + m % 2) ∷ lowered T (m / 2)
unfolding lowered subset
lowered-atom T m = ap (λ d. d ∷ lowered T (m / 2)) (marked (odd m) ∙ ap (λ d. 1 + d) (digit_odd m))
  where
    marked : (b : Bool) → number (mark b true) ≡ 1 + cond b 1 0
    marked true = refl
    marked false = refl

pub length-places_from : (i : ℕ) (T : Atoms) → length (places_from i T) ≡ size T
unfolding places_from size
length-places_from i [] = refl
length-places_from i (true ∷ T) = ap suc (length-places_from (i + 1) T)
length-places_from i (false ∷ T) = length-places_from (i + 1) T

pub places_from-below : (i n : ℕ) (T : Atoms) → i + length T ≤ n → all_below n (places_from i T) ≡ true
unfolding places_from
places_from-below i n [] h = refl
places_from-below i n (true ∷ T) h = &&_join (lt-ltb i n (omega arith)) (places_from-below (i + 1) n T (omega arith))
places_from-below i n (false ∷ T) h = places_from-below (i + 1) n T (omega arith)

-- With as many bits as there are atoms the subsets begin anew.
pub lowered_anew : (T : Atoms) (m : ℕ) → lowered T (2 ^ size T + m) ≡ lowered T m
unfolding lowered subset size
lowered_anew [] m = refl
lowered_anew (true ∷ T) m =
    let bit : (2 ^ suc (size T) + m) % 2 ≡ m % 2 = omega (arith, pow-succ' 2 (size T)) in
    let rest : (2 ^ suc (size T) + m) / 2 ≡ 2 ^ size T + m / 2 = omega (arith, pow-succ' 2 (size T)) in
    lowered-atom T (2 ^ suc (size T) + m) ∙ ap₂ (λ b l. (1 + b) ∷ l) bit (ap (lowered T) rest ∙ lowered_anew T (m / 2)) ∙ sym (lowered-atom T m)
lowered_anew (false ∷ T) m = ap (λ l. 0 ∷ l) (lowered_anew T m)

-- Where the bits below j are 0, the reading falls in three at the place of the j-th atom: a front that hangs on no other bit, the byte of bit j, and what the bits above say of the atoms behind.
cut : (T : Atoms) (i j : ℕ) → j < size T
    → (front : List ℕ) × (S : Atoms) × (get_or (places_from i T) j 0 ≡ i + length front) × ((r : ℕ) → lowered T (r * 2 ^ j) ≡ front ++ (1 + r % 2) ∷ lowered S (r / 2))
unfolding places_from size lowered subset
cut [] i j h = absurd (omega arith)
cut (false ∷ T) i j h = let c = cut T (i + 1) j h in (0 ∷ c.0, c.1, omega (arith, c.2), λ r. ap (λ l. 0 ∷ l) (c.3 r))
cut (true ∷ T) i zero h = ([], T, omega arith, λ r. ap (lowered (true ∷ T)) (mul-one r) ∙ lowered-atom T r)
cut (true ∷ T) i (suc j) h =
    let c = cut T (i + 1) j (omega arith) in (
      1 ∷ c.0,
      c.1,
      omega (arith, c.2),
      λ r.
          let x : ℕ = r * 2 ^ j in
          let twice : r * 2 ^ suc j ≡ x * 2 = ap (λ n. r * n) (pow-suc 2 j) ∙ sym (mul_assoc r (2 ^ j) 2) in
          let bit : x * 2 % 2 ≡ 0 = omega arith in
          let rest : x * 2 / 2 ≡ x = omega arith in
          ap (lowered (true ∷ T)) twice ∙ lowered-atom T (x * 2) ∙ ap₂ (λ b l. (1 + b) ∷ l) bit (ap (lowered T) rest ∙ c.3 r),
    )

-- The byte at that place says bit j, and written anew it gives the number with another bit j.
module _ (T : Atoms) (j r : ℕ) (l : j < size T) where
  at_place : get_or (lowered T (r * 2 ^ j)) (get_or (places_of T) j 0) 0 ≡ 1 + r % 2
  at_place = let c = cut T 0 j l in rw (c.3 r) (get_or_at c.0 (1 + r % 2) (lowered c.1 (r / 2)) 0 (get_or (places_of T) j 0) (omega (arith, c.2)))

  set-place : (d : ℕ) → d ≤ 1 → set (lowered T (r * 2 ^ j)) (get_or (places_of T) j 0) (1 + d) ≡ lowered T ((r / 2 * 2 + d) * 2 ^ j)
  set-place d h =
      let c = cut T 0 j l in
      let bit : (r / 2 * 2 + d) % 2 ≡ d = omega arith in
      let rest : (r / 2 * 2 + d) / 2 ≡ r / 2 = omega arith in
      rw (c.3 r, c.3 (r / 2 * 2 + d), bit, rest) (set_at c.0 (1 + r % 2) (lowered c.1 (r / 2)) (1 + d) (get_or (places_of T) j 0) (omega (arith, c.2)))

-- Before place j in a step from m: the bits of m below j are 1, r is what stands above them, and the reading has them at 0.
abbrev pub Carried : Atoms → (m j : ℕ) → List ℕ → Type 0
Carried T m j bytes = (r : ℕ) × (m + 1 ≡ (r + 1) * 2 ^ j) × (bytes ≡ lowered T (r * 2 ^ j))

module _ (T : Atoms) (m : ℕ) {bytes : List ℕ} where
  pub carried_none : bytes ≡ lowered T m → Carried T m 0 bytes
  carried_none e = (m, sym (mul-one (m + 1)), e ∙ ap (lowered T) (sym (mul-one m)))

  -- A byte 1 becomes 2, and the step is done.
  pub carried_done : (j : ℕ) → j < size T → Carried T m j bytes → get_or bytes (get_or (places_of T) j 0) 0 ≡ 1 → set bytes (get_or (places_of T) j 0) 2 ≡ lowered T (m + 1)
  carried_done j l (r, e, b) one =
      let even : r / 2 * 2 + 1 ≡ r + 1 = omega (arith, at_place T j r l, rw b at one) in
      rw b (set-place T j r l 1 (omega arith)) ∙ ap (λ n. lowered T (n * 2 ^ j)) even ∙ ap (lowered T) (sym e)

  -- A byte 2 becomes 1, and the carry goes on.
  pub carried_more : (j : ℕ) → j < size T → Carried T m j bytes → (get_or bytes (get_or (places_of T) j 0) 0 ≡ 1 → ⊥) → Carried T m (j + 1) (set bytes (get_or (places_of T) j 0) 1)
  carried_more j l (r, e, b) other =
      let above : r + 1 ≡ (r / 2 + 1) * 2 = omega (arith, at_place T j r l, rw b at other) in
      let below : r / 2 * 2 + 0 ≡ r / 2 * 2 = omega arith in
      let twice : (n : ℕ) → n * 2 * 2 ^ j ≡ n * 2 ^ (j + 1) = λ n. mul_assoc n 2 (2 ^ j) ∙ ap (λ k. n * k) (sym (pow-succ' 2 j) ∙ ap (λ k. 2 ^ k) (sym (add-one j))) in (
        r / 2,
        e ∙ ap (λ n. n * 2 ^ j) above ∙ twice (r / 2 + 1),
        rw b (set-place T j r l 0 (omega arith)) ∙ ap (λ n. lowered T (n * 2 ^ j)) below ∙ ap (lowered T) (twice (r / 2)),
      )

  -- Where no place is left, the reading is that of the empty subset, and so is the next after the full one.
  pub carried_all : Carried T m (size T) bytes → bytes ≡ lowered T (m + 1)
  carried_all (r, e, b) =
      let next : (r + 1) * 2 ^ size T ≡ 2 ^ size T + r * 2 ^ size T = omega (arith, add-mul r 1 (2 ^ size T), one-mul (2 ^ size T)) in
      b ∙ sym (lowered_anew T (r * 2 ^ size T)) ∙ ap (lowered T) (sym (e ∙ next))

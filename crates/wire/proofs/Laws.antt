-- Laws of numbers in bytes, by linear arithmetic, of numbers below a bound, by induction, and of `over`, by cutting a list where the written part ends. Assumes nothing.
use mathlib.Core.Path.{◌≡◌, refl, sym, ap, ap₂, ◌∙◌}
use mathlib.Core.Bool.{true, and-eq-true_iff}
use mathlib.Core.List.{List, [], ◌∷◌, ◌++◌, append_assoc, append-nil}
use Prim.Native.Nat.{ℕ, zero, suc, ◌+◌, ◌-◌, ◌*◌, ◌/◌, ◌%◌, ◌≤◌, ◌<◌}
use native.Mathlib.Numerals.{add-one}
use native.Mathlib.Omega.{arith}
use lib.Dec.{ltb}
use lib.ListN.{length, get_or, take, drop, set, length-append, length-drop, length-take, take-append-drop}
use lib.Seq.{take_all, take-length, length-take-le, drop-length, take-append_seam, drop-append_seam, drop-drop, drop-cons, set_at, append_snoc, get_or-append-add}
use borrow.Author.Tests.{lt-ltb, ltb-true}
use borrow.Rule.Slice.PartMut.{put_mid}
use Rattle.wire.specs.Wire.{u16_at, u32_at, u16_bytes, u32_bytes, Bytes, all_below, over}

-- ---- numbers

-- a number of two bytes is below 65,536
u16_at_lt : (s : List ℕ) → Bytes s → (i : ℕ) → u16_at s i < 65536
u16_at_lt s h i = omega (arith, h i, h (i + 1))

-- a number behind a prefix is a number of what follows it
pub u16_at-append : (before s : List ℕ) (i j : ℕ) → j ≡ length before + i → u16_at (before ++ s) j ≡ u16_at s i
u16_at-append before s i j e =
    let next : length before + i + 1 ≡ length before + (i + 1) = omega arith in
    rw (e, next, get_or-append-add before s i 0, get_or-append-add before s (i + 1) 0)

-- reading what was written gives the number back
pub u16_at-u16_bytes : (n : ℕ) → n < 65536 → u16_at (u16_bytes n) 0 ≡ n
u16_at-u16_bytes n h = omega arith

pub u32_at-u32_bytes : (n : ℕ) → n < 4294967296 → u32_at (u32_bytes n) 0 ≡ n
u32_at-u32_bytes n h = let low : u16_at (u16_bytes n) 0 ≡ n % 65536 = omega arith in omega arith

-- writing what was read gives the bytes back
pub u16_bytes-u16_at : (s : List ℕ) → Bytes s → (i : ℕ) → u16_bytes (u16_at s i) ≡ get_or s i 0 ∷ get_or s (i + 1) 0 ∷ []
u16_bytes-u16_at s h i = ap₂ (λ (a b : ℕ). a ∷ b ∷ []) (omega (arith, h i)) (omega (arith, h i, h (i + 1)))

pub u32_bytes-u32_at : (s : List ℕ) → Bytes s → (i : ℕ) → u32_bytes (u32_at s i) ≡ get_or s i 0 ∷ get_or s (i + 1) 0 ∷ get_or s (i + 2) 0 ∷ get_or s (i + 3) 0 ∷ []
u32_bytes-u32_at s h i =
    let x : ℕ = u16_at s i in
    let y : ℕ = u16_at s (i + 2) in
    let last : i + 2 + 1 ≡ i + 3 = omega arith in
    let low : u16_bytes (x + y * 65536) ≡ u16_bytes x = ap₂ (λ (a b : ℕ). a ∷ b ∷ []) (omega arith) (omega arith) in
    let high : (x + y * 65536) / 65536 ≡ y = omega (arith, u16_at_lt s h i) in
    ap₂ (λ (a b : List ℕ). a ++ b) (low ∙ u16_bytes-u16_at s h i) (rw (high, ← last) (u16_bytes-u16_at s h (i + 2)))

-- ---- numbers below a bound

-- every number of a list is below n exactly if the one at each index is
pub all_below_at : (n : ℕ) (ks : List ℕ) → all_below n ks ≡ true → (i : ℕ) → i < length ks → get_or ks i 0 < n
all_below_at n [] h i l = absurd (omega arith)
all_below_at n (k ∷ ks) h zero l = ltb-true k n ((and-eq-true_iff (ltb k n) (all_below n ks)).0 h).0
all_below_at n (k ∷ ks) h (suc i) l = all_below_at n ks ((and-eq-true_iff (ltb k n) (all_below n ks)).0 h).1 i (omega arith)

pub all_below-each : (n : ℕ) (ks : List ℕ) → ((i : ℕ) → i < length ks → get_or ks i 0 < n) → all_below n ks ≡ true
all_below-each n [] h = refl
all_below-each n (k ∷ ks) h = rw (lt-ltb k n (h 0 (omega arith))) (all_below-each n ks (λ i l. h (suc i) (omega arith)))

-- ---- parts of a slice

-- the part from an index to the end, as a slice of it is
pub part_from : (n : ℕ) (s : List ℕ) → take (length s - n) (drop n s) ≡ drop n s
part_from n s = take_all (length s - n) (drop n s) (rw length-drop (omega arith))

-- ---- bytes written over the start of others

-- the length stays
pub length_over : (new old : List ℕ) → length new ≤ length old → length (over new old) ≡ length old
length_over new old h = simp (length-append, length-drop) (omega arith)

-- the written part is what was written
pub take-over : (new old : List ℕ) → take (length new) (over new old) ≡ new
take-over new old = take-append_seam new (drop (length new) old)

-- the part past it is unchanged
pub drop-over : (new old : List ℕ) → drop (length new) (over new old) ≡ drop (length new) old
drop-over new old = drop-append_seam new (drop (length new) old)

-- one byte more, stored behind those written
pub over_store : (new old : List ℕ) (k byte : ℕ) → length new ≡ k → k < length old → set (over new old) k byte ≡ over (new ++ (byte ∷ [])) old
over_store new old k byte e h =
    rw (length-append, e, add-one, drop-cons old k 0 h, set_at new _ _ byte k e) (sym (append_snoc new byte (drop (suc k) old)))

-- Where a writer stands: `out` is `done` written over `old`, and `at` is where the unwritten rest begins.
pub record Written (done old out : List ℕ) (at : ℕ) : Type 0 where
  pub bytes : out ≡ over done old
  pub end : at ≡ length done
  pub long : length out ≡ length old

pub written_none : (old : List ℕ) → Written [] old old 0
written_none old = record { bytes = refl; end = refl; long = refl }

-- One that left the first n bytes for later.
pub written_past : (n : ℕ) (old : List ℕ) → n ≤ length old → Written (take n old) old old n
written_past n old h =
    let e : length (take n old) ≡ n = length-take-le n old h in
    record { bytes = rw e (sym (take-append-drop n old)); end = sym e; long = refl }

-- What the rest is as it is lent, and what the whole is when the rest comes back.
module _ (done rest : List ℕ) where
  left : length (done ++ rest) - length done ≡ length rest
  left = omega (arith, length-append done rest)

  lent : take (length (done ++ rest) - length done) (drop (length done) (done ++ rest)) ≡ rest
  lent = simp (left, drop-append_seam, take-length)

  given_back : (back : List ℕ) → put_mid (length done) (length (done ++ rest) - length done) (done ++ rest) back ≡ done ++ back
  given_back back = simp (left, drop-append_seam, take-append_seam, drop-length, append-nil)

module _ {done old out : List ℕ} {at : ℕ} (w : Written done old out at) where
  -- the rest that is lent has room for what fits
  pub turn_room : {n : ℕ} → length done + n ≤ length old → n ≤ length (take (length out - at) (drop at out))
  turn_room fits = simp (length-take, length-drop) (omega arith)

  -- one writer's turn: `more` is written over the rest that it is lent
  pub turn : (more : List ℕ) → length done + length more ≤ length old → {n : ℕ} {back : List ℕ} → n ≡ length more → back ≡ over more (take (length out - at) (drop at out))
      → Written (done ++ more) old (put_mid at (length out - at) out back) (at + n)
  turn more fits {back = back} e b =
      let rest : List ℕ = drop (length done) old in
      let b' : back ≡ over more rest = rw (w.bytes, w.end, lent done rest) at b in
      let whole : put_mid at (length out - at) out back ≡ over (done ++ more) old
      = rw (w.bytes, w.end, given_back done rest back, b') (simp (drop-drop, length-append, append_assoc)) in
      record {
        bytes = whole;
        end = rw length-append (omega arith);
        long = ap length whole ∙ length_over (done ++ more) old (rw length-append fits);
      }

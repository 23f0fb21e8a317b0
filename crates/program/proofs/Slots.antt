-- The slots of a rule, one by one: the test of them all is that of each, and a slot that was written is read as it was. By induction on their number. Assumes nothing.
use Rattle.std.specs.List.{list_all, range_with_len}
use Rattle.std.proofs.lemmas.List.Folds.{list_all-append}
use Rattle.std.proofs.lemmas.List.FromFn.{map-range_with_len_more}
use mathlib.Core.Path.{◌≡◌, refl, sym, ap, ◌∙◌}
use mathlib.Core.Logic.{⊎_elim}
use mathlib.Core.Bool.{true, and-true}
use mathlib.Core.List.{List, [], ◌∷◌, ◌++◌, map, append_assoc}
use Prim.Native.Nat.{ℕ, zero, suc, ◌+◌, ◌*◌, ◌≤◌, ◌<◌}
use native.Mathlib.Nat.{add-zero, zero-add, eq-or-lt_of_le}
use native.Mathlib.Numerals.{add-one}
use native.Mathlib.Omega.{arith}
use lib.Dec.{ltb}
use borrow.Author.Tests.{lt-ltb}
use lib.ListN.{get_or, length, take, drop, length-drop}
use lib.Seq.{take-add, take-suc, drop-drop, get_or-drop}
use Rattle.wire.specs.Wire.{u16_at, u16_bytes, Bytes}
use Rattle.wire.specs.Sequence.{up_to}
use Rattle.wire.proofs.Laws.{u16_at-append, u16_at-u16_bytes, u16_bytes-u16_at}
use Rattle.logic.proofs.Bools.{&&_split}
use Rattle.program.specs.Image.{slot_at, slots_from, slot_keeps, slots_keep, slot_bytes}
use Rattle.program.proofs.Lengths.{length-slot_bytes}

-- ---- the test

module _ (B used : ℕ) (slot : ℕ → ℕ) where
  pub slots_keep_at : (n : ℕ) → slots_keep B used slot n ≡ true → (i : ℕ) → i < n → slot_keeps B used i (slot i) ≡ true
  unfolding slots_keep
  slots_keep_at zero h i l = absurd (omega arith)
  slots_keep_at (suc n) h i l =
      let both = &&_split (slots_keep B used slot n) (slot_keeps B used n (slot n)) h in
      ⊎_elim
      (λ (e : suc i ≡ suc n). let m : i ≡ n = omega arith in rw m both.1)
      (λ (m : suc i < suc n). slots_keep_at n both.0 i (omega arith))
      (eq-or-lt_of_le l)

  pub slots_keep-each : (n : ℕ) → ((i : ℕ) → i < n → slot_keeps B used i (slot i) ≡ true) → slots_keep B used slot n ≡ true
  unfolding slots_keep
  slots_keep-each zero h = refl
  slots_keep-each (suc n) h = rw (slots_keep-each n (λ i l. h i (omega arith)), h n (omega arith))

  -- Of slots that are all used, each holds an atom below B.
  pub slots_keep_list : (n : ℕ) → n ≤ used → list_all (λ a. ltb a B) (map slot (range_with_len 0 n)) ≡ slots_keep B used slot n
  unfolding slots_keep
  slots_keep_list zero l = refl
  slots_keep_list (suc n) l =
      ap (list_all (λ a. ltb a B)) (rw add-one at (map-range_with_len_more slot 0 n n (zero-add n)))
      ∙ list_all-append (λ a. ltb a B) (map slot (range_with_len 0 n)) (slot n ∷ [])
      ∙ rw (slots_keep_list n (omega arith), lt-ltb n used l, and-true (ltb (slot n) B))

-- The slots from one on, one by one.
pub slots-list : (s : List ℕ) (start n : ℕ) → map (slot_at s) (range_with_len start n) ≡ slots_from s start n
unfolding up_to
slots-list s start zero = refl
slots-list s start (suc n) =
    rw (add-one n) at (map-range_with_len_more (slot_at s) start n (start + n) refl) ∙ ap (λ l. l ++ (slot_at s (start + n) ∷ [])) (slots-list s start n)

-- ---- the bytes

-- What was written to slot i is read from it.
pub slot_bytes_at : (l : List ℕ) (n i : ℕ) → i < n → get_or l i 0 < 65536 → (rest : List ℕ) → u16_at (slot_bytes l n ++ rest) (i * 2) ≡ get_or l i 0
unfolding slot_bytes
slot_bytes_at l zero i h small rest = absurd (omega arith)
slot_bytes_at l (suc n) i h small rest = rw (append_assoc (slot_bytes l n) (u16_bytes (get_or l n 0)) rest) (⊎_elim
    (λ (e : suc i ≡ suc n). let m : i ≡ n = omega arith in
    rw m (u16_at-append (slot_bytes l n) (u16_bytes (get_or l n 0) ++ rest) 0 (n * 2) (omega (arith, length-slot_bytes l n)) ∙ u16_at-u16_bytes (get_or l n 0) (rw m at small)))
    (λ (m : suc i < suc n). slot_bytes_at l n i (omega arith) small (u16_bytes (get_or l n 0) ++ rest))
    (eq-or-lt_of_le h))

-- The first n of a list, one by one.
pub take_get_d : (n : ℕ) (s : List ℕ) → n ≤ length s → up_to (λ i. get_or s i 0) n ≡ take n s
unfolding up_to
take_get_d zero s h = refl
take_get_d (suc n) s h = rw (take-suc s n 0 h, take_get_d n s (omega arith))

-- Slots that hold what a rule's bytes have are written to those bytes.
pub slot_bytes_read : (s : List ℕ) → Bytes s → (l : List ℕ) (n : ℕ) → 4 + n * 2 ≤ length s → ((i : ℕ) → i < n → get_or l i 0 ≡ slot_at s i)
    → slot_bytes l n ≡ take (n * 2) (drop 4 s)
unfolding slot_bytes up_to
slot_bytes_read s bytes l zero long same = refl
slot_bytes_read s bytes l (suc n) long same =
    let at : ℕ = 4 + n * 2 in
    let next : suc n * 2 ≡ n * 2 + 2 = omega arith in
    let two : take 2 (drop (n * 2) (drop 4 s)) ≡ u16_bytes (slot_at s n)
    = rw (drop-drop, ← take_get_d 2 (drop at s) (omega (arith, length-drop at s)), get_or-drop at s 0 0, get_or-drop at s 1 0, add-zero at) (sym (u16_bytes-u16_at s bytes at)) in
    rw (next, take-add (n * 2) 2 (drop 4 s), slot_bytes_read s bytes l n (omega arith) (λ i h. same i (omega arith)), two, same n (omega arith))

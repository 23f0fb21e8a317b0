-- Writing what was read gives the same bytes: each number is written to the bytes it was read from, and an unused slot is 0 in both. Assumes nothing.
use mathlib.Core.Path.{◌≡◌, refl, sym, ap, ap₂, ◌∙◌}
use mathlib.Core.Bool.{Bool, true, cond}
use mathlib.Core.List.{List, [], ◌∷◌, ◌++◌, append_assoc, append-nil}
use Prim.Native.Nat.{ℕ, zero, suc, ◌+◌, ◌*◌, ◌≤◌, ◌<◌}
use native.Mathlib.Nat.{zero-add}
use native.Mathlib.Omega.{arith}
use lib.Dec.{eqb, ltb}
use lib.ListN.{length, get_or, take, drop, length-drop, take-append-drop, get_or-eq_default}
use lib.Seq.{take-add, get_or-drop}
use borrow.Author.Tests.{ltb-true, ltb-false}
use Rattle.refusal.specs.Table.{none}
use Rattle.refusal.proofs.Table.{cases}
use Rattle.wire.specs.Wire.{u16_at, u16_bytes, u32_bytes, Bytes}
use Rattle.wire.specs.Sequence.{up_to}
use Rattle.wire.proofs.Laws.{u16_bytes-u16_at, u32_bytes-u32_at}
use Rattle.wire.proofs.Sequence.{length-up_to, get_d_up_to, up_to_equal, up_to-append}
use Rattle.program.specs.Image.{atom_count, size_of, rule_count, is_packed, header_length, rule_section, slot_count, used_at, slot_at, slots_from, rule_at, length_at, behind, rules_in, program_of, literals, rule_bytes, rules_bytes, header, image_of}
use Rattle.program.specs.Rows.{program_rows}
use Rattle.program.proofs.Lengths.{rules_bytes_more}
use Rattle.program.proofs.Slots.{take_get_d, slot_bytes_read}
use Rattle.program.proofs.Accepted.{Whole, Accepted, none-program_rows, Kept, rule_keeps_true, unused_slot}

-- Equal lists joined to equal lists.
joined : {l m x y : List ℕ} → l ≡ m → x ≡ y → l ++ x ≡ m ++ y
joined e f = rw (e, f)

-- ---- a rule

-- The slots from the first on.
slots-first : (s : List ℕ) (n : ℕ) → slots_from s 0 n ≡ up_to (slot_at s) n
slots-first s n = up_to_equal (λ j. slot_at s (0 + j)) (slot_at s) n (λ j l. ap (slot_at s) (zero-add j))

-- The literals of the rule at the start stand in its slots, one behind the other.
literals-rule_at : (s : List ℕ) → literals (rule_at s) ≡ up_to (slot_at s) (used_at s)
literals-rule_at s =
    let h = get_or s 0 0 in
    let p = get_or s 1 0 in
    let n = get_or s 2 0 in
    rw (slots-first s h, up_to-append (slot_at s) (h + p) n, up_to-append (slot_at s) h p) (sym (append_assoc (up_to (slot_at s) h) (slots_from s h p) (slots_from s (h + p) n)))

module _ (packed : Bool) (B : ℕ) (s : List ℕ) (bytes : Bytes s) (kept : Kept packed B s) where
  -- Each slot is written as it is read, 0 where it is unused.
  slot_same : (i : ℕ) → i < slot_count packed (used_at s) → get_or (up_to (slot_at s) (used_at s)) i 0 ≡ slot_at s i
  slot_same i l = cases (ltb i (used_at s))
      (λ t. get_d_up_to (slot_at s) (used_at s) i 0 (ltb-true _ _ t))
      (λ t. let u = ltb-false _ _ t in
      get_or-eq_default (up_to (slot_at s) (used_at s)) 0 (rw (length-up_to (slot_at s) (used_at s)) u) ∙ sym (unused_slot B (used_at s) i (slot_at s i) (kept.slots i l) u))

  -- The rule at the start is written to the bytes that it has.
  rule_bytes-rule_at : rule_bytes packed (rule_at s) ≡ take (length_at packed s) s
  unfolding rule_bytes up_to
  rule_bytes-rule_at =
      let h = get_or s 0 0 in
      let p = get_or s 1 0 in
      let n = get_or s 2 0 in
      let count = slot_count packed (used_at s) in
      let slots = slot_bytes_read s bytes (up_to (slot_at s) (used_at s)) count kept.whole slot_same in
      let four = take_get_d 4 s (omega (arith, kept.whole)) in
      rw (length-up_to (λ j. slot_at s (0 + j)) h, length-up_to (λ j. slot_at s (h + j)) p, length-up_to (λ j. slot_at s (h + p + j)) n, literals-rule_at s)
      (ap₂ (λ (z : ℕ) (l : List ℕ). h ∷ p ∷ n ∷ z ∷ l) (sym kept.zero_byte) slots ∙ ap (λ l. l ++ take (count * 2) (drop 4 s)) four ∙ sym (take-add 4 (count * 2) s))

  -- What was behind it is behind them.
  first-written : rule_bytes packed (rule_at s) ++ drop (length_at packed s) s ≡ s
  first-written = rw rule_bytes-rule_at (take-append-drop (length_at packed s) s)

-- ---- the rules and the image

-- What is left behind rules are bytes.
behind_bytes : (packed : Bool) (s : List ℕ) → Bytes s → (k : ℕ) → Bytes (behind packed s k)
unfolding behind
behind_bytes packed s bytes zero = bytes
behind_bytes packed s bytes (suc k) = λ i. rw (get_or-drop (length_at packed (behind packed s k)) (behind packed s k) i 0) (behind_bytes packed s bytes k (length_at packed (behind packed s k) + i))

-- The first k rules are written to the bytes before what is left behind them.
rules_same : (packed : Bool) (B K : ℕ) (s : List ℕ) → Bytes s → Whole packed B K s → (k : ℕ) → k ≤ K → rules_bytes packed (rules_in packed s k) ++ behind packed s k ≡ s
unfolding up_to rules_bytes behind
rules_same packed B K s bytes w zero l = refl
rules_same packed B K s bytes w (suc k) l =
    let t = behind packed s k in
    let done = rules_in packed s k in
    let kept = rule_keeps_true packed B t (w.keeps k l) in
    rw (rules_bytes_more packed done (rule_at t), append_assoc (rules_bytes packed done) (rule_bytes packed (rule_at t)) (drop (length_at packed t) t), first-written packed B t (behind_bytes packed s bytes k) kept)
    (rules_same packed B K s bytes w k (omega arith))

-- The form of an accepted image is that of its number.
form_is : (n : ℕ) → n ≤ 1 → cond (eqb n 1) 1 0 ≡ n
form_is zero l = refl
form_is (suc zero) l = refl
form_is (suc (suc n)) l = absurd (omega arith)

header_same : (p : List ℕ) → Bytes p → Accepted p → header (is_packed p) (atom_count p) (size_of p) (rule_count p) (length p) ≡ take header_length p
unfolding header up_to
header_same p bytes a =
    joined (u16_bytes-u16_at p bytes 0) (joined (u16_bytes-u16_at p bytes 2) (joined (u16_bytes-u16_at p bytes 4)
    (joined (ap u16_bytes (form_is (u16_at p 6) a.form) ∙ u16_bytes-u16_at p bytes 6) (joined (ap u32_bytes (sym a.offset) ∙ u32_bytes-u32_at p bytes 8)
    (ap u32_bytes a.exact ∙ u32_bytes-u32_at p bytes 12)))))
    ∙ take_get_d header_length p a.long

-- Writing what was read from an accepted image, in its form, gives its bytes.
pub image_of-program_of : (p : List ℕ) → Bytes p → none (program_rows p) ≡ true → image_of (is_packed p) (program_of p) ≡ p
unfolding image_of program_of
image_of-program_of p bytes h =
    let a = none-program_rows p h in
    let s = rule_section p in
    let f = is_packed p in
    let K = rule_count p in
    let none_left : behind f s K ≡ [] = empty (behind f s K) a.rules.ends in
    let rules : rules_bytes f (rules_in f s K) ≡ s
    = sym (append-nil (rules_bytes f (rules_in f s K))) ∙ ap (λ l. rules_bytes f (rules_in f s K) ++ l) (sym none_left)
    ∙ rules_same f (size_of p) K s (λ i. rw (get_or-drop header_length p i 0) (bytes (header_length + i))) a.rules K (omega arith) in
    let long : header_length + length s ≡ length p = omega (arith, length-drop header_length p, a.long) in
    rw (length-up_to (λ k. rule_at (behind f s k)) K, rules, long, header_same p bytes a) (take-append-drop header_length p)
  where
    empty : (l : List ℕ) → length l ≡ 0 → l ≡ []
    empty [] e = refl
    empty (a ∷ l) e = absurd (omega arith)

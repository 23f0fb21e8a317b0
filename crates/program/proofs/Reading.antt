-- Reading what was written gives the same program: each number is read from the bytes it was written to, and each rule from the start of what is left. Assumes nothing.
use mathlib.Core.Path.{◌≡◌, refl, sym, ap, ◌∙◌}
use mathlib.Core.Bool.{Bool, true, false, not, cond}
use mathlib.Core.List.{List, [], ◌∷◌, ◌++◌, append_assoc, append-nil}
use Prim.Native.Nat.{ℕ, zero, suc, ◌+◌, ◌*◌, ◌≤◌, ◌<◌}
use native.Mathlib.Omega.{arith}
use lib.Dec.{eqb, ltb, leb}
use lib.ListN.{length, get_or, take, drop, length-append, get_or-append, get_or-eq_default}
use lib.Seq.{get_or-append-add, take-length, take-append_seam, drop-append_seam, ext_get_or}
use borrow.Author.Tests.{ltb-true, ltb-false, leb-true, lt-ltb, eq-eqb, le-leb, not-true}
use Rattle.refusal.specs.Limits.{most_rules}
use Rattle.refusal.specs.Table.{none}
use Rattle.refusal.proofs.Table.{cases}
use Rattle.wire.specs.Wire.{u16_at, u32_at, all_below}
use Rattle.wire.specs.Sequence.{up_to}
use Rattle.wire.proofs.Laws.{u16_at-append, u16_at-u16_bytes, u32_at-u32_bytes, all_below_at}
use Rattle.wire.proofs.Sequence.{length-up_to, get_d_up_to, up_to_equal}
use Rattle.logic.proofs.Bools.{&&_split}
use Rattle.program.specs.Rule.{Rule}
use Rattle.program.specs.Program.{Program}
use Rattle.program.specs.Image.{atom_count, size_of, rule_count, is_packed, total_of, header_length, rule_section, most_literals, slot_count, slot_at, rule_at, length_at, behind, rules_in, slot_keeps, rule_keeps, program_of, literals, literal_total, slot_bytes, rule_bytes, rules_bytes, header, image_of}
use Rattle.program.specs.Rows.{outside, total_keeps, program_rows}
use Rattle.program.specs.Writable.{rule_writable, rules_writable, writable}
use Rattle.program.proofs.Lengths.{length-counted_bytes, literals_counted, length-rules_bytes, length-image_of}
use Rattle.program.proofs.Slots.{slots_keep-each, slot_bytes_at, take_get_d}
use Rattle.program.proofs.Accepted.{Inside, outside_false, Whole, slots_enough, program_rows-none}

-- ---- what is left behind rules

-- Behind one rule more, counted from the first.
behind-first : (packed : Bool) (s : List ℕ) (k : ℕ) → behind packed s (suc k) ≡ behind packed (drop (length_at packed s) s) k
unfolding behind
behind-first packed s zero = refl
behind-first packed s (suc k) = ap (λ t. drop (length_at packed t) t) (behind-first packed s k)

-- ---- a rule that was written

-- Of literals below B, each slot is below 65,536, and keeps row 26.
slot_small : (B : ℕ) → B ≤ 65536 → (l : List ℕ) → all_below B l ≡ true → (i : ℕ) → get_or l i 0 < 65536
slot_small B small l h i = cases (ltb i (length l))
    (λ t. omega (arith, all_below_at B l h i (ltb-true _ _ t)))
    (λ t. omega (arith, get_or-eq_default l 0 (ltb-false _ _ t)))

slot_keeps_lem : (B : ℕ) (l : List ℕ) → all_below B l ≡ true → (i : ℕ) → slot_keeps B (length l) i (get_or l i 0) ≡ true
slot_keeps_lem B l h i = cases (ltb i (length l))
    (λ t. rw (t, lt-ltb _ _ (all_below_at B l h i (ltb-true _ _ t))))
    (λ t. rw (t, eq-eqb _ _ (get_or-eq_default l 0 (ltb-false _ _ t))))

-- A part of a list, item by item.
part_read : (f : ℕ → ℕ) (before l after : List ℕ) (start : ℕ) → start ≡ length before
    → ((i : ℕ) → i < length (before ++ (l ++ after)) → f i ≡ get_or (before ++ (l ++ after)) i 0) → up_to (λ j. f (start + j)) (length l) ≡ l
part_read f before l after start e same =
    up_to_equal (λ j. f (start + j)) (λ j. get_or l j 0) (length l) (λ j h.
    rw e (same (length before + j) (rw (length-append before (l ++ after), length-append l after) (omega arith))
    ∙ get_or-append-add before (l ++ after) j 0 ∙ get_or-append l after 0 j h))
    ∙ take_get_d (length l) l (omega arith) ∙ take-length l

module _ (packed : Bool) (B : ℕ) (small : B ≤ 65536) where
  module _ (r : Rule) (w : rule_writable packed B r ≡ true) (rest : List ℕ) where
    abbrev written : List ℕ
    written = rule_bytes packed r ++ rest

    few : length (literals r) ≤ most_literals packed
    few = leb-true _ _ (&&_split (leb (length (literals r)) (most_literals packed)) (all_below B (literals r)) w).0

    below : all_below B (literals r) ≡ true
    below = (&&_split (leb (length (literals r)) (most_literals packed)) (all_below B (literals r)) w).1

    abbrev count : ℕ
    count = slot_count packed (length r.heads + length r.positives + length r.negatives)

    slot_read : (i : ℕ) → i < count → slot_at written i ≡ get_or (literals r) i 0
    unfolding rule_bytes
    slot_read i l =
        let four = length r.heads ∷ length r.positives ∷ length r.negatives ∷ 0 ∷ [] in
        u16_at-append four (slot_bytes (literals r) count ++ rest) (i * 2) (4 + i * 2) refl ∙ slot_bytes_at (literals r) count i l (slot_small B small (literals r) below i) rest

    enough : length (literals r) ≤ count
    enough = rw (literals_counted r) (slots_enough packed (length (literals r)) few)

    -- The bytes of a rule are read as the rule,
    rule_at-rule_bytes : rule_at written ≡ r
    unfolding rule_bytes
    rule_at-rule_bytes =
        let same : (i : ℕ) → i < length (literals r) → slot_at written i ≡ get_or (literals r) i 0 = λ i l. slot_read i (omega (arith, enough)) in
        let assoc = append_assoc r.heads r.positives r.negatives in
        let last : (i : ℕ) → i < length ((r.heads ++ r.positives) ++ (r.negatives ++ [])) → slot_at written i ≡ get_or ((r.heads ++ r.positives) ++ (r.negatives ++ [])) i 0
        = rw (append-nil, assoc) same in
        rw (
          part_read (slot_at written) [] r.heads (r.positives ++ r.negatives) 0 refl same,
          part_read (slot_at written) r.heads r.positives r.negatives (length r.heads) refl same,
          part_read (slot_at written) (r.heads ++ r.positives) r.negatives [] (length r.heads + length r.positives) (sym (length-append r.heads r.positives)) last,
        )

    -- what is left behind them is the rest,
    rest_rule_bytes : drop (length_at packed written) written ≡ rest
    unfolding rule_bytes
    rest_rule_bytes =
        rw (← length-counted_bytes packed (length r.heads) (length r.positives) (length r.negatives) (literals r)) (drop-append_seam (rule_bytes packed r) rest)

    -- and they keep row 26.
    rule_keeps-rule_bytes : rule_keeps packed B written ≡ true
    unfolding rule_bytes
    rule_keeps-rule_bytes =
        let used = literals_counted r in
        let long = length-counted_bytes packed (length r.heads) (length r.positives) (length r.negatives) (literals r) in
        let slots = slots_keep-each B (length r.heads + length r.positives + length r.negatives) (slot_at written) count (λ i l. rw (slot_read i l, used) (slot_keeps_lem B (literals r) below i)) in
        rw (le-leb (length r.heads + length r.positives + length r.negatives) (most_literals packed) (rw used few), le-leb (length_at packed written) (length written) (rw length-append (omega (arith, long))), slots)

  -- The first of writable rules is one, and those behind it are.
  rules-written : (r : Rule) (rs : List Rule) → rules_writable packed B (r ∷ rs) ≡ true → (rule_writable packed B r ≡ true) × (rules_writable packed B rs ≡ true)
  rules-written r rs w = &&_split (rule_writable packed B r) (rules_writable packed B rs) w

  -- Behind the first of the rules written are the others.
  behind-rules_bytes : (r : Rule) (rs : List Rule) → rules_writable packed B (r ∷ rs) ≡ true → (k : ℕ) → behind packed (rules_bytes packed (r ∷ rs)) (suc k) ≡ behind packed (rules_bytes packed rs) k
  unfolding rules_bytes
  behind-rules_bytes r rs w k =
      behind-first packed (rules_bytes packed (r ∷ rs)) k ∙ ap (λ s. behind packed s k) (rest_rule_bytes r (rules-written r rs w).0 (rules_bytes packed rs))

  -- Rule k of the rules written is the k-th,
  rule_at-rules_bytes : (rs : List Rule) → rules_writable packed B rs ≡ true → (k : ℕ) (d : Rule) → k < length rs → rule_at (behind packed (rules_bytes packed rs) k) ≡ get_or rs k d
  unfolding rules_bytes behind
  rule_at-rules_bytes [] w k d l = absurd (omega arith)
  rule_at-rules_bytes (r ∷ rs) w zero d l = rule_at-rule_bytes r (rules-written r rs w).0 (rules_bytes packed rs)
  rule_at-rules_bytes (r ∷ rs) w (suc k) d l = rw (behind-rules_bytes r rs w k) (rule_at-rules_bytes rs (rules-written r rs w).1 k d (omega arith))

  -- and they are whole.
  rules_bytes-whole : (rs : List Rule) → rules_writable packed B rs ≡ true → Whole packed B (length rs) (rules_bytes packed rs)
  unfolding rules_bytes behind
  rules_bytes-whole rs w = record { keeps = keeps rs w; ends = ends rs w }
    where
      keeps : (rs : List Rule) → rules_writable packed B rs ≡ true → (k : ℕ) → k < length rs → rule_keeps packed B (behind packed (rules_bytes packed rs) k) ≡ true
      keeps [] w k l = absurd (omega arith)
      keeps (r ∷ rs) w zero l = rule_keeps-rule_bytes r (rules-written r rs w).0 (rules_bytes packed rs)
      keeps (r ∷ rs) w (suc k) l = rw (behind-rules_bytes r rs w k) (keeps rs (rules-written r rs w).1 k (omega arith))

      ends : (rs : List Rule) → rules_writable packed B rs ≡ true → length (behind packed (rules_bytes packed rs) (length rs)) ≡ 0
      ends [] w = refl
      ends (r ∷ rs) w = rw (behind-rules_bytes r rs w (length rs)) (ends rs (rules-written r rs w).1)

  -- The rules written are read as the same rules.
  rules_read : (rs : List Rule) → rules_writable packed B rs ≡ true → rules_in packed (rules_bytes packed rs) (length rs) ≡ rs
  rules_read rs w =
      let d : Rule = record { heads = []; positives = []; negatives = [] } in
      let read : ℕ → Rule = λ k. rule_at (behind packed (rules_bytes packed rs) k) in
      ext_get_or d _ _ (length-up_to read (length rs)) (λ i l.
      let inside : i < length rs = rw (length-up_to read (length rs)) at l in
      get_d_up_to read (length rs) i d inside ∙ rule_at-rules_bytes rs w i d inside)

-- ---- the header and the image

-- The form is told by its number,
form_small : (packed : Bool) → cond packed 1 0 ≤ 1
form_small true = omega arith
form_small false = omega arith

form_back : (packed : Bool) → eqb (cond packed 1 0) 1 ≡ packed
form_back true = refl
form_back false = refl

-- the total is one that the form allows,
total_kept : (packed : Bool) (rs : List Rule) → total_keeps packed (length rs) (header_length + length (rules_bytes packed rs)) ≡ true
total_kept true rs = le-leb header_length (header_length + length (rules_bytes true rs)) (omega arith)
total_kept false rs = eq-eqb _ _ (length-rules_bytes false rs)

-- and it is small: no rule has over eight literals.
most_small : (packed : Bool) → most_literals packed ≤ 8
most_small true = omega arith
most_small false = omega arith

rules-few : (packed : Bool) (B : ℕ) (rs : List Rule) → rules_writable packed B rs ≡ true → literal_total rs ≤ length rs * 8
rules-few packed B [] w = omega arith
rules-few packed B (r ∷ rs) w =
    let both = &&_split (rule_writable packed B r) (rules_writable packed B rs) w in
    let few = leb-true (length (literals r)) (most_literals packed) (&&_split (leb (length (literals r)) (most_literals packed)) (all_below B (literals r)) both.0).0 in
    omega (arith, few, most_small packed, rules-few packed B rs both.1)

rules_small : (packed : Bool) (B : ℕ) (rs : List Rule) → length rs ≤ most_rules → rules_writable packed B rs ≡ true → header_length + length (rules_bytes packed rs) < 4294967296
rules_small true B rs few w = omega (arith, length-rules_bytes true rs, rules-few true B rs w)
rules_small false B rs few w = omega (arith, length-rules_bytes false rs)

module _ (packed : Bool) (p : Program) (w : writable packed p ≡ true) where
  halves : (not (outside p.atoms p.size (length p.rules)) ≡ true) × (rules_writable packed p.size p.rules ≡ true)
  halves = &&_split (not (outside p.atoms p.size (length p.rules))) (rules_writable packed p.size p.rules) w

  inside : Inside p.atoms p.size (length p.rules)
  inside = outside_false _ _ _ (not-true _ halves.0)

  atom_count-image_of : atom_count (image_of packed p) ≡ p.atoms
  unfolding image_of header
  atom_count-image_of = u16_at-u16_bytes p.atoms (omega (arith, inside.atoms))

  size_of-image_of : size_of (image_of packed p) ≡ p.size
  unfolding image_of header
  size_of-image_of = u16_at-u16_bytes p.size (omega (arith, inside.size))

  rule_count-image_of : rule_count (image_of packed p) ≡ length p.rules
  unfolding image_of header
  rule_count-image_of = u16_at-u16_bytes (length p.rules) (omega (arith, inside.count))

  rule_section-image_of : rule_section (image_of packed p) ≡ rules_bytes packed p.rules
  unfolding image_of header
  rule_section-image_of = refl

  form_image_of : u16_at (image_of packed p) 6 ≡ cond packed 1 0
  unfolding image_of header
  form_image_of = u16_at-u16_bytes (cond packed 1 0) (omega (arith, form_small packed))

  offset_image_of : u32_at (image_of packed p) 8 ≡ header_length
  unfolding image_of header
  offset_image_of = refl

  total_image_of : (rest : List ℕ) → total_of (image_of packed p ++ rest) ≡ header_length + length (rules_bytes packed p.rules)
  unfolding image_of header
  total_image_of rest = u32_at-u32_bytes (header_length + length (rules_bytes packed p.rules)) (rules_small packed p.size p.rules inside.count halves.1)

  total_alone : total_of (image_of packed p) ≡ header_length + length (rules_bytes packed p.rules)
  total_alone = rw (append-nil (image_of packed p)) at (total_image_of [])

  -- It has the form that was chosen,
  pub is_packed-image_of : is_packed (image_of packed p) ≡ packed
  is_packed-image_of = rw form_image_of (form_back packed)

  -- is accepted,
  pub image_of-accepted : none (program_rows (image_of packed p)) ≡ true
  image_of-accepted = program_rows-none (image_of packed p) (record {
    long = omega (arith, length-image_of packed p);
    inside = rw (atom_count-image_of, size_of-image_of, rule_count-image_of) inside;
    form = omega (arith, form_image_of, form_small packed);
    offset = offset_image_of;
    total = rw (is_packed-image_of, rule_count-image_of, total_alone) (total_kept packed p.rules);
    exact = length-image_of packed p ∙ sym total_alone;
    rules = rw (is_packed-image_of, size_of-image_of, rule_count-image_of, rule_section-image_of) (rules_bytes-whole packed p.size (omega (arith, inside.size)) p.rules halves.1);
  })

  -- and is read as that program.
  pub program_of-image_of : program_of (image_of packed p) ≡ p
  unfolding program_of
  program_of-image_of =
      rw (atom_count-image_of, size_of-image_of, is_packed-image_of, rule_count-image_of, rule_section-image_of, rules_read packed p.size (omega (arith, inside.size)) p.rules halves.1)

  -- Whatever stands behind the image, its total tells where it ends.
  pub image_of_part : (rest : List ℕ) → take (total_of (image_of packed p ++ rest)) (image_of packed p ++ rest) ≡ image_of packed p
  image_of_part rest = rw (total_image_of rest, ← length-image_of packed p) (take-append_seam (image_of packed p) rest)

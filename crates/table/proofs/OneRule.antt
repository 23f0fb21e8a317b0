-- Literals that are added one by one leave what simplifying the whole rule leaves: by induction on their number. Assumes nothing.
use Rattle.std.proofs.Common.{Option, Some, None}
use mathlib.Core.Path.{◌≡◌, refl, sym, ap, ◌∙◌}
use mathlib.Core.Bool.{Bool, true, false, ◌||◌, cond, or-true}
use mathlib.Core.List.{List, [], ◌∷◌, ◌++◌, map, append_assoc, append-nil}
use Prim.Native.Nat.{ℕ, zero, suc, ◌+◌, ◌-◌, ◌≤◌, ◌<◌}
use native.Mathlib.Decide.{le_ind}
use native.Mathlib.Numerals.{add-one}
use native.Mathlib.Omega.{arith}
use lib.Dec.{eqb}
use lib.ListN.{get_or, length, set, length-append, length-map}
use borrow.Author.Tests.{eqb-true, ne_eqb, ltb-true, lt-ltb}
use Rattle.refusal.proofs.Table.{cases}
use Rattle.wire.specs.Sequence.{up_to}
use Rattle.wire.proofs.Sequence.{length-up_to}
use Rattle.program.specs.Rule.{RuleOf}
use Rattle.program.specs.Image.{slot_count, literals, literal_total, slot_bytes, rule_bytes, rules_bytes}
use Rattle.program.proofs.Lengths.{literals_counted}
use Rattle.flat.specs.Flat.{Term, constant, name, has, names, removes, reduce, simplify, fact}
use Rattle.table.specs.declared.Literals.{Literals}
use Rattle.table.specs.Shapes.{slot_of, slot_number, slots_from, used_by, Fillable}
use Rattle.table.specs.OneRule.{false_term, true_term, code, decode, filled, rule_in, added, added_if, added_to, first_three, no_literals, made_of, made_count, made_literals, made_bytes}

-- ---- the terms of numbers

-- A term that is a name is below n.
abbrev pub Below : ℕ → Term → Type 0
Below n (constant b) = Unit {0}
Below n (name a) = a < n

-- A term's number gives the term back, if a name is below the constants' numbers.
pub decode-code : (t : Term) → Below false_term t → decode (code t) ≡ t
decode-code (constant false) h = refl
decode-code (constant true) h = refl
decode-code (name a) h = rw (ne_eqb a false_term (λ e. omega arith), ne_eqb a true_term (λ e. omega arith))

-- The slot of a number has that number.
pub slot_number-slot_of : (n : ℕ) → n < 4 → slot_number (slot_of n) ≡ n
slot_number-slot_of zero h = refl
slot_number-slot_of (suc zero) h = refl
slot_number-slot_of (suc (suc zero)) h = refl
slot_number-slot_of (suc (suc (suc zero))) h = refl
slot_number-slot_of (suc (suc (suc (suc n)))) h = absurd (omega arith)

-- ---- constants and names of two lists of terms

has-append : (c : Bool) (ts us : List Term) → has c (ts ++ us) ≡ (has c ts || has c us)
has-append c [] us = refl
has-append true (constant true ∷ ts) us = refl
has-append true (constant false ∷ ts) us = has-append true ts us
has-append false (constant true ∷ ts) us = has-append false ts us
has-append false (constant false ∷ ts) us = refl
has-append c (name a ∷ ts) us = has-append c ts us

names-append : (ts us : List Term) → names (ts ++ us) ≡ names ts ++ names us
names-append [] us = refl
names-append (constant b ∷ ts) us = names-append ts us
names-append (name a ∷ ts) us = ap (λ l. a ∷ l) (names-append ts us)

pub length-names : (ts : List Term) → length (names ts) ≤ length ts
length-names [] = omega arith
length-names (constant b ∷ ts) = omega (arith, length-names ts)
length-names (name a ∷ ts) = omega (arith, length-names ts)

-- ---- literals

-- The literals l of a rule,
abbrev pub kept : List ℕ → Literals
kept l = record { used = length l; slots = first_three l }

-- if it stays.
abbrev pub state : (removed : Bool) → List ℕ → Option Literals
state b l = cond b None (Some (kept l))

-- A name takes the next slot.
pushed : (l : List ℕ) (a : ℕ) → length l < 3 → set (first_three l) (length l) a ≡ first_three (l ++ (a ∷ []))
pushed [] a h = refl
pushed (b ∷ []) a h = refl
pushed (b ∷ c ∷ []) a h = refl
pushed (b ∷ c ∷ d ∷ l) a h = absurd (omega arith)

-- A term more may remove the rule, and else leaves its name,
added_state : (b c : Bool) (l : List ℕ) (n : ℕ) → length l < 3
    → added_if (state b l) (code (constant c)) n ≡ state (b || has c (decode n ∷ [])) (l ++ names (decode n ∷ []))
added_state true c l n h = refl
added_state false c l n h = cases (eqb n false_term)
    (λ t. rw (eqb-true n false_term t) (low c))
    (λ f. cases (eqb n true_term) (λ t. rw (eqb-true n true_term t) (high c)) (other c f))
  where
    low : (c : Bool) → added_if (state false l) (code (constant c)) false_term ≡ state (has c (constant false ∷ [])) (l ++ [])
    low true = rw append-nil
    low false = refl

    high : (c : Bool) → added_if (state false l) (code (constant c)) true_term ≡ state (has c (constant true ∷ [])) (l ++ [])
    high true = refl
    high false = rw append-nil

    other : (c : Bool) → eqb n false_term ≡ false → eqb n true_term ≡ false → added_if (state false l) (code (constant c)) n
        ≡ state (has c (decode n ∷ [])) (l ++ names (decode n ∷ []))
    other true f g = rw (f, g, pushed l n h, length-append)
    other false f g = rw (f, g, pushed l n h, length-append)

-- and so do n terms.
pub added_to_state : (c : Bool) (l : List ℕ) (f : ℕ → ℕ) (n : ℕ) → length l + n ≤ 3
    → added_to (kept l) (code (constant c)) f n ≡ state (has c (up_to (λ j. decode (f j)) n)) (l ++ names (up_to (λ j. decode (f j)) n))
unfolding added_to up_to
added_to_state c l f zero h = rw append-nil
added_to_state c l f (suc n) h =
    let ts : List Term = up_to (λ j. decode (f j)) n in
    let few : length (names ts) ≤ n = omega (arith, length-names ts, length-up_to (λ j. decode (f j)) n) in
    rw (added_to_state c l f n (omega arith))
    (added_state (has c ts) c (l ++ names ts) (f n) (rw length-append (omega arith))
    ∙ rw (has-append, names-append, append_assoc))

-- One literal more, which takes one slot at most,
pub added_to_more : (l : Literals) (removing : ℕ) (f : ℕ → ℕ) (n : ℕ) → added_to l removing f (n + 1) ≡ added_if (added_to l removing f n) removing (f n)
unfolding added_to
added_to_more l removing f n = rw add-one

-- and where a rule is removed already, none is added.
pub added_to-none : (l : Literals) (removing : ℕ) (f : ℕ → ℕ) (k n : ℕ) → k ≤ n → added_to l removing f k ≡ None → added_to l removing f n ≡ None
added_to-none l removing f k n h e =
    le_ind (λ m. added_to l removing f m ≡ None) e (λ m g d. rw (← add-one, added_to_more, d)) n h

-- ---- the whole rule

-- What was added says whether the rule stays, and with which literals.
stayed : (b : Bool) (l : List ℕ) (a : Literals) → Some a ≡ state b l → (b ≡ false) × (a ≡ kept l)
stayed true l a e = cc
stayed false l a e = (refl, cc)

gone : (b : Bool) (l : List ℕ) → None ≡ state b l → b ≡ true
gone true l e = refl
gone false l e = cc

-- What stands behind a list has the rest of the length.
behind : (l m : List ℕ) → length (l ++ m) - length l ≡ length m
behind l m = rw length-append (omega arith)

-- Terms f as heads, then g as positives, then h as negatives.
module _ (f g h : ℕ → ℕ) (H P N : ℕ) (few : H + P + N ≤ 3) where
  abbrev terms : (ℕ → ℕ) → (n : ℕ) → List Term
  terms f n = up_to (λ j. decode (f j)) n

  few-names : (f : ℕ → ℕ) (n : ℕ) → length (names (terms f n)) ≤ n
  few-names f n = omega (arith, length-names (terms f n), length-up_to (λ j. decode (f j)) n)

  abbrev pub rule : RuleOf Term
  rule = record { heads = terms f H; positives = terms g P; negatives = terms h N }

  -- The literals a after the heads, b after the positives and d after the negatives.
  abbrev pub Heads : Option Literals → Type 0
  Heads a = a ≡ added_to no_literals true_term f H

  abbrev pub Positives : Literals → Option Literals → Type 0
  Positives a b = b ≡ added_to a false_term g P

  abbrev pub Negatives : Literals → Option Literals → Type 0
  Negatives b d = d ≡ added_to b true_term h N

  pub heads-are : (a : Option Literals) → Heads a → a ≡ state (has true rule.heads) (names rule.heads)
  heads-are a e = e ∙ added_to_state true [] f H (omega arith)

  pub positives-are : (a : Literals) (b : Option Literals) → Heads (Some a) → Positives a b → b ≡ state (has false rule.positives) (names rule.heads ++ names rule.positives)
  positives-are a b e k =
      k ∙ rw (stayed _ _ a (heads-are _ e)).1 (added_to_state false (names rule.heads) g P (omega (arith, few-names f H)))

  pub negatives-are : (a b : Literals) (d : Option Literals) → Heads (Some a) → Positives a (Some b) → Negatives b d
      → d ≡ state (has true rule.negatives) ((names rule.heads ++ names rule.positives) ++ names rule.negatives)
  negatives-are a b d e k m =
      m ∙ rw (stayed _ _ b (positives-are a _ e k)).1
      (added_to_state true (names rule.heads ++ names rule.positives) h N (rw length-append (omega (arith, few-names f H, few-names g P))))

  -- Each may remove the rule,
  pub heads-remove : Heads None → None ≡ made_of rule
  unfolding made_of
  heads-remove e = rw (gone _ _ (heads-are _ e))

  pub positives-remove : (a : Literals) → Heads (Some a) → Positives a None → None ≡ made_of rule
  unfolding made_of
  positives-remove a e k = rw (gone _ _ (positives-are a _ e k), or-true)

  pub negatives-remove : (a b : Literals) → Heads (Some a) → Positives a (Some b) → Negatives b None → None ≡ made_of rule
  unfolding made_of
  negatives-remove a b e k m = rw (gone _ _ (negatives-are a b _ e k m), or-true)

  -- and where none does, what they leave is the rule with its constants gone.
  pub parts-made : (a b d : Literals) → Heads (Some a) → Positives a (Some b) → Negatives b (Some d)
      → Some (record { heads = a.used; positives = b.used - a.used; negatives = d.used - b.used; slots = d.slots }) ≡ made_of rule
  unfolding made_of
  parts-made a b d e k m =
      let x = stayed _ _ a (heads-are _ e) in
      let y = stayed _ _ b (positives-are a _ e k) in
      let z = stayed _ _ d (negatives-are a b _ e k m) in
      rw (
        x.0,
        y.0,
        z.0,
        x.1,
        y.1,
        z.1,
        behind (names rule.heads) (names rule.positives),
        behind (names rule.heads ++ names rule.positives) (names rule.negatives),
        append_assoc,
      )

-- A fact is its one head.
module _ (n : ℕ) where
  pub fact_removed : None ≡ added no_literals true_term n → None ≡ made_of (fact (decode n))
  unfolding added_to up_to
  fact_removed e = heads-remove (λ j. n) (λ j. n) (λ j. n) 1 0 0 (omega arith) e

  pub fact_made : (a : Literals) → Some a ≡ added no_literals true_term n
      → Some (record { heads = a.used; positives = 0; negatives = 0; slots = a.slots }) ≡ made_of (fact (decode n))
  unfolding added_to up_to
  fact_made a e =
      let zero : a.used - a.used ≡ 0 = omega arith in
      rw zero at (parts-made (λ j. n) (λ j. n) (λ j. n) 1 0 0 (omega arith) a a a e refl refl)

-- A slot that is used names x, y, L or M.
pub slot_named : (s : List ℕ) → Fillable s → (i : ℕ) → (3 ≤ i) × (i < 3 + used_by s) → get_or s i 0 < 4
slot_named s ok i h =
    let j : ℕ = i - 3 in
    let e : 3 + j ≡ i = omega (arith, h) in
    ltb-true _ _ (rw e at (ok.slots j (omega (arith, h, ok.few)) ∙ lt-ltb j (used_by s) (omega (arith, h))))

-- Among the heads and the positives of a row are no more names than it counts.
module _ (s terms : List ℕ) (ok : Fillable s) where
  few-filled : (start count : ℕ) → length (names (map (filled terms) (slots_from s start count))) ≤ count
  few-filled start count =
      let ts : List Term = map (filled terms) (slots_from s start count) in
      omega (arith, length-names ts, length-map (slots_from s start count) (filled terms), length-up_to (λ j. slot_of (get_or s (start + j) 0)) count)

  pub heads-few : length (names (rule_in s terms).heads) ≤ get_or s 0 0
  heads-few = few-filled 3 (get_or s 0 0)

  pub positives-few : length (names (rule_in s terms).positives) ≤ get_or s 1 0
  positives-few = few-filled (3 + get_or s 0 0) (get_or s 1 0)

-- A rule that was made has no more literals than it had: three at most where a row is filled,
made_le : (r : RuleOf Term) → made_literals (made_of r) ≤ length r.heads + length r.positives + length r.negatives
unfolding made_of
made_le r = cases (removes r) (λ t. rw t (omega arith)) (λ f. rw f (omega (arith, length-names r.heads, length-names r.positives, length-names r.negatives)))

pub rule_in-few : (s terms : List ℕ) → Fillable s → made_literals (made_of (rule_in s terms)) ≤ 3
rule_in-few s terms ok =
    omega (arith, made_le (rule_in s terms), count 3 (get_or s 0 0), count (3 + get_or s 0 0) (get_or s 1 0), count (3 + get_or s 0 0 + get_or s 1 0) (get_or s 2 0), ok.few)
  where
    count : (start n : ℕ) → length (map (filled terms) (slots_from s start n)) ≡ n
    count start n = length-map (slots_from s start n) (filled terms) ∙ length-up_to (λ j. slot_of (get_or s (start + j) 0)) n

-- and one of a fact.
pub fact-few : (t : Term) → made_literals (made_of (fact t)) ≤ 3
fact-few t = omega (arith, made_le (fact t))

-- ---- what stays of it

pub made_count-made_of : (r : RuleOf Term) → made_count (made_of r) ≡ length (simplify r)
unfolding made_of
made_count-made_of r = cases (removes r) (λ t. rw t) (λ f. rw f)

pub made_literals-made_of : (r : RuleOf Term) → made_literals (made_of r) ≡ literal_total (simplify r)
unfolding made_of
made_literals-made_of r = cases (removes r) (λ t. rw t) (λ f. rw f (omega (arith, literals_counted (reduce r))))

-- The first three literals are all that slots of three are written from.
slot_bytes-first_three : (l : List ℕ) (n : ℕ) → n ≤ 3 → slot_bytes (first_three l) n ≡ slot_bytes l n
unfolding slot_bytes
slot_bytes-first_three l zero h = refl
slot_bytes-first_three l (suc zero) h = refl
slot_bytes-first_three l (suc (suc zero)) h = refl
slot_bytes-first_three l (suc (suc (suc zero))) h = refl
slot_bytes-first_three l (suc (suc (suc (suc n)))) h = absurd (omega arith)

slot_count-few : (packed : Bool) (n : ℕ) → n ≤ 3 → slot_count packed n ≤ 3
slot_count-few true n h = h
slot_count-few false n h = omega arith

pub made_bytes-made_of : (packed : Bool) (r : RuleOf Term) → made_literals (made_of r) ≤ 3 → made_bytes packed (made_of r) ≡ rules_bytes packed (simplify r)
unfolding made_of rules_bytes rule_bytes
made_bytes-made_of packed r few = cases (removes r) (λ t. rw t)
    (λ f. rw (f, slot_bytes-first_three (literals (reduce r)) _ (slot_count-few packed _ (rw f at few))) (sym (append-nil _)))

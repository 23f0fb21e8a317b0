-- `make_of_terms` makes the rule of a shape: the heads, then the positives, then the negatives are added, and what they leave is counted. Assumes nothing.
use Rattle.std.proofs.Common.{◌≡◌, ap, ◌∙◌, ◌+◌, ◌-◌, ◌≤◌, List, ℕ, get_or, map, arith, Option, Some, None}
use Rattle.wire.specs.Sequence.{up_to}
use Rattle.wire.proofs.Sequence.{map-up_to, up_to_equal}
use Rattle.table.specs.declared.Literals.{Literals}
use Rattle.table.specs.Shapes.{slot_of, slots_from, used_by, Fillable}
use Rattle.table.specs.OneRule.{false_term, true_term, decode, filled, rule_in, no_literals, added_to, made_of}
use Rattle.table.proofs.OneRule.{slot_number-slot_of, slot_named, rule, heads-remove, positives-remove, negatives-remove, parts-made}
use Rattle.table.proofs.make_of_terms.Goals as goal

-- A shape s with its counts, the terms t, and what the code starts with.
module _ {s : List ℕ} {none : Literals} {H P N : ℕ} (ok : Fillable s) (start : none ≡ no_literals) (h : H ≡ get_or s 0 0) (p : P ≡ get_or s 1 0) (n : N ≡ get_or s 2 0) (t : List ℕ) where
  -- The terms in the slots from one on,
  abbrev from : (slot j : ℕ) → ℕ
  from slot j = get_or t (get_or s (slot + j) 0) 0

  filled-from : (slot count : ℕ) → (3 ≤ slot) × (slot + count ≤ 3 + used_by s) → map (filled t) (slots_from s slot count) ≡ up_to (λ j. decode (from slot j)) count
  filled-from slot count l =
      map-up_to (filled t) (λ j. slot_of (get_or s (slot + j) 0)) count
      ∙ up_to_equal _ _ count (λ j k. ap (λ i. decode (get_or t i 0)) (slot_number-slot_of (get_or s (slot + j) 0) (slot_named s ok (slot + j) (omega (arith, l)))))

  few : H + P + N ≤ 3
  few = omega (arith, ok.few)

  -- are the rule's.
  rule_filled : rule_in s t ≡ rule (from 3) (from (3 + H)) (from (3 + H + P)) H P N few
  rule_filled =
      rw (
        ← h,
        ← p,
        ← n,
        filled-from 3 H (omega arith),
        filled-from (3 + H) P (omega arith),
        filled-from (3 + H + P) N (omega arith),
      )

  -- What the code adds in each part.
  abbrev Heads : Option Literals → Type 0
  Heads a = a ≡ added_to none true_term (from 3) H

  abbrev Positives : Literals → Option Literals → Type 0
  Positives a b = b ≡ added_to a false_term (from (3 + H)) P

  abbrev Negatives : Literals → Option Literals → Type 0
  Negatives b d = d ≡ added_to b true_term (from (3 + H + P)) N

  heads_removed : Heads None → None ≡ made_of (rule_in s t)
  heads_removed e = rw rule_filled (heads-remove (from 3) (from (3 + H)) (from (3 + H + P)) H P N few (rw start at e))

  positives_removed : {a : Literals} → Heads (Some a) → Positives a None → None ≡ made_of (rule_in s t)
  positives_removed e k = rw rule_filled (positives-remove (from 3) (from (3 + H)) (from (3 + H + P)) H P N few _ (rw start at e) k)

  negatives_removed : {a b : Literals} → Heads (Some a) → Positives a (Some b) → Negatives b None → None ≡ made_of (rule_in s t)
  negatives_removed e k m = rw rule_filled (negatives-remove _ _ _ _ _ _ few _ _ (rw start at e) k m)

  all_stay : {a b d : Literals} → Heads (Some a) → Positives a (Some b) → Negatives b (Some d)
      → Some (record { heads = a.used; positives = b.used - a.used; negatives = d.used - b.used; slots = d.slots }) ≡ made_of (rule_in s t)
  all_stay e k m = rw rule_filled (parts-made _ _ _ _ _ _ few _ _ _ (rw start at e) k m)

pub returns-in_err-a : goal.returns-in_err-a
returns-in_err-a c =
    c.from_residual.ensures
    ∙ heads_removed c.requires c.none.ensures c.from-heads.ensures c.from-positives.ensures c.from-negatives.ensures c.args.terms.now.numbers c.in_err-a.ensures.value

pub returns-in_err-b : goal.returns-in_err-b
returns-in_err-b c =
    c.from_residual-in_err-b.ensures
    ∙ positives_removed c.requires c.none.ensures c.from-heads.ensures c.from-positives.ensures c.from-negatives.ensures c.args.terms.now.numbers c.in_ok-a.ensures.value c.in_err-b.ensures.value

pub returns-in_err-c : goal.returns-in_err-c
returns-in_err-c c =
    c.from_residual-in_err-c.ensures
    ∙ negatives_removed c.requires c.none.ensures c.from-heads.ensures c.from-positives.ensures c.from-negatives.ensures c.args.terms.now.numbers c.in_ok-a.ensures.value c.in_ok-b.ensures.value c.in_err-c.ensures.value

pub returns : goal.returns
returns c =
    all_stay c.requires c.none.ensures c.from-heads.ensures c.from-positives.ensures c.from-negatives.ensures c.args.terms.now.numbers c.in_ok-a.ensures.value c.in_ok-b.ensures.value c.in_ok-c.ensures.value

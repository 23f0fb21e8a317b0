-- Where no slot holds a constant every row's rule stays with all its literals: by induction on the slots and on the rows. Assumes nothing.
use Rattle.std.proofs.Common.{Some}
use mathlib.Core.Path.{◌≡◌, refl, sym, ap, ◌∙◌}
use mathlib.Core.Bool.{Bool, true, false, ◌&&◌, cond}
use mathlib.Core.List.{List, [], ◌∷◌, ◌++◌, map, append_assoc}
use Prim.Native.Nat.{ℕ, ◌+◌, ◌≤◌, ◌<◌}
use native.Mathlib.Omega.{arith}
use lib.Dec.{ltb}
use lib.ListN.{length, get_or, length-map}
use borrow.Author.Tests.{ltb-true, ltb-false, ne_eqb}
use Rattle.refusal.proofs.Table.{cases}
use Rattle.logic.proofs.Bools.{&&_split}
use Rattle.wire.specs.Sequence.{up_to}
use Rattle.wire.proofs.Sequence.{length-up_to, up_to_equal, map-up_to, up_to-append, get_d_up_to-cond}
use Rattle.program.specs.Rule.{RuleOf}
use Rattle.program.specs.Image.{literal_total}
use Rattle.program.proofs.Lengths.{literals_counted}
use Rattle.flat.specs.Table.{Slot, x, y, L, M}
use Rattle.flat.specs.Flat.{name, has, names, map_rule, removes, reduce, simplify}
use Rattle.table.specs.Shapes.{row_literals, slot_of, slot_number, slots_from, used_by, shape_rule, Fillable}
use Rattle.table.specs.OneRule.{false_term, true_term, decode, filled, rule_in, all_names, made_of}
use Rattle.table.proofs.OneRule.{slot_number-slot_of, slot_named}

-- A number below the constants' is a name's.
decode-name : (n : ℕ) → n < false_term → decode n ≡ name n
decode-name n h = rw (ne_eqb n false_term (λ e. omega arith), ne_eqb n true_term (λ e. omega arith))

-- The number of what stands in a slot.
abbrev number_in : List ℕ → Slot → ℕ
number_in terms s = get_or terms (slot_number s) 0

-- ---- names in the slots

module _ (terms : List ℕ) (all : all_names terms ≡ true) where
  -- Each term is below the constants' numbers, so each slot holds a name.
  abbrev low : ℕ → Bool
  low n = ltb (get_or terms n 0) false_term

  behind-x : (low 1 && (low 2 && low 3)) ≡ true
  behind-x = (&&_split (low 0) _ all).1

  behind_y : (low 2 && low 3) ≡ true
  behind_y = (&&_split (low 1) _ behind-x).1

  filled-name : (s : Slot) → filled terms s ≡ name (number_in terms s)
  filled-name x = decode-name _ (ltb-true _ _ (&&_split (low 0) _ all).0)
  filled-name y = decode-name _ (ltb-true _ _ (&&_split (low 1) _ behind-x).0)
  filled-name L = decode-name _ (ltb-true _ _ (&&_split (low 2) _ behind_y).0)
  filled-name M = decode-name _ (ltb-true _ _ (&&_split (low 2) _ behind_y).1)

  -- No constant is among them, so no row is removed.
  has-filled : (c : Bool) (l : List Slot) → has c (map (filled terms) l) ≡ false
  has-filled c [] = refl
  has-filled c (s ∷ l) = rw (filled-name s) (has-filled c l)

  pub removes-filled : (r : RuleOf Slot) → removes (map_rule (filled terms) r) ≡ false
  removes-filled r = rw (has-filled true r.heads, has-filled false r.positives, has-filled true r.negatives)

  -- The names are the numbers that stand in the slots.
  names-filled : (l : List Slot) → names (map (filled terms) l) ≡ map (number_in terms) l
  names-filled [] = refl
  names-filled (s ∷ l) = rw (filled-name s) (ap (λ ns. number_in terms s ∷ ns) (names-filled l))

  -- So all literals of a row stay.
  pub literals-filled : (r : RuleOf Slot) → literal_total (simplify (map_rule (filled terms) r)) ≡ row_literals r
  literals-filled r =
      rw (removes-filled r) (omega (arith, literals_counted (reduce (map_rule (filled terms) r)), same r.heads, same r.positives, same r.negatives))
    where
      same : (l : List Slot) → length (names (map (filled terms) l)) ≡ length l
      same l = rw (names-filled l, length-map)

  module _ (s : List ℕ) (ok : Fillable s) where
    -- How many heads, positives and negatives a shape has.
    abbrev H : ℕ
    H = get_or s 0 0

    abbrev P : ℕ
    P = get_or s 1 0

    abbrev N : ℕ
    N = get_or s 2 0

    -- The number in slot j,
    abbrev number : ℕ → ℕ
    number j = get_or terms (get_or s (3 + j) 0) 0

    -- and those in one part of the slots.
    part : (start count : ℕ) (slot : ℕ → ℕ) → ((j : ℕ) → start + j ≡ 3 + slot j) → (3 ≤ start) × (start + count ≤ 3 + used_by s)
        → names (map (filled terms) (slots_from s start count)) ≡ up_to (λ j. number (slot j)) count
    part start count slot e h =
        names-filled (slots_from s start count)
        ∙ map-up_to (number_in terms) (λ j. slot_of (get_or s (start + j) 0)) count
        ∙ up_to_equal _ _ count (λ j l. ap (λ n. get_or terms n 0) (slot_number-slot_of (get_or s (start + j) 0) (slot_named s ok (start + j) (omega (arith, h))) ∙ ap (λ i. get_or s i 0) (e j)))

    -- The heads, then the positives, then the negatives are the numbers in all slots that are used.
    literals-names : up_to number H ++ (up_to (λ j. number (H + j)) P ++ up_to (λ j. number (H + P + j)) N) ≡ up_to number (H + P + N)
    literals-names = rw (up_to-append number (H + P) N, up_to-append number H P, append_assoc)

    -- An unused slot holds 0.
    number-used : get_or terms 4 0 ≡ 0 → (j : ℕ) → j < 3 → cond (ltb j (H + P + N)) (number j) 0 ≡ number j
    number-used ended j l = cases (ltb j (H + P + N))
        (λ t. rw t)
        (λ t. let four : get_or s (3 + j) 0 ≡ 4 = omega (arith, ltb-false (get_or s (3 + j) 0) 4 (ok.slots j l ∙ t), ok.named (3 + j) (omega arith)) in rw (t, four) (sym ended))

    -- The rule that is made has all literals of the shape.
    pub made_names : get_or terms 4 0 ≡ 0 → Some (record { heads = H; positives = P; negatives = N; slots = number 0 ∷ number 1 ∷ number 2 ∷ [] }) ≡ made_of (rule_in s terms)
    unfolding made_of
    made_names ended =
        rw (
          removes-filled (shape_rule s),
          part 3 H (λ j. j) (λ j. refl) (omega arith),
          part (3 + H) P (λ j. H + j) (λ j. omega arith) (omega arith),
          part (3 + H + P) N (λ j. H + P + j) (λ j. omega arith) (omega arith),
        )
        (rw (
          length-up_to number H,
          length-up_to (λ j. number (H + j)) P,
          length-up_to (λ j. number (H + P + j)) N,
          literals-names,
          get_d_up_to-cond number (H + P + N) 0 0,
          get_d_up_to-cond number (H + P + N) 1 0,
          get_d_up_to-cond number (H + P + N) 2 0,
          number-used ended 0 (omega arith),
          number-used ended 1 (omega arith),
          number-used ended 2 (omega arith),
        ))

-- Whether a rule holds, literal by literal: a part of its body is at most its head exactly if one of its literals is, where the head is not 2. Assumes nothing.
use Rattle.std.specs.List.{list_any}
use mathlib.Core.Path.{◌≡◌, refl, sym, ◌∙◌}
use mathlib.Core.Bool.{Bool, true, ◌||◌, beq}
use mathlib.Core.List.{List, [], ◌∷◌, ◌++◌, map}
use Prim.Native.Nat.{ℕ, ◌+◌, ◌≤◌, ◌<◌}
use native.Mathlib.Nat.{zero-add}
use native.Mathlib.Omega.{arith}
use lib.Dec.{leb}
use borrow.Author.Tests.{le-leb, lt-leb}
use Rattle.wire.specs.Sequence.{up_to}
use Rattle.wire.proofs.Sequence.{up_to_more}
use Rattle.logic.specs.declared.Value.{Value}
use Rattle.logic.specs.declared.Value.TheVariants.{Neither}
use Rattle.logic.specs.Value.{number, smaller, larger, negation}
use Rattle.logic.proofs.Bools.{beq_sound}
use Rattle.logic.proofs.Finite.{same, same_sound, agree₁, agree₃}
use Rattle.logic.proofs.Values.{number_small}
use Rattle.program.specs.Image.{slot_at, slots_from}
use Rattle.program.specs.Rule.{RuleOf, smallest, largest, body_value, holds}

-- A value is at most another.
abbrev at_most : Value → Value → Bool
at_most a b = leb (number a) (number b)

-- The smaller of two is at most a third exactly if one of them is.
smaller_at_most : (a b c : Value) → at_most (smaller a b) c ≡ (at_most a c || at_most b c)
smaller_at_most = agree₃ beq beq_sound (λ a b c. at_most (smaller a b) c) (λ a b c. at_most a c || at_most b c) refl

-- The largest value of one head more,
pub largest_more : {S : Type 0} (v : S → Value) (l : List S) (s : S) → largest v (l ++ (s ∷ [])) ≡ larger (largest v l) (v s)
largest_more v [] s = agree₁ same same_sound (λ a. larger a Neither) (λ a. larger Neither a) refl (v s)
largest_more v (t ∷ l) s = rw (largest_more v l s) (agree₃ same same_sound (λ a b c. larger a (larger b c)) (λ a b c. larger (larger a b) c) refl (v t) (largest v l) (v s))

-- of no slots, and of one slot more.
module _ (v : ℕ → Value) (s : List ℕ) where
  pub largest_none : largest v (slots_from s 0 0) ≡ Neither
  unfolding up_to
  largest_none = refl

  pub largest_slot : (i : ℕ) → largest v (slots_from s 0 (i + 1)) ≡ larger (largest v (slots_from s 0 i)) (v (slot_at s i))
  largest_slot i = rw (up_to_more (λ j. slot_at s (0 + j)) i) (largest_more v (slots_from s 0 i) (slot_at s (0 + i)) ∙ rw (zero-add i))

module _ {S : Type 0} (v : S → Value) where
  -- One literal of a list is at most a value that is not 2 exactly if the smallest is.
  pub any_at_most : (g : ℕ → S) (h : Value) → number h < 2 → (l : List ℕ) → list_any (λ i. at_most (v (g i)) h) l ≡ at_most (smallest v (map g l)) h
  any_at_most g h low [] = sym (lt-leb 2 (number h) low)
  any_at_most g h low (i ∷ l) = rw (smaller_at_most (v (g i)) (smallest v (map g l)) h, any_at_most g h low l)

  -- A rule holds exactly if its positives or its negatives are at most its head,
  pub holds_parts : (r : RuleOf S) → holds v r ≡ (at_most (smallest v r.positives) (largest v r.heads) || at_most (smallest (λ s. negation (v s)) r.negatives) (largest v r.heads))
  holds_parts r = smaller_at_most (smallest v r.positives) (smallest (λ s. negation (v s)) r.negatives) (largest v r.heads)

  -- and whatever these are if its head is 2.
  pub holds_two : (r : RuleOf S) → 2 ≤ number (largest v r.heads) → holds v r ≡ true
  holds_two r l = le-leb (number (body_value v r)) (number (largest v r.heads)) (omega (arith, number_small (body_value v r)))

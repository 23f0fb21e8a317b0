-- What a writer of rules needs of a list of rules that grows by a part at each turn: the bytes grow by the part's, and there is room for them. Assumes nothing.
use mathlib.Core.Path.{◌≡◌, ap, ◌∙◌}
use mathlib.Core.Bool.{Bool, true, false}
use mathlib.Core.List.{List, [], ◌∷◌, ◌++◌, append_assoc}
use Prim.Native.Nat.{ℕ, ◌+◌, ◌-◌, ◌≤◌, ◌<◌}
use native.Mathlib.Omega.{arith}
use lib.ListN.{length, take, drop, length-append}
use lib.Seq.{length-take-le, drop_at}
use borrow.Rule.Slice.PartMut.{put_mid}
use Rattle.wire.specs.Wire.{over}
use Rattle.wire.proofs.Laws.{part_from, length_over, Written, written_none, turn_room, turn}
use Rattle.theory.specs.declared.Pair.{Pair}
use Rattle.program.specs.Rule.{Rule}
use Rattle.program.specs.Literals.{slotted_bytes}
use Rattle.program.specs.Image.{slot_bytes, rule_bytes, rules_bytes}
use Rattle.program.proofs.Lengths.{rules_bytes-append}
use Rattle.flat.specs.Flat.{pair_rule}
use Rattle.translation.proofs.Turns.{Grows, grown}

-- Where a writer stands that has no rule to write yet.
pub written_no_rules : (packed : Bool) (rs : List Rule) (old : List ℕ) → rs ≡ [] → Written (rules_bytes packed rs) old old 0
unfolding rules_bytes
written_no_rules packed rs old e = rw e (written_none old)

-- Where a writer stands that wrote over the start.
pub written-first : (new old out : List ℕ) (at : ℕ) → length new ≤ length old → at ≡ length new → out ≡ over new old → Written new old out at
written-first new old out at h e b = record { bytes = b; end = e; long = rw b (length_over new old h) }

-- The first bytes, which a writer left for later, are written last.
pub over_last : (head body old out : List ℕ) → length head ≤ length old → out ≡ over (take (length head) old ++ body) old → over head out ≡ over (head ++ body) old
over_last head body old out h e =
    let n = length head in
    let l : length (take n old) ≡ n = length-take-le n old h in
    rw (e, append_assoc, drop_at (take n old) _ n l, append_assoc, length-append, l, length-append)

-- What comes of a part of a list that is lent from an index on, and of a count.
pub lent : {S : Type 0} (f : List ℕ → ℕ → S) (t : List ℕ) {from start n count : ℕ} → from ≡ start → n ≡ count
    → f (take (length t - from) (drop from t)) n ≡ f (drop start t) count
lent f t {start = start} e g = rw (e, g, part_from start t)

-- The bytes of a pair's rule: in the fixed form a third slot holds 0.
pub pair_bytes : (packed : Bool) (q p : Pair) → q ≡ p → slotted_bytes packed (record { heads = 0; positives = 2; negatives = 0; slots = q.first ∷ q.second ∷ 0 ∷ [] }) ≡ rules_bytes packed (pair_rule p ∷ [])
unfolding slot_bytes rule_bytes rules_bytes
pair_bytes true q p e = rw e
pair_bytes false q p e = rw e

-- The bytes of rules grow as the rules do.
pub bytes_grow : (packed : Bool) {whole part : ℕ → List Rule} → Grows whole part → Grows (λ k. rules_bytes packed (whole k)) (λ k. rules_bytes packed (part k))
bytes_grow packed {whole} {part} g = record { more = λ k. ap (rules_bytes packed) (g.more k) ∙ rules_bytes-append packed (whole k) (part k) }

-- Of bytes that grow, where a writer has written those of k turns and those of n fit:
module _ {whole part : ℕ → List ℕ} (g : Grows whole part) {k n at : ℕ} {old out made : List ℕ}
    (w : Written (whole k) old out at) (h : k < n) (fits : length (whole n) ≤ length old) (is : made ≡ part k) where
  fit : length (whole k) + length (part k) ≤ length old
  fit = omega (arith, grown g k n h)

  -- the next part fits into the rest,
  pub part_fits : length made ≤ length (take (length out - at) (drop at out))
  part_fits = rw is (turn_room w fit)

  -- and is written where its bytes are.
  pub part_written : {m : ℕ} {back : List ℕ} → m ≡ length made → back ≡ over made (take (length out - at) (drop at out)) → Written (whole (k + 1)) old (put_mid at (length out - at) out back) (at + m)
  part_written e b = rw g.more (turn w (part k) fit (rw is at e) (rw is at b))

-- What the writer of a rule leaves: slots that are written one by one stand behind the counts. Assumes nothing.
use mathlib.Core.Path.{◌≡◌, refl, ap, ◌∙◌}
use mathlib.Core.List.{List, [], ◌∷◌, ◌++◌}
use Prim.Native.Nat.{ℕ, zero, suc, ◌+◌, ◌-◌, ◌≤◌}
use native.Mathlib.Omega.{arith}
use lib.ListN.{length, take, drop, get_or, length-append}
use lib.Seq.{drop-drop, length-take-le}
use borrow.Rule.Slice.PartMut.{put_mid}
use Rattle.wire.specs.Wire.{u16_bytes, over}
use Rattle.wire.proofs.Laws.{take-over, drop-over, written_past, turn}
use Rattle.program.specs.Image.{slot_bytes}
use Rattle.program.specs.Literals.{slot_put}

-- What is written over the part of a list from an index on.
pub part_put : (at : ℕ) (new old : List ℕ) → at + length new ≤ length old → {n : ℕ} {back : List ℕ} → n ≡ length new → back ≡ over new (take (length old - at) (drop at old))
    → put_mid at (length old - at) old back ≡ over (take at old ++ new) old
part_put at new old fits e b = (turn (written_past at old (omega arith)) new (rw (length-take-le at old (omega arith)) fits) e b).bytes

-- What is written behind bytes that were written.
over_more : (done new old : List ℕ) → over (take (length done) (over done old) ++ new) (over done old) ≡ over (done ++ new) old
over_more done new old = rw (take-over done old)
    (ap (λ l. (done ++ new) ++ l) (rw (length-append done new, ← drop-drop (length new) (length done) (over done old), drop-over done old) (drop-drop (length new) (length done) old)))

module _ (h p g : ℕ) (slots old : List ℕ) where
  -- The counts, and behind them the first k slots.
  abbrev bytes : ℕ → List ℕ
  bytes k = h ∷ p ∷ g ∷ 0 ∷ slot_bytes slots k

  abbrev put : (n j : ℕ) → List ℕ → List ℕ
  put n j = slot_put n j (get_or slots j 0)

  pub slots_put : (n : ℕ) → n ≤ 3 → put n 2 (put n 1 (put n 0 (over (h ∷ p ∷ g ∷ 0 ∷ []) old))) ≡ over (bytes n) old
  unfolding slot_bytes
  slots_put zero l = refl
  slots_put (suc zero) l = over_more (h ∷ p ∷ g ∷ 0 ∷ []) (u16_bytes (get_or slots 0 0)) old
  slots_put (suc (suc zero)) l = ap (put 2 1) (over_more (h ∷ p ∷ g ∷ 0 ∷ []) (u16_bytes (get_or slots 0 0)) old) ∙ over_more (bytes 1) (u16_bytes (get_or slots 1 0)) old
  slots_put (suc (suc (suc zero))) l =
      ap (λ o. put 3 2 (put 3 1 o)) (over_more (h ∷ p ∷ g ∷ 0 ∷ []) (u16_bytes (get_or slots 0 0)) old)
      ∙ ap (put 3 2) (over_more (bytes 1) (u16_bytes (get_or slots 1 0)) old)
      ∙ over_more (bytes 2) (u16_bytes (get_or slots 2 0)) old
  slots_put (suc (suc (suc (suc n)))) l = absurd (omega arith)

  -- What was written one by one, the first n of three.
  pub written_slots : {n m : ℕ} → n ≤ 3 → n ≡ m → {a b d o : List ℕ} → a ≡ over (h ∷ p ∷ g ∷ 0 ∷ []) old → b ≡ put n 0 a → d ≡ put n 1 b → o ≡ put n 2 d → o ≡ over (bytes m) old
  written_slots {m = m} l e first second third last = rw (last, third, second, first, e) (slots_put m (rw e at l))

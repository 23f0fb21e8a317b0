-- Where a number is set there is room for it behind those written, and it is written there. Assumes nothing.
use Rattle.std.proofs.Common.{◌≡◌, sym, ap, ◌∙◌, ℕ, Bool, true, [], ◌∷◌, ◌++◌, ◌+◌, ◌*◌, ◌≤◌, ◌<◌, arith, length, length-append}
use Rattle.wire.specs.Wire.{u16_bytes}
use Rattle.wire.proofs.Laws.{written_none, turn_room, turn}
use Rattle.stable.specs.Listing.{numbers_bytes}
use Rattle.stable.specs.Bitmap.{bit_at, passing}
use Rattle.stable.proofs.Listings.{passing_true, passing_false, passing_le, numbers_bytes-append, length-numbers_bytes}
use Rattle.stable.proofs.write_set.Goals as goal
use Rattle.stable.proofs.write_set.Goals.{then-bit_at, else-bit_at}

-- where a number is set, there is room for it behind those written
fits : (test : ℕ → Bool) (k n room : ℕ) → test k ≡ true → k < n → 2 * length (passing test n) ≤ room → length (numbers_bytes (passing test k)) + 2 ≤ room
fits test k n room t below h =
    omega (arith, length-numbers_bytes (passing test k), ap length (passing_true test k t), length-append (passing test k) (k ∷ []), passing_le test (k + 1) n (omega arith))

pub loop-c-init : goal.loop-c-init
unfolding passing numbers_bytes
loop-c-init c = written_none _

pub put-at-requires : goal.put-at-requires
put-at-requires c =
    rw c.u16_bytes.ensures (turn_room c.loop-c.invariant (fits _ c.loop-c.c c.args.n _ (sym c.bit_at.ensures ∙ c.if-bit_at.true) c.loop-c-test.true c.requires.n_in_bounds))

pub loop-c-preserved : goal.loop-c-preserved
unfolding numbers_bytes
loop-c-preserved c =
    let loop = c.loop-c in
    let test = bit_at c.args.bitmap.now in
    elim c.if-bit_at.branch [
      | then-bit_at w ↦
          let t = sym c.bit_at.ensures ∙ w.if-bit_at.true in
          let more : numbers_bytes (passing test (loop.c + 1)) ≡ numbers_bytes (passing test loop.c) ++ u16_bytes loop.c
          = ap numbers_bytes (passing_true test loop.c t) ∙ numbers_bytes-append (passing test loop.c) (loop.c ∷ []) in
          let put = rw w.u16_bytes.ensures at w.put-at.ensures in
          rw (w.out-is, w.at-is, more) (turn loop.invariant (u16_bytes loop.c) (fits test loop.c c.args.n _ t c.loop-c-test.true c.requires.n_in_bounds) put.value put.out_after)
      | else-bit_at w ↦ rw (passing_false test loop.c (sym c.bit_at.ensures ∙ w.if-bit_at.false), w.out-is, w.at-is) loop.invariant
    ]

-- Each turn tests the set with the next number, and its bit weighs 2 to the j; so the bits fit a byte. Assumes nothing.
use Rattle.std.proofs.Common.{◌≡◌, refl, sym, ap, ◌∙◌, ℕ, Bool, ◌+◌, ◌*◌, ◌^◌, ◌≤◌, ◌<◌, add-one, arith, pow_mono}
use native.Mathlib.Nat.{pow-succ'}
use Rattle.wire.specs.Sequence.{up_to}
use Rattle.stable.specs.Number.{number_of}
use Rattle.stable.specs.Bitmap.{eight_of, is_listed}
use Rattle.stable.proofs.Bitmaps.{bits_with, bits_without, bits_lt, listable_kept, number_testable, number-listed}
use Rattle.stable.proofs.eight.Goals as goal
use Rattle.stable.proofs.eight.Goals.{then-is_answer_set, else-is_answer_set}

-- the bits and the weight stay small
below : (test : ℕ → Bool) (j bits weight : ℕ) → bits ≡ number_of (up_to test j) → weight ≡ 2 ^ j → j ≤ 8 → (bits < weight) × (weight ≤ 256)
below test j bits weight b w h = (omega (arith, bits_lt test j), omega (arith, pow_mono {j = 8} h))

pub loop-j-init : goal.loop-j-init
unfolding up_to number_of
loop-j-init c = record { bits = refl; weight = refl }

pub is_answer_set-requires-clause-testable : goal.is_answer_set-requires-clause-testable
is_answer_set-requires-clause-testable c =
    rw c.candidate_of.ensures (number_testable (listable_kept c.requires.listable c.loop-j.auto.reading c.loop-j.auto.values) _)

pub overflow_add-bits : goal.overflow_add-bits
overflow_add-bits c = let loop = c.loop-j in omega (arith, below _ loop.j loop.bits loop.weight loop.invariant.bits loop.invariant.weight loop.auto.j-end)

pub overflow_mul-weight : goal.overflow_mul-weight
overflow_mul-weight c = let loop = c.loop-j in omega (arith, below _ loop.j loop.bits loop.weight loop.invariant.bits loop.invariant.weight loop.auto.j-end)

pub loop-j-preserved : goal.loop-j-preserved
loop-j-preserved c =
    let loop = c.loop-j in
    let test : ℕ → Bool = λ k. is_listed c.args.theory.now.image.now (c.args.from + k) in
    let listable = listable_kept c.requires.listable loop.auto.reading loop.auto.values in
    let answered : c.is_answer_set.result ≡ test loop.j = rw (c.candidate_of.ensures, number-listed listable (c.args.from + loop.j)) at c.is_answer_set.ensures in
    let twice : loop.weight * 2 ≡ 2 ^ (loop.j + 1) = omega (arith, loop.invariant.weight, pow-succ' 2 loop.j, ap (λ n. 2 ^ n) (add-one loop.j)) in
    elim c.if-is_answer_set.branch [
      | then-is_answer_set w ↦ record { bits = omega (arith, bits_with test loop.j (sym answered ∙ w.if-is_answer_set.true)); weight = twice }
      | else-is_answer_set w ↦ record { bits = omega (arith, bits_without test loop.j (sym answered ∙ w.if-is_answer_set.false)); weight = twice }
    ]

pub overflow_cast-result : goal.overflow_cast-result
overflow_cast-result c = let loop = c.loop-j in omega (arith, below _ loop.j loop.bits loop.weight loop.invariant.bits loop.invariant.weight loop.auto.j-end)

pub returns : goal.returns
unfolding eight_of
returns c = let e : c.loop-j.j ≡ 8 = omega arith in rw e at c.loop-j.invariant.bits

-- There are 2 to the A sets, at most 4,096, and eight for each turn. Assumes nothing.
use Rattle.std.proofs.Common.{◌≡◌, ap, ◌∙◌, ℕ, ◌*◌, ◌^◌, ◌≤◌, arith, length-set, pow_mono}
use Rattle.std.specs.Int.{div_ceil}
use Rattle.std.proofs.lemmas.Grind.{div_ceil_times}
use Rattle.refusal.specs.Limits.{most_listed}
use Rattle.stable.proofs.Bitmaps.{bit_at-set}
use Rattle.stable.proofs.find_sets.Goals as goal

-- the turns are enough for all sets, and at most 512
enough : {length sets turns : ℕ} (atoms : ℕ) → length ≡ atoms → atoms ≤ most_listed → sets ≡ 2 ^ length → turns ≡ div_ceil sets 8 → (2 ^ atoms ≤ turns * 8) × (turns ≤ 512)
enough {sets = sets} atoms e few s t =
    let power : sets ≡ 2 ^ atoms = s ∙ ap (λ n. 2 ^ n) e in
    let times = div_ceil_times sets 8 (omega arith) in
    rw t (omega (arith, times), omega (arith, times, pow_mono {j = 12} few))

pub loop-i-init : goal.loop-i-init
loop-i-init c = record {
  right = λ k l. absurd (omega arith);
  turns = enough _ c.requires.listable.sized c.requires.listable.few c.two_to-sets.ensures.0 c.div_ceil-i-end.ensures;
  sized = c.requires.found_len;
}

pub loop-i-preserved : goal.loop-i-preserved
loop-i-preserved c =
    let loop = c.loop-i in record {
      right = rw c.eight.ensures (bit_at-set _ loop.found loop.i (omega arith) loop.invariant.right);
      turns = loop.invariant.turns;
      sized = simp length-set (omega arith);
    }

pub returns : goal.returns
returns c = λ k l. c.loop-i.invariant.right k (omega arith)

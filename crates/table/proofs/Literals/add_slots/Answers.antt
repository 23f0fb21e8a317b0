-- Each turn adds one term, and where one removes the rule none is added after it.
use Rattle.std.proofs.Common.{◌≡◌, refl, sym, ◌+◌, arith, ℕ, Option, Some}
use Rattle.table.specs.declared.Literals.{Literals}
use Rattle.table.specs.OneRule.{added, added_to}
use Rattle.table.proofs.OneRule.{added_to_more, added_to-none}
use Rattle.table.proofs.Literals.add_slots.Goals as goal

-- What the next term adds to the literals that the terms before it left.
next_added : (l : Literals) (removing : ℕ) (f : ℕ → ℕ) (j : ℕ) {a : Literals} {o : Option Literals} → Some a ≡ added_to l removing f j → o ≡ added a removing (f j) → o ≡ added_to l removing f (j + 1)
next_added l removing f j e k = rw (added_to_more l removing f j, ← e) k

pub loop-j-init : goal.loop-j-init
unfolding added_to
loop-j-init c = record { passed = refl; used = (omega arith, omega arith) }

pub returns-in_err-all : goal.returns-in_err-all
returns-in_err-all c =
    rw c.from_residual.ensures
    (record {
      value = sym (added_to-none c.args.self c.args.removing _ (c.loop-j.j + 1) c.args.count (omega arith)
          (sym (next_added _ _ _ _ c.loop-j.invariant.passed (rw c.from.ensures at c.in_err-all.ensures.value))));
      used = tt;
    })

pub loop-j-preserved : goal.loop-j-preserved
loop-j-preserved c = record {
  passed = next_added _ _ _ _ c.loop-j.invariant.passed (rw c.from.ensures at c.in_ok-all.ensures.value);
  used = (omega (arith, c.in_ok-all.ensures.used), omega (arith, c.in_ok-all.ensures.used));
}

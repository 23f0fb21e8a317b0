-- `write_pairs` writes the pairs' rules: before each turn those of the pairs passed are written. Assumes nothing.
use Rattle.wire.proofs.Laws.{Written}
use Rattle.program.specs.Image.{rules_bytes}
use Rattle.theory.specs.Image.{pair_section}
use Rattle.translation.specs.Turns.{pairs_to}
use Rattle.translation.proofs.write_pairs.Given as goal

abbrev pub invariant-loop-i : goal.invariant-loop-i
invariant-loop-i l = Written (rules_bytes l.packed (pairs_to (pair_section l.theory.image.now) l.i)) l.initial.out l.out l.at

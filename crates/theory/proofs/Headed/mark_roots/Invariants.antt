-- `mark_roots` marks all roots: before each turn the first i are marked. Assumes nothing.
use Rattle.std.proofs.Common.{◌≡◌}
use Rattle.wire.specs.Sequence.{up_to}
use Rattle.theory.specs.Image.{root_section, root_in}
use Rattle.theory.specs.Marks.{marked}
use Rattle.theory.proofs.Headed.mark_roots.Given as goal

abbrev pub invariant-loop-i : goal.invariant-loop-i
invariant-loop-i l = l.marks ≡ marked (up_to (root_in (root_section l.self.image.now)) l.i) l.initial.marks

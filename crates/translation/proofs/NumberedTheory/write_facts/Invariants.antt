-- `write_facts` writes the roots' facts: before each turn those of the roots passed are written. Assumes nothing.
use Rattle.wire.proofs.Laws.{Written}
use Rattle.program.specs.Image.{rules_bytes}
use Rattle.theory.specs.Image.{root_section}
use Rattle.translation.specs.Turns.{facts_to, scratch_term}
use Rattle.translation.proofs.NumberedTheory.write_facts.Given as goal

abbrev pub invariant-loop-root : goal.invariant-loop-root
invariant-loop-root l = Written (rules_bytes l.packed (facts_to (scratch_term l.self.terms.now) (root_section l.self.theory.image.now) l.root)) l.initial.out l.out l.at

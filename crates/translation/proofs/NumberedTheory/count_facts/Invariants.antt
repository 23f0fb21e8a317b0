-- `count_facts` counts the roots' facts: before each turn it has counted those of the roots passed. Assumes nothing.
use Rattle.std.proofs.Common.{◌≤◌}
use Rattle.theory.specs.Image.{root_section}
use Rattle.translation.specs.Turns.{facts_to, scratch_term, Counted}
use Rattle.translation.proofs.NumberedTheory.count_facts.Given as goal

abbrev pub invariant-loop-i : goal.invariant-loop-i
invariant-loop-i l = Counted (facts_to (scratch_term l.self.terms.now) (root_section l.self.theory.image.now) l.i) l.counts.rules l.counts.literals × (l.counts.rules ≤ l.i)

-- `measure` numbers and counts in one pass: before each turn the scratch begins with the numbers of the terms of the nodes passed, `all` is the label behind theirs, and their rules are counted. Assumes nothing.
use Rattle.std.proofs.Common.{◌≡◌, ◌*◌, ◌≤◌}
use Rattle.theory.specs.Image.{atom_count, node_section}
use Rattle.translation.specs.Turns.{next_to, rules_to, Counted, NumberedTo}
use Rattle.translation.proofs.measure.Given as goal

abbrev pub invariant-loop-k : goal.invariant-loop-k
invariant-loop-k l = record {
  numbered : NumberedTo (atom_count l.theory.image.now) (node_section l.theory.image.now) l.k l.terms;
  next : l.all ≡ next_to (atom_count l.theory.image.now) (node_section l.theory.image.now) l.k;
  counted : Counted (rules_to (atom_count l.theory.image.now) (node_section l.theory.image.now) l.k) l.counts.rules l.counts.literals;
  few : l.counts.rules ≤ l.k * 6;
}

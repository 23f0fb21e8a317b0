-- `add_slots` adds the terms of some slots: before each turn those of the slots passed are added. Assumes nothing.
use Rattle.std.proofs.Common.{◌≡◌, ◌+◌, ◌≤◌, get_or, Some}
use Rattle.table.specs.OneRule.{added_to}
use Rattle.table.proofs.Literals.add_slots.Given as goal

abbrev pub invariant-loop-j : goal.invariant-loop-j
invariant-loop-j l = record {
  passed : Some l.all ≡ added_to l.initial.all l.removing (λ i. get_or l.terms.numbers (get_or l.shape (l.start + i) 0) 0) l.j;
  used : (l.initial.all.used ≤ l.all.used) × (l.all.used ≤ l.initial.all.used + l.j);
}

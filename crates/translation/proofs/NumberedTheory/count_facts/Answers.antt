use Rattle.std.proofs.Common.{arith}
use Rattle.translation.proofs.Turns.{facts_to-none, facts_grow}
use Rattle.translation.proofs.Counting.{counted_none, counted_made}
use Rattle.translation.proofs.Sections.{nodes-accepted}
use Rattle.translation.proofs.NumberedTheory.count_facts.Goals as goal

pub loop-i-init : goal.loop-i-init
loop-i-init c = (counted_none (facts_to-none _ _), omega arith)

-- what is counted is what stays of the root's fact
pub loop-i-preserved : goal.loop-i-preserved
loop-i-preserved c =
    let is = rw (c.from.ensures, c.root.ensures.0) at c.fact_of.ensures in
    let sum = c.with-counts.ensures in
    (counted_made _ c.loop-i.invariant.0 is sum.few.1 sum.rules_value.0 sum.rules_value.1 ((facts_grow _ _).more _), omega arith)

pub bounds-self-root : goal.bounds-self-root
bounds-self-root c = omega (arith, (nodes-accepted _ c.args.self.now.theory.checked).few)

pub offset_bounds-self-root : goal.offset_bounds-self-root
offset_bounds-self-root c = record { fits = omega (arith, (nodes-accepted _ c.args.self.now.theory.checked).few) }

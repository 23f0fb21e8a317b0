use Rattle.std.proofs.Common.{◌≡◌, length, arith}
use Rattle.table.proofs.Shapes.{kind_fillable}
use Rattle.translation.proofs.Turns.{rows_to-none, rows_grow, rows_to-all}
use Rattle.translation.proofs.Counting.{counted_none, counted_made}
use Rattle.translation.proofs.count_rows.Goals as goal

pub loop-shape-init : goal.loop-shape-init
loop-shape-init c = (counted_none (rows_to-none _ _), omega arith)

pub make-requires : goal.make-requires
make-requires c = rw c.rows-shape-items.ensures (kind_fillable c.args.kind c.loop-shape.shape-index (rw c.rows-shape-items.ensures at c.loop-shape-test.true))

-- what is counted is what stays of the row's rule
pub loop-shape-preserved : goal.loop-shape-preserved
loop-shape-preserved c =
    let is = rw c.rows-shape-items.ensures at c.make.ensures in
    let sum = c.with-counts.ensures in
    (counted_made _ c.loop-shape.invariant.0 is sum.few.1 sum.rules_value.0 sum.rules_value.1 ((rows_grow _ _).more _), omega arith)

pub returns : goal.returns
returns c =
    let end : c.loop-shape.shape-index ≡ length c.rows-shape-items.result.now = omega arith in
    rw (end, c.rows-shape-items.ensures, rows_to-all) at c.loop-shape.invariant.0

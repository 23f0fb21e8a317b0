use Rattle.std.proofs.Common.{◌≡◌, Bool, List, [], ℕ, ◌<◌, length, get_or, arith, Option}
use Rattle.theory.specs.declared.Kind.{Kind}
use Rattle.program.specs.Literals.{Slotted}
use Rattle.program.specs.Image.{rules_bytes}
use Rattle.flat.specs.Flat.{simplify}
use Rattle.table.specs.Shapes.{kind_shapes}
use Rattle.table.specs.OneRule.{rule_in, made_of, made_bytes}
use Rattle.table.proofs.Shapes.{kind_fillable}
use Rattle.table.proofs.OneRule.{rule_in-few, made_bytes-made_of}
use Rattle.translation.proofs.Turns.{rows_to-none, rows_grow, rows_to-all}
use Rattle.translation.proofs.Writing.{written_no_rules, bytes_grow, part_fits, part_written}
use Rattle.translation.proofs.write_node.Goals as goal

-- What was made is the row's rule.
bytes-are : (p : Bool) (shapes : List (List ℕ)) (kind : Kind) (terms : List ℕ) (j : ℕ) {made : Option Slotted} → shapes ≡ kind_shapes kind → j < length shapes → made ≡ made_of (rule_in (get_or shapes j []) terms)
    → made_bytes p made ≡ rules_bytes p (simplify (rule_in (get_or (kind_shapes kind) j []) terms))
bytes-are p shapes kind terms j e h f =
    rw (f, e) (made_bytes-made_of p _ (rule_in-few _ terms (kind_fillable kind j (rw e at h))))

pub loop-shape-init : goal.loop-shape-init
loop-shape-init c = written_no_rules _ _ _ (rows_to-none _ _)

pub make-requires : goal.make-requires
make-requires c = rw c.rows-shape-items.ensures (kind_fillable c.args.kind c.loop-shape.shape-index (rw c.rows-shape-items.ensures at c.loop-shape-test.true))

pub put_rule-at-requires : goal.put_rule-at-requires
put_rule-at-requires c =
    part_fits (bytes_grow c.args.packed (rows_grow _ _)) c.loop-shape.invariant (rw c.rows-shape-items.ensures at c.loop-shape-test.true) (rw rows_to-all c.requires)
    (bytes-are c.args.packed _ c.args.kind c.args.terms.now.numbers c.loop-shape.shape-index c.rows-shape-items.ensures c.loop-shape-test.true c.make.ensures)

pub loop-shape-preserved : goal.loop-shape-preserved
loop-shape-preserved c =
    part_written (bytes_grow c.args.packed (rows_grow _ _)) c.loop-shape.invariant (rw c.rows-shape-items.ensures at c.loop-shape-test.true) (rw rows_to-all c.requires)
    (bytes-are c.args.packed _ c.args.kind c.args.terms.now.numbers c.loop-shape.shape-index c.rows-shape-items.ensures c.loop-shape-test.true c.make.ensures)
    c.put_rule-at.ensures.value c.put_rule-at.ensures.out_after

pub returns : goal.returns
returns c =
    let end : c.loop-shape.shape-index ≡ length c.rows-shape-items.result.now = omega arith in
    let w = rw (end, c.rows-shape-items.ensures, rows_to-all) at c.loop-shape.invariant in
    record { value = w.end; out_after = w.bytes }

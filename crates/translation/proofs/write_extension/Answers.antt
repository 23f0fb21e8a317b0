-- `write_extension` writes the reading and then the labels into the rest, which together are the extension's bytes. Assumes nothing.
use Rattle.std.proofs.Common.{◌≡◌, ap, true, map, List, ℕ, ◌+◌, ◌≤◌, arith, length, take, length-append}
use Rattle.refusal.specs.Table.{none}
use Rattle.refusal.specs.Rows.{reading_rows}
use Rattle.wire.specs.Wire.{over}
use Rattle.wire.proofs.Laws.{Written, turn_room, turn}
use Rattle.logic.specs.Value.{number}
use Rattle.logic.specs.Formula.{reading_of}
use Rattle.theory.specs.Image.{atom_count, node_count, node_section}
use Rattle.theory.specs.Rows.{theory_rows}
use Rattle.theory.specs.NodeValues.{values_to}
use Rattle.translation.specs.Outcome.{size_of}
use Rattle.translation.specs.Turns.{label_values}
use Rattle.translation.proofs.Sections.{nodes-accepted}
use Rattle.translation.proofs.Labels.{atoms-book_of, reading-long, scratch_values, extension_bytes, length_extension}
use Rattle.translation.proofs.Writing.{written-first}
use Rattle.translation.proofs.write_extension.Goals as goal

-- Of an accepted image and a reading that is not refused, where the extension fits into an output:
module _ (t r old : List ℕ) (ok : none (theory_rows t) ≡ true) (fine : (none (reading_rows (atom_count t) r) ≡ true) × (size_of t ≤ length old)) where
  -- the reading fits,
  reading_fits : length r ≤ length old
  reading_fits = omega (arith, reading-long t r ok fine.0, atoms-book_of t)

  -- is written,
  wrote : {at : ℕ} {out : List ℕ} → at ≡ length r → out ≡ over r old → Written r old out at
  wrote e f = written-first r old _ _ reading_fits e f

  -- and where a scratch has the nodes' values, the labels fit behind it.
  labels_fit : (scratch : List ℕ) → take (node_count t) scratch ≡ map number (values_to (reading_of r) (node_section t) (node_count t))
      → length r + length (label_values scratch t) ≤ length old
  labels_fit scratch valued =
      omega (arith, length_extension t r ok fine.0, ap length (extension_bytes t r ok fine.0 scratch valued), length-append r (label_values scratch t))

pub values-requires : goal.values-requires
values-requires c =
    let ok = c.args.theory.now.checked in
    record { reading_len = reading-long _ _ ok c.requires.0; theory_in_bounds = (nodes-accepted _ ok).few }

pub put-at-requires : goal.put-at-requires
put-at-requires c = reading_fits _ _ _ c.args.theory.now.checked c.requires

pub write_labels-requires : goal.write_labels-requires
write_labels-requires c =
    let ok = c.args.theory.now.checked in
    let valued = scratch_values _ _ ok c.requires.0 _ _ c.values.ensures in
    turn_room (wrote _ _ _ ok c.requires c.put-at.ensures.value c.put-at.ensures.out_after) (labels_fit _ _ _ ok c.requires _ valued)

pub returns : goal.returns
returns c =
    let ok = c.args.theory.now.checked in
    let valued = scratch_values _ _ ok c.requires.0 _ _ c.values.ensures in
    let labels = c.write_labels.ensures in
    let w = turn (wrote _ _ _ ok c.requires c.put-at.ensures.value c.put-at.ensures.out_after) _ (labels_fit _ _ _ ok c.requires _ valued) labels.value labels.out_after in
    rw (extension_bytes _ _ ok c.requires.0 _ valued) w.bytes

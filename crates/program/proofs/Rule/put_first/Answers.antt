-- `put_first` writes the counts, and behind them each slot that is one of the first n. Assumes nothing.
use Rattle.std.proofs.Common.{◌≡◌, subst, refl}
use Rattle.wire.specs.Wire.{over}
use Rattle.program.specs.Literals.{first_bytes}
use Rattle.program.proofs.Put.{written_slots}
use Rattle.program.proofs.Rule.put_first.Goals as goal

pub returns-clause-out_after : goal.returns-clause-out_after
returns-clause-out_after c =
    let r = c.self.inside in
    let out = c.args.out.now in
    subst (λ r. c.put_slot-3.new.out ≡ over (first_bytes c.args.n r) out) c.self.view_is
    (written_slots r.heads r.positives r.negatives r.slots out c.requires.0 refl c.put.ensures.out_after c.put_slot.ensures c.put_slot-2.ensures c.put_slot-3.ensures)

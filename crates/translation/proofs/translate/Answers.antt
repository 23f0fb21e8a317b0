-- `translate` tests the room before it writes a byte: at each return the answer and the output are those of its row. Assumes nothing.
use Rattle.theory.specs.Image.{book_of}
use Rattle.flat.specs.Flat.{flat}
use Rattle.translation.proofs.Counting.{counted_length}
use Rattle.translation.proofs.Outcome.{translate_short, translate-all}
use Rattle.translation.proofs.translate.Goals as goal

pub returns-then-out-needed : goal.returns-then-out-needed
returns-then-out-needed c =
    let needed = counted_length c.args.packed (flat (book_of c.args.theory.now.image.now)) c.count-whole.ensures.0 c.image_length-needed.ensures in
    let r = translate_short c.args.packed _ c.args.out.now needed c.if-out-needed.true in
    record { value = r.0; out_after = r.1 }

pub write-requires : goal.write-requires
write-requires c =
    let needed = counted_length c.args.packed (flat (book_of c.args.theory.now.image.now)) c.count-whole.ensures.0 c.image_length-needed.ensures in
    (c.measure-measured.ensures.all_value, c.count-whole.ensures.0.all, needed, c.if-out-needed.false)

pub returns : goal.returns
returns c =
    let needed = counted_length c.args.packed (flat (book_of c.args.theory.now.image.now)) c.count-whole.ensures.0 c.image_length-needed.ensures in
    let r = translate-all c.args.packed _ c.args.out.now needed c.if-out-needed.false c.count-whole.ensures.0.all c.write.ensures in
    record { value = r.0; out_after = r.1 }

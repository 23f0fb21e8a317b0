-- `extend` tests the reading and the room before it writes a byte: at each return the answer and the output are those of the rows. Assumes nothing.
use Rattle.std.proofs.lemmas.Result.{err_from_is_err_and}
use Rattle.refusal.proofs.Decided.{number-some}
use Rattle.translation.proofs.Outcome.{extend-reading, extend_short, extend-all}
use Rattle.translation.proofs.extend.Goals as goal

pub returns-in_err-reading : goal.returns-in_err-reading
returns-in_err-reading c =
    let err = err_from_is_err_and c.from_residual.result c.from_residual.ensures.1 in
    let r = extend-reading _ c.args.reading.now c.args.out.now (rw c.atoms-atoms.ensures.0 at c.in_err-reading.ensures) (number-some c.in_err-reading.field-0.0) in
    rw (err.1, err.2) (record { value = r.0; out_after = r.1 })

-- what is compared is B
pub returns-then-out-all : goal.returns-then-out-all
returns-then-out-all c =
    let all = c.size-all.ensures in
    let r = extend_short _ c.args.reading.now c.args.out.now (rw c.atoms-atoms.ensures.0 at c.in_ok-reading.ensures) all c.if-out-all.true in
    record { value = r.0; out_after = r.1 }

pub write_extension-requires : goal.write_extension-requires
write_extension-requires c =
    let all = c.size-all.ensures in
    (rw c.atoms-atoms.ensures.0 at c.in_ok-reading.ensures, rw all at c.if-out-all.false)

pub returns : goal.returns
returns c =
    let all = c.size-all.ensures in
    let r = extend-all _ c.args.reading.now c.args.out.now (rw c.atoms-atoms.ensures.0 at c.in_ok-reading.ensures) all c.if-out-all.false c.write_extension.ensures in
    record { value = r.0; out_after = r.1 }

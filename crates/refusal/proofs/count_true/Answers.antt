-- `count_true` filters and counts, as the library does. Assumes nothing.
use Rattle.std.proofs.Common.{rules}
use Rattle.refusal.proofs.Rows.{count_true-count_by}
use Rattle.refusal.proofs.count_true.Goals as goal

pub returns : goal.returns
returns c = rw (count_true-count_by c.args.bytes.now) (search rules)

-- The bytes that `bytes` has put never pass the end of `dest`. Assumes nothing.
use Rattle.std.proofs.Common.{◌≤◌, length}
use Rattle.cases.proofs.words.bytes.Given as goal

abbrev pub invariant-loop-word : goal.invariant-loop-word
invariant-loop-word l =
    (goal.iterator-loop-word).can_next l.word-iterator
    × (goal.iterator-loop-word).is_finite l.word-iterator
    × (l.count ≤ length l.dest)

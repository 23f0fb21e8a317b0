-- `satisfied` says whether a reading satisfies: the roots are tested by the values written, and then the pairs, by `satisfies-each`. Assumes nothing.
use Rattle.std.proofs.Common.{◌≡◌, ◌∙◌, sym, Bool, true, false, ◌&&◌, arith}
use Rattle.theory.proofs.Accepted.{accepted}
use Rattle.theory.proofs.Satisfaction.{satisfies-each}
use Rattle.theory.proofs.Theory.satisfied.Goals as goal

-- Where the first half holds the second is the whole, and where it fails it is.
both : {r p a b s : Bool} → (a && b) ≡ s → r ≡ a → r ≡ true → p ≡ b → p ≡ s
both e ra rt pb = pb ∙ rw (sym ra ∙ rt) at e

first-half : {r a s : Bool} (b : Bool) → (a && b) ≡ s → r ≡ a → r ≡ false → r ≡ s
first-half b e ra rf = rf ∙ rw (sym ra ∙ rf) at e

pub roots_hold-requires-clause-by_index : goal.roots_hold-requires-clause-by_index
roots_hold-requires-clause-by_index c =
    λ i l. rw c.root_section.ensures.value (omega (arith, (accepted c.args.self.now.image.now c.args.self.now.checked).roots-below i (omega arith)))

pub pairs_hold-requires-clause-by_index : goal.pairs_hold-requires-clause-by_index
pairs_hold-requires-clause-by_index c =
    λ i l. rw (c.pair_section.ensures.value, c.requires.reading_len) ((accepted c.args.self.now.image.now c.args.self.now.checked).pairs_all_fit i (omega arith))

pub returns-then-roots_hold : goal.returns-then-roots_hold
returns-then-roots_hold c =
    both (satisfies-each _ _ _ (accepted c.args.self.now.image.now c.args.self.now.checked))
    (rw (c.values.ensures, c.root_section.ensures.value, c.roots.ensures.0) at c.roots_hold.ensures) c.if-roots_hold.true
    (rw (c.pair_section.ensures.value, c.pairs.ensures.0) at c.pairs_hold.ensures)

pub returns-else-roots_hold : goal.returns-else-roots_hold
returns-else-roots_hold c =
    first-half _ (satisfies-each _ _ _ (accepted c.args.self.now.image.now c.args.self.now.checked))
    (rw (c.values.ensures, c.root_section.ensures.value, c.roots.ensures.0) at c.roots_hold.ensures) c.if-roots_hold.false

-- A root of an accepted image is a node. Assumes nothing.
use Rattle.std.proofs.Common.{refl}
use Rattle.theory.proofs.Accepted.{accepted}
use Rattle.theory.proofs.Theory.root.Goals as goal

pub returns : goal.returns
returns c =
    rw (c.root_at.ensures.0, c.root_section.ensures.value) (refl, (accepted c.args.self.now.image.now c.args.self.now.checked).roots-below c.args.i c.requires)

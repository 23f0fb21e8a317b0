-- Left and right of a node of an accepted image are small. Assumes nothing.
use Rattle.theory.proofs.Accepted.{operands_small}
use Rattle.theory.proofs.Theory.node.Goals as goal

pub returns-clause-bound : goal.returns-clause-bound
returns-clause-bound c = rw (c.node_at.ensures.value, c.node_section.ensures.value) (operands_small c.args.self.now.image.now c.args.self.now.checked c.args.k c.requires)

-- A program is satisfied exactly if its formulas are, by `program_value`. Assumes nothing.
use Rattle.std.proofs.Common.{sym, ◌∙◌}
use Rattle.logic.specs.Formula.{reading_of}
use Rattle.program.specs.Image.{program_of}
use Rattle.program.proofs.Rules.{program_value}
use Rattle.stable.proofs.ProgramImage.satisfied_by.Goals as goal

pub returns : goal.returns
returns c = c.satisfied.ensures ∙ sym (program_value (reading_of c.args.reading.now) (program_of c.args.self.now.image.now))

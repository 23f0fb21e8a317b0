-- `make_of_names` makes the rule of a shape without constants: every literal stays, so its slots are read off. Assumes nothing.
use Rattle.table.proofs.Names.{made_names}
use Rattle.table.proofs.make_of_names.Goals as goal

pub returns : goal.returns
returns c =
    rw (c.from.ensures, c.from-2.ensures, c.from-3.ensures, c.from-4.ensures, c.from-5.ensures, c.from-6.ensures)
    (made_names c.args.terms.now.numbers c.requires.terms_value c.args.shape.now c.requires.fillable c.args.terms.now.ended)

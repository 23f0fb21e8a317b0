-- `check_pairs` decides row 15, as its search is the row's. Assumes nothing.
use Rattle.theory.proofs.Rows.{searched_some, searched_none}
use Rattle.theory.proofs.Headed.check_pairs.Goals as goal

pub returns-in-Some : goal.returns-in-Some
returns-in-Some c = searched_some 15 _ _ _ c.in-Some.ensures

pub returns-in-None : goal.returns-in-None
returns-in-None c = searched_none 15 _ _ c.in-None.ensures

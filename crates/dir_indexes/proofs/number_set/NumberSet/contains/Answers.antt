use Rattle.dir_indexes.specs.Places.{has_number}
use Rattle.dir_indexes.proofs.number_set.NumberSet.contains.Goals as goal

pub returns : goal.returns
unfolding has_number
returns c = c.contains.ensures

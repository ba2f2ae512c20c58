use Rattle.std.proofs.Common.{rules}
use Rattle.dir_indexes.specs.Places.{place_of_number}
use Rattle.dir_indexes.proofs.number_index.NumberIndex.find.Goals as goal

pub returns : goal.returns
unfolding place_of_number
returns c = search rules

use Rattle.std.proofs.Common.{arith}
use Rattle.std.proofs.lemmas.Grind.{common_steps}
use Rattle.dir_indexes.specs.Places.{place_of_number}
use Rattle.dir_indexes.proofs.number_index.NumberIndex.remove.Goals as goal

pub returns : goal.returns
unfolding place_of_number
returns c = λ number. grind (arith, common_steps)

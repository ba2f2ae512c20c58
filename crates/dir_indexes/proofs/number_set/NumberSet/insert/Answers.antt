use Rattle.std.proofs.Common.{arith}
use Rattle.std.proofs.lemmas.Grind.{common_steps}
use Rattle.dir_indexes.specs.Places.{has_number}
use Rattle.dir_indexes.proofs.number_set.NumberSet.insert.Goals as goal

pub returns-clause-ok : goal.returns-clause-ok
unfolding has_number
returns-clause-ok c = λ number. grind (arith, common_steps)

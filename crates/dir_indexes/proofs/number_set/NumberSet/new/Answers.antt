use Rattle.std.proofs.Common.{refl}
use Rattle.dir_indexes.specs.Places.{has_number}
use Rattle.dir_indexes.proofs.number_set.NumberSet.new.Goals as goal

pub returns : goal.returns
unfolding has_number
returns c = λ number. rw c.new.ensures.empty refl

use Rattle.std.proofs.Common.{refl}
use Rattle.dir_indexes.specs.Places.{place_of_number}
use Rattle.dir_indexes.proofs.number_index.NumberIndex.new.Goals as goal

pub returns : goal.returns
unfolding place_of_number
returns c = λ number. rw c.new.ensures.empty refl

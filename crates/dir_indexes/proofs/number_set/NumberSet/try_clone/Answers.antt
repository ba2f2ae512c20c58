use Rattle.std.proofs.Common.{refl}
use Rattle.std.specs.List.{each_same}
use Rattle.dir_indexes.specs.Places.{has_number}
use Rattle.dir_indexes.proofs.number_set.NumberSet.try_clone.Goals as goal

pub returns : goal.returns
unfolding has_number
returns c = λ number. rw (each_same c.args.self.now.numbers.keys c.in_ok-clone.field-0.keys c.in_ok-clone.ensures.cases) refl

use Rattle.std.proofs.Common.{refl}
use Rattle.dir_indexes.specs.Places.{pair_of_text}
use Rattle.dir_indexes.proofs.pair_index.PairIndex.new.Goals as goal

pub returns : goal.returns
unfolding pair_of_text
returns c = λ text. rw c.new.ensures.empty refl

use Rattle.std.proofs.Common.{rules}
use Rattle.dir_indexes.specs.Places.{pair_of_text}
use Rattle.dir_indexes.proofs.pair_index.PairIndex.find.Goals as goal

pub returns : goal.returns
unfolding pair_of_text
returns c = search rules

use Rattle.std.proofs.Common.{rules}
use Rattle.dir_indexes.specs.Places.{place_of_text}
use Rattle.dir_indexes.proofs.text_index.TextIndex.find.Goals as goal

pub returns : goal.returns
unfolding place_of_text
returns c = search rules

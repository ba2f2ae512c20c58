use Rattle.std.proofs.Common.{refl}
use Rattle.dir_indexes.specs.Places.{place_of_text}
use Rattle.dir_indexes.proofs.text_index.TextIndex.new.Goals as goal

pub returns : goal.returns
unfolding place_of_text
returns c = λ text. rw c.new.ensures.empty refl

use Rattle.std.proofs.Common.{None}
use Rattle.std.proofs.lemmas.Map.Text.{btree_map_updates_text}
use Rattle.dir_indexes.specs.Places.{place_of_text}
use Rattle.dir_indexes.proofs.text_index.TextIndex.remove.Goals as goal

pub returns : goal.returns
unfolding place_of_text
returns c = λ text. btree_map_updates_text c.args.text.now c.args.self.now.places c.remove.new.self None c.remove.ensures.updates text

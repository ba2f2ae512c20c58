use Rattle.dir_indexes.proofs.Cloned.{same_places}
use Rattle.dir_indexes.specs.Places.{place_of_text}
use Rattle.dir_indexes.proofs.text_index.TextIndex.try_clone.Goals as goal

pub returns : goal.returns
unfolding place_of_text
returns c = λ text. same_places c.args.self.now.places.entries c.in_ok-clone.field-0.entries c.in_ok-clone.ensures.cases text

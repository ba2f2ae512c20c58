use Rattle.dir_indexes.proofs.Cloned.{same_pairs}
use Rattle.dir_indexes.specs.Places.{pair_of_text}
use Rattle.dir_indexes.proofs.pair_index.PairIndex.try_clone.Goals as goal

pub returns : goal.returns
unfolding pair_of_text
returns c = λ text. same_pairs c.args.self.now.places.entries c.in_ok-clone.field-0.entries c.in_ok-clone.ensures.cases text

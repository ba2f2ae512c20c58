use Rattle.std.proofs.Common.{◌≡◌, ℕ, refl}
use Rattle.std.proofs.lemmas.Map.Entries.{entries_from_clone}
use Rattle.dir_indexes.specs.Places.{place_of_number}
use Rattle.dir_indexes.proofs.number_index.NumberIndex.try_clone.Goals as goal

pub returns : goal.returns
unfolding place_of_number
returns c = λ number. let e = entries_from_clone (λ (x y : ℕ). y ≡ x) (λ (x y : ℕ). y ≡ x) (λ x y h. h) (λ x y h. h) c.args.self.now.places.entries c.in_ok-clone.field-0.entries c.in_ok-clone.ensures.cases in rw e refl

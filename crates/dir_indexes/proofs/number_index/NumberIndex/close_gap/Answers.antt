use Rattle.std.proofs.Common.{rules}
use Rattle.std.specs.Ordering.{nat_cmp}
use Rattle.std.specs.BTreeMap.{is_at}
use Rattle.std.proofs.lemmas.Map.Made.{lookup-map_values, map_same_pairs}
use Rattle.dir_indexes.specs.Places.{moved_down, place_of_number}
use Rattle.dir_indexes.proofs.number_index.NumberIndex.close_gap.Goals as goal

pub returns : goal.returns
unfolding place_of_number
returns c =
    let e = map_same_pairs _ (moved_down c.args.at) _ (λ k v b w f' t. search rules) _ _ c.retain.ensures.filtered in
    λ number. rw e (lookup-map_values (moved_down c.args.at) (is_at (nat_cmp number)) c.args.self.now.places.entries)

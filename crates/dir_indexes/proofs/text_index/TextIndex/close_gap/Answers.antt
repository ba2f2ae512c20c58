use Rattle.std.proofs.Common.{rules, string_bytes}
use Rattle.std.specs.Ordering.{nat_cmp}
use Rattle.std.specs.BTreeMap.{is_at}
use Rattle.std.specs.Cmp.Lexicographic.{slice_cmp}
use Rattle.std.proofs.lemmas.Map.Made.{lookup-map_values, map_same_pairs}
use Rattle.dir_indexes.specs.Places.{moved_down, place_of_text}
use Rattle.dir_indexes.proofs.text_index.TextIndex.close_gap.Goals as goal

pub returns : goal.returns
unfolding place_of_text
returns c =
    let e = map_same_pairs _ (moved_down c.args.at) _ (λ k v b w f' t. search rules) _ _ c.retain.ensures.filtered in
    λ text. rw e (lookup-map_values (moved_down c.args.at) (is_at (λ k. slice_cmp nat_cmp text (string_bytes k))) c.args.self.now.places.entries)

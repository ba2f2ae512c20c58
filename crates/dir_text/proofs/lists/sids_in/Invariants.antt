use Rattle.std.proofs.Common.{◌≡◌, drop}
use Rattle.kdc_prelude.specs.Results.{with_front}
use Rattle.serde_json.specs.View.{items_view}
use Rattle.dir_text.specs.Lists.{each_of}
use Rattle.dir_text.specs.Values.{sid_of}
use Rattle.dir_text.proofs.lists.sids_in.Given as goal

abbrev pub invariant-loop-value : goal.invariant-loop-value
invariant-loop-value l = with_front l.sids (each_of (sid_of l.place) (items_view (drop l.value-index l.values))) ≡ each_of (sid_of l.place) (items_view l.values)

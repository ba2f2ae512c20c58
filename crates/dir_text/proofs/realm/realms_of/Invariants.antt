use Rattle.std.proofs.Common.{◌≡◌, ◌≤◌, drop}
use Rattle.kdc_prelude.specs.Results.{with_front}
use Rattle.serde_json.specs.View.{items_view}
use Rattle.dir_text.specs.RealmText.{realms_of}
use Rattle.dir_text.proofs.realm.realms_of.Given as goal

abbrev pub invariant-loop-value : goal.invariant-loop-value
invariant-loop-value l =
    record {
      read : with_front l.realms (realms_of l.i l.room (items_view (drop l.value-index l.values))) ≡ realms_of 0 100000 (items_view l.values);
      number : l.i ≡ l.value-index;
      room : l.room ≤ 100000;
    }

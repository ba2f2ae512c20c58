use Rattle.std.proofs.Common.{◌≡◌, ◌+◌, drop}
use Rattle.kdc_prelude.specs.Results.{with_front}
use Rattle.serde_json.specs.View.{items_view}
use Rattle.dir_text.specs.TrustText.{trusts_of}
use Rattle.dir_text.proofs.trust.trusts_of.Given as goal

abbrev pub invariant-loop-value : goal.invariant-loop-value
invariant-loop-value l =
    record {
      read : with_front l.trusts (trusts_of l.i l.n (items_view (drop l.value-index l.values))) ≡ trusts_of l.i 1 (items_view l.values);
      number : l.n ≡ l.value-index + 1;
    }

use Rattle.std.proofs.Common.{◌≡◌, ◌+◌, drop, length}
use Rattle.kdc_prelude.specs.Results.{with_front}
use Rattle.serde_json.specs.View.{items_view}
use Rattle.dir_text.specs.AccountText.{accounts_of}
use Rattle.dir_text.proofs.account.accounts_of.Given as goal

abbrev pub invariant-loop-value : goal.invariant-loop-value
invariant-loop-value l =
    record {
      read : with_front l.accounts (accounts_of l.realm l.i l.n (items_view (drop l.value-index l.values))) ≡ accounts_of l.realm l.i 1 (items_view l.values);
      number : l.n ≡ l.value-index + 1;
      count : length l.accounts ≡ l.value-index;
    }

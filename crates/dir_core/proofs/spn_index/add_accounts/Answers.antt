use Rattle.dir_indexes.specs.Places.{pair_of_text}
use Rattle.dir_core.proofs.Indexing.{account_next}
use Rattle.dir_core.proofs.spn_index.add_accounts.Goals as goal

pub loop-i-preserved : goal.loop-i-preserved
loop-i-preserved c =
    account_next c.args.realm (pair_of_text c.args.index.now) (pair_of_text c.loop-i.index) (pair_of_text c.add_account.new.index) c.args.accounts.now c.loop-i.i c.index-accounts-i.result
    c.loop-i-test.true c.index-accounts-i.is c.loop-i.invariant c.in_ok-add_account.ensures

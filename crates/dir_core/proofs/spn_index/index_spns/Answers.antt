use Rattle.dir_indexes.specs.Places.{pair_of_text}
use Rattle.dir_core.proofs.Indexing.{realm_next}
use Rattle.dir_core.proofs.spn_index.index_spns.Goals as goal

pub loop-i-preserved : goal.loop-i-preserved
loop-i-preserved c =
    realm_next (pair_of_text c.loop-i.index) (pair_of_text c.add_accounts.new.index) c.args.realms.now c.loop-i.i c.index-realms-i.result
    c.loop-i-test.true c.index-realms-i.is c.loop-i.invariant (rw c.as_slice.ensures at c.in_ok-add_accounts.ensures)

use Rattle.std.proofs.Common.{take}
use Rattle.dir_core.specs.Indexed.{IsRealmIndexed}
use Rattle.dir_core.proofs.Places.{one_more, zip_push}
use Rattle.dir_core.proofs.indexes.index_realms.Goals as goal

pub loop-realm-preserved : goal.loop-realm-preserved
loop-realm-preserved c =
    let realms = c.args.realms.now in
    let i = c.loop-realm.realm-index in
    rw (c.in_ok-push.ensures.ok, one_more realms i c.realm-item.result c.loop-realm-test.true c.realm-item.is)
    (zip_push IsRealmIndexed c.loop-realm.indexes (take i realms) c.in_ok-of_realm.field-0 c.realm-item.result c.loop-realm.invariant c.in_ok-of_realm.ensures)

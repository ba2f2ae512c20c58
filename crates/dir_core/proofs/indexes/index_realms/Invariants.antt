use Rattle.std.proofs.Common.{take}
use Rattle.std.specs.List.{AllZip}
use Rattle.dir_core.specs.Indexed.{IsRealmIndexed}
use Rattle.dir_core.proofs.indexes.index_realms.Given as goal

abbrev pub invariant-loop-realm : goal.invariant-loop-realm
invariant-loop-realm l =
    AllZip IsRealmIndexed l.indexes (take l.realm-index l.realms)

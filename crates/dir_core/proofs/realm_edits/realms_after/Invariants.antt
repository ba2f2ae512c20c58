use Rattle.std.proofs.Common.{◌≡◌, ◌++◌, drop, map}
use Rattle.dir_core.specs.Edits.{realm_after}
use Rattle.dir_core.proofs.realm_edits.realms_after.Given as goal

abbrev pub invariant-loop-realm : goal.invariant-loop-realm
invariant-loop-realm l =
    l.after ++ map (realm_after l.change) (drop l.realm-index l.realms) ≡ map (realm_after l.change) l.realms

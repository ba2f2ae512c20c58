use Rattle.std.proofs.Common.{◌≡◌, drop}
use Rattle.std.specs.List.{list_all}
use Rattle.dir_records.specs.Clashes.{is_other_realm}
use Rattle.dir_records.proofs.references.are_other_realms.Given as goal

abbrev pub invariant-loop-name : goal.invariant-loop-name
invariant-loop-name l =
    list_all (is_other_realm l.realms l.realm) (drop l.name-index l.names) ≡ list_all (is_other_realm l.realms l.realm) l.names

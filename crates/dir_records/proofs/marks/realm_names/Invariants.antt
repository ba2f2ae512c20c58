use Rattle.std.proofs.Common.{◌≡◌, ◌++◌, drop, map}
use Rattle.dir_records.specs.Clashes.{realm_names}
use Rattle.dir_records.specs.Marks.{now_of}
use Rattle.dir_records.proofs.marks.realm_names.Given as goal

abbrev pub invariant-loop-at : goal.invariant-loop-at
invariant-loop-at l =
    map now_of l.marks.items ++ realm_names l.at (drop l.at l.realms) ≡ realm_names 0 l.realms

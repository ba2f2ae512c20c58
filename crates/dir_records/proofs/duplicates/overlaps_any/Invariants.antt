use Rattle.std.proofs.Common.{◌≡◌, drop}
use Rattle.std.specs.List.{list_any}
use Rattle.dir_records.specs.Clashes.{overlaps}
use Rattle.dir_records.proofs.duplicates.overlaps_any.Given as goal

abbrev pub invariant-loop-other : goal.invariant-loop-other
invariant-loop-other l =
    list_any (overlaps l.sid) (drop l.other-index l.others) ≡ list_any (overlaps l.sid) l.others

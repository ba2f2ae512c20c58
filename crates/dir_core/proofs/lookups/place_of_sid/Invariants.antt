use Rattle.std.proofs.Common.{◌≡◌, drop}
use Rattle.dir_core.specs.Lookups.{sid_place_from}
use Rattle.dir_core.proofs.lookups.place_of_sid.Given as goal

abbrev pub invariant-loop-i : goal.invariant-loop-i
invariant-loop-i l =
    sid_place_from l.sid l.i (drop l.i l.realms) ≡ sid_place_from l.sid 0 l.realms

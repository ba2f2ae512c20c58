use Rattle.std.proofs.Common.{◌≡◌, drop}
use Rattle.dir_records.specs.Clashes.{in_realms, unknown_in}
use Rattle.dir_records.proofs.references.find_unknown_reference.Given as goal

abbrev pub invariant-loop-at : goal.invariant-loop-at
invariant-loop-at l =
    in_realms (unknown_in l.realms) l.at (drop l.at l.realms) ≡ in_realms (unknown_in l.realms) 0 l.realms

use Rattle.std.proofs.Common.{◌≡◌, drop}
use Rattle.dir_records.specs.Clashes.{entry_repeat, in_realms}
use Rattle.dir_records.proofs.duplicates.find_repeated_entry.Given as goal

abbrev pub invariant-loop-at : goal.invariant-loop-at
invariant-loop-at l =
    in_realms entry_repeat l.at (drop l.at l.realms) ≡ in_realms entry_repeat 0 l.realms

use Rattle.std.proofs.Common.{◌≡◌, drop}
use Rattle.dir_records.specs.Clashes.{overlaps, realm_sids}
use Rattle.dir_records.specs.Repeats.{first_repeat, repeat_after}
use Rattle.dir_records.proofs.duplicates.find_overlapping_sid.Given as goal

abbrev pub invariant-loop-at : goal.invariant-loop-at
invariant-loop-at l =
    repeat_after overlaps l.seen.items (realm_sids l.at (drop l.at l.realms)) ≡ first_repeat overlaps (realm_sids 0 l.realms)

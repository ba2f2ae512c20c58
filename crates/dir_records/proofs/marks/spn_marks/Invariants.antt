use Rattle.std.proofs.Common.{◌≡◌, ◌++◌, drop, map}
use Rattle.dir_records.specs.Marks.{marks_from, marks_of, now_of, spn_marks}
use Rattle.dir_records.proofs.marks.spn_marks.Given as goal

abbrev pub invariant-loop-at : goal.invariant-loop-at
invariant-loop-at l =
    map now_of l.marks.items ++ marks_from spn_marks l.at (drop l.at l.realms) ≡ marks_of spn_marks l.realms

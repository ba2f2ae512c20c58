use Rattle.std.proofs.Common.{◌≡◌, ◌++◌, drop, map}
use Rattle.dir_records.specs.Marks.{key_marks, marks_from, marks_of, now_of, spent_key_marks}
use Rattle.dir_records.proofs.marks.key_marks.Given as goal

abbrev pub invariant-loop-at : goal.invariant-loop-at
invariant-loop-at l =
    map now_of l.marks.items ++ marks_from key_marks l.at (drop l.at l.realms) ≡ spent_key_marks l.spent ++ marks_of key_marks l.realms

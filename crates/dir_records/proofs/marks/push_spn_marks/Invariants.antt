use Rattle.std.proofs.Common.{◌≡◌, ◌+◌, ◌++◌, drop, map}
use Rattle.dir_records.specs.Marks.{now_of, spn_marks, spn_marks_from}
use Rattle.dir_records.proofs.marks.push_spn_marks.Given as goal

abbrev pub invariant-loop-i : goal.invariant-loop-i
invariant-loop-i l =
    map now_of l.marks.items ++ spn_marks_from l.at (l.i + 1) (drop l.i l.realm.accounts) ≡ map now_of l.initial.marks.items ++ spn_marks l.at l.realm

use Rattle.std.proofs.Common.{◌≡◌, ◌++◌, drop}
use Rattle.dir_records.specs.Marks.{spent_number_marks}
use Rattle.dir_records.proofs.marks.spent_number_marks.Given as goal

abbrev pub invariant-loop-taken : goal.invariant-loop-taken
invariant-loop-taken l =
    l.marks.items ++ spent_number_marks (drop l.taken-index l.spent) l.realm ≡ spent_number_marks l.spent l.realm

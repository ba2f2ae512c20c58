use Rattle.std.proofs.Common.{◌≡◌, ◌++◌, drop, map}
use Rattle.dir_records.specs.Marks.{now_of, spent_key_marks}
use Rattle.dir_records.proofs.marks.spent_key_marks.Given as goal

abbrev pub invariant-loop-key : goal.invariant-loop-key
invariant-loop-key l =
    map now_of l.marks.items ++ spent_key_marks (drop l.key-index l.spent) ≡ spent_key_marks l.spent

use Rattle.std.proofs.Common.{◌≡◌, ◌+◌, ◌++◌, drop, map}
use Rattle.dir_records.specs.Marks.{account_marks, name_marks, now_of}
use Rattle.dir_records.proofs.marks.name_marks.Given as goal

abbrev pub invariant-loop-i : goal.invariant-loop-i
invariant-loop-i l =
    map now_of l.marks.items ++ account_marks (λ account. account.name) l.at (l.i + 1) (drop l.i l.realm.accounts) ≡ name_marks l.at l.realm

use Rattle.std.proofs.Common.{◌≡◌, ◌+◌, ◌++◌, drop}
use Rattle.dir_records.specs.Marks.{account_marks, number_marks, spent_number_marks}
use Rattle.dir_records.proofs.marks.number_marks.Given as goal

abbrev pub invariant-loop-i : goal.invariant-loop-i
invariant-loop-i l =
    l.marks.items ++ account_marks (λ account. account.number) l.at (l.i + 1) (drop l.i l.realm.accounts) ≡ spent_number_marks l.spent l.realm ++ number_marks l.at l.realm

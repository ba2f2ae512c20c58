use Rattle.std.proofs.Common.{◌≡◌, ◌++◌, drop, nat_eq}
use Rattle.dir_records.specs.Clashes.{in_realms}
use Rattle.dir_records.specs.Marks.{number_marks, spent_number_marks}
use Rattle.dir_records.specs.Repeats.{first_repeat}
use Rattle.dir_records.proofs.duplicates.find_repeated_account_number.Given as goal

abbrev pub invariant-loop-at : goal.invariant-loop-at
invariant-loop-at l =
    in_realms (λ at realm. first_repeat nat_eq (spent_number_marks l.spent realm ++ number_marks at realm)) l.at (drop l.at l.realms) ≡ in_realms (λ at realm. first_repeat nat_eq (spent_number_marks l.spent realm ++ number_marks at realm)) 0 l.realms

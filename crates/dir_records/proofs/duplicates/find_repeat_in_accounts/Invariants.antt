use Rattle.std.proofs.Common.{◌≡◌, ◌+◌, drop}
use Rattle.kdc_prelude.specs.Verdicts.{first_failing}
use Rattle.dir_records.specs.Clashes.{has_distinct_entries}
use Rattle.dir_records.specs.Marks.{account_marks}
use Rattle.dir_records.proofs.duplicates.find_repeat_in_accounts.Given as goal

abbrev pub invariant-loop-i : goal.invariant-loop-i
invariant-loop-i l =
    first_failing (account_marks has_distinct_entries l.at (l.i + 1) (drop l.i l.accounts)) ≡ first_failing (account_marks has_distinct_entries l.at 1 l.accounts)

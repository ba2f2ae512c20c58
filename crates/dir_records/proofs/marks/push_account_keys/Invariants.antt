use Rattle.std.proofs.Common.{◌≡◌, ◌+◌, ◌++◌, drop, map}
use Rattle.krb_names.specs.Keys.{key_bytes}
use Rattle.dir_records.specs.Marks.{account_marks, now_of}
use Rattle.dir_records.proofs.marks.push_account_keys.Given as goal

abbrev pub invariant-loop-i : goal.invariant-loop-i
invariant-loop-i l =
    map now_of l.marks.items ++ account_marks (λ account. key_bytes account.key.key) l.at (l.i + 1) (drop l.i l.accounts)
    ≡ map now_of l.initial.marks.items ++ account_marks (λ account. key_bytes account.key.key) l.at 1 l.accounts

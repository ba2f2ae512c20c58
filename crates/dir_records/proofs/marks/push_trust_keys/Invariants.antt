use Rattle.std.proofs.Common.{◌≡◌, ◌+◌, ◌++◌, drop, map}
use Rattle.krb_names.specs.Keys.{key_bytes}
use Rattle.dir_records.specs.Marks.{now_of, trust_marks}
use Rattle.dir_records.proofs.marks.push_trust_keys.Given as goal

abbrev pub invariant-loop-i : goal.invariant-loop-i
invariant-loop-i l =
    map now_of l.marks.items ++ trust_marks (λ trust. key_bytes trust.key.key) l.at (l.i + 1) (drop l.i l.trusts)
    ≡ map now_of l.initial.marks.items ++ trust_marks (λ trust. key_bytes trust.key.key) l.at 1 l.trusts

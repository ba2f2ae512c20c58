use Rattle.std.proofs.Common.{◌≡◌, ◌+◌, ◌++◌, drop, map}
use Rattle.dir_records.specs.Marks.{now_of, partner_marks, trust_marks}
use Rattle.dir_records.proofs.marks.partner_marks.Given as goal

abbrev pub invariant-loop-i : goal.invariant-loop-i
invariant-loop-i l =
    map now_of l.marks.items ++ trust_marks (λ trust. trust.partner) l.at (l.i + 1) (drop l.i l.realm.trusts) ≡ partner_marks l.at l.realm

use Rattle.std.proofs.Common.{◌≡◌, ◌++◌, drop, map}
use Rattle.dir_records.specs.Marks.{now_of}
use Rattle.dir_records.proofs.marks.push_spns.Given as goal

abbrev pub invariant-loop-spn : goal.invariant-loop-spn
invariant-loop-spn l =
    map now_of l.marks.items ++ map (λ spn. (l.place, spn)) (drop l.spn-index l.account.spns) ≡ map now_of l.initial.marks.items ++ map (λ spn. (l.place, spn)) l.account.spns

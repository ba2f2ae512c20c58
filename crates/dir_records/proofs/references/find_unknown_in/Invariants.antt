use Rattle.std.proofs.Common.{◌≡◌, ◌+◌, drop}
use Rattle.kdc_prelude.specs.Verdicts.{first_failing}
use Rattle.dir_records.specs.Clashes.{has_references}
use Rattle.dir_records.specs.Marks.{trust_marks}
use Rattle.dir_records.proofs.references.find_unknown_in.Given as goal

abbrev pub invariant-loop-i : goal.invariant-loop-i
invariant-loop-i l =
    first_failing (trust_marks (has_references l.realms l.realm) l.at (l.i + 1) (drop l.i l.trusts)) ≡ first_failing (trust_marks (has_references l.realms l.realm) l.at 1 l.trusts)

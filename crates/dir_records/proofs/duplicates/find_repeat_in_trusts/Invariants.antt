use Rattle.std.proofs.Common.{◌≡◌, ◌+◌, drop}
use Rattle.kdc_prelude.specs.Distinct.{all_distinct}
use Rattle.kdc_prelude.specs.Texts.{same_text}
use Rattle.kdc_prelude.specs.Verdicts.{first_failing}
use Rattle.dir_records.specs.Marks.{trust_marks}
use Rattle.dir_records.proofs.duplicates.find_repeat_in_trusts.Given as goal

abbrev pub invariant-loop-i : goal.invariant-loop-i
invariant-loop-i l =
    first_failing (trust_marks (λ trust. all_distinct same_text trust.reach) l.at (l.i + 1) (drop l.i l.trusts)) ≡ first_failing (trust_marks (λ trust. all_distinct same_text trust.reach) l.at 1 l.trusts)

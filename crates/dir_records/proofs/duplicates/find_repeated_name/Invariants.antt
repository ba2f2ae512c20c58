use Rattle.std.proofs.Common.{◌≡◌, drop}
use Rattle.kdc_prelude.specs.Texts.{same_text}
use Rattle.dir_records.specs.Clashes.{in_realms}
use Rattle.dir_records.specs.Marks.{name_marks}
use Rattle.dir_records.specs.Repeats.{first_repeat}
use Rattle.dir_records.proofs.duplicates.find_repeated_name.Given as goal

abbrev pub invariant-loop-at : goal.invariant-loop-at
invariant-loop-at l =
    in_realms (λ at realm. first_repeat same_text (name_marks at realm)) l.at (drop l.at l.realms) ≡ in_realms (λ at realm. first_repeat same_text (name_marks at realm)) 0 l.realms

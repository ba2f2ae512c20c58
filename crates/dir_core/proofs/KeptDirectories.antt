-- A change that is allowed makes a directory of one.
use Rattle.std.proofs.Common.{◌≡◌, refl, subst}
use Rattle.std.specs.Prelude.{None, Ok, Option, Result, Some}
use Rattle.kdc_prelude.proofs.Verdicts.{neither}
use Rattle.kdc_prelude.specs.Results.{unless_refused}
use Rattle.kdc_prelude.specs.Verdicts.{first_failing}
use Rattle.dir_records.specs.declared.change.Change.{Change}
use Rattle.dir_records.specs.declared.refusal.DirCause.{DirCause}
use Rattle.dir_records.specs.Changes.{IsChangeInRange}
use Rattle.dir_records.specs.DirectoryValue.{DirectoryValue}
use Rattle.dir_records.specs.IsDirectory.{IsDirectory}
use Rattle.dir_records.specs.WellFormed.{kept_rows}
use Rattle.dir_records.proofs.Consistent.{kept_consistent}
use Rattle.dir_core.specs.Changed.{change_cause, changed, own_rows}
use Rattle.dir_core.specs.Edits.{edited}
use Rattle.dir_core.proofs.EditedRanges.{edited_in_range}

ok_same : {X E : Type 0} (x y : X) (r : Result X E) → r ≡ Ok x → r ≡ Ok y → x ≡ y
ok_same x y r h k = cc

-- what is not refused is what was made
pub made : (cause : Option DirCause) (dir after : DirectoryValue) → unless_refused cause dir ≡ Ok after → (cause ≡ None) × (dir ≡ after)
made None dir after h = (refl, ok_same dir after (unless_refused {E = DirCause} None dir) refl h)
made (Some cause) dir after h = absurd (cc)

pub changed_keeps : (dir after : DirectoryValue) (change : Change) → IsDirectory dir → IsChangeInRange change → changed dir change ≡ Ok after → IsDirectory after
unfolding changed
changed_keeps dir after change h v e =
    let is = made (change_cause dir change) (edited dir change) after e in
    let kept = (neither (first_failing (own_rows dir change)) (first_failing (kept_rows (edited dir change))) is.0).1 in
    subst IsDirectory is.1 (record { consistent = kept_consistent (edited dir change) kept; in_range = edited_in_range dir change h.in_range v })

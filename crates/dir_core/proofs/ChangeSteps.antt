-- What a change makes of a directory, and the contents after it, for proofs that do not open them further.
use Rattle.std.proofs.Common.{◌≡◌, ◌++◌, ap, map, refl, sym}
use Rattle.std.specs.Prelude.{None, Ok, Err, Some, option_and_then}
use Rattle.std.specs.Option.{option_to_list}
use Rattle.kdc_prelude.specs.Results.{unless_refused}
use Rattle.kdc_prelude.specs.Verdicts.{first_failing, ◌or_else◌}
use Rattle.dir_records.specs.declared.change.Change.{Change}
use Rattle.dir_records.specs.declared.refusal.DirCause.{DirCause}
use Rattle.dir_records.specs.DirectoryValue.{DirectoryValue}
use Rattle.dir_records.specs.WellFormed.{kept_rows}
use Rattle.dir_core.specs.Changed.{change_cause, changed, own_rows}
use Rattle.dir_core.specs.Edits.{changed_account, edited, key_taken, number_taken, realm_after}
use Rattle.dir_core.proofs.KeptDirectories.{made}

pub changed_ok : (dir : DirectoryValue) (change : Change) → change_cause dir change ≡ None → changed dir change ≡ Ok (edited dir change)
unfolding changed
changed_ok dir change h = ap (λ cause. unless_refused cause (edited dir change)) h

pub changed_err : (dir : DirectoryValue) (change : Change) (cause : DirCause) → change_cause dir change ≡ Some cause → changed dir change ≡ Err cause
unfolding changed
changed_err dir change cause h = ap (λ found. unless_refused found (edited dir change)) h

pub changed_own : (dir : DirectoryValue) (change : Change) (cause : DirCause) → first_failing (own_rows dir change) ≡ Some cause → changed dir change ≡ Err cause
unfolding changed
changed_own dir change cause h = ap (λ own. unless_refused (own or_else first_failing (kept_rows (edited dir change))) (edited dir change)) h

pub changed_only : (dir after : DirectoryValue) (change : Change) → changed dir change ≡ Ok after → (change_cause dir change ≡ None) × (after ≡ edited dir change)
unfolding changed
changed_only dir after change h =
    let is = made (change_cause dir change) (edited dir change) after h in
    (is.0, sym is.1)

pub realms_after : (dir : DirectoryValue) (change : Change) → (edited dir change).realms ≡ map (realm_after change) dir.realms
unfolding edited
realms_after dir change = refl

pub keys_after : (dir : DirectoryValue) (change : Change)
    → (edited dir change).spent_keys ≡ dir.spent_keys ++ option_to_list (option_and_then (key_taken change) (changed_account dir change))
unfolding edited
keys_after dir change = refl

pub numbers_after : (dir : DirectoryValue) (change : Change)
    → (edited dir change).spent_numbers ≡ dir.spent_numbers ++ option_to_list (option_and_then (number_taken change) (changed_account dir change))
unfolding edited
numbers_after dir change = refl

-- Lemmas on calls of a caller that failed.
use Rattle.std.proofs.Common.{◌≤◌, ℕ, List, refl, arith}
use Rattle.std.specs.Prelude.{Option, None, Some, Err, IfSome, option_map}
use Rattle.kdc_prelude.specs.Causes.{HasCause}
use Rattle.kb_base.specs.Callers.{CallerValue, CallersValue, CurrentReads, CurrentWrites, ReadsCaller, WritesCaller, failed_callers, failed_once}
use Rattle.kb_base.specs.Counts.{one_more}
use Rattle.kb_base.specs.Faults.{HasDeviceCause}
use Rattle.kb_base.specs.declared.fault.DeviceFault.TheVariants.{Failed as failed}
use Rattle.kb_base.specs.declared.fault.Failed.{Failed}

-- a count that has room, or stands at its end
abbrev pub CanRise : CallerValue → Type 0
CanRise caller = caller.faults ≤ one_more caller.faults

pub failed_count : (faults : ℕ) (fault : Failed) → faults ≤ one_more faults → HasCause {T = ℕ} faults (one_more faults) (Err fault)
failed_count faults fault later = record { later = later; failed = omega arith; kept = tt }

pub failed_device_count : (faults : ℕ) → faults ≤ one_more faults → HasDeviceCause {T = ℕ} faults (one_more faults) (Err failed)
failed_device_count faults later = record { later = later; failed = omega arith }

current_reads : (caller : Option CallerValue) (buf : List ℕ) (fault : Failed) → IfSome caller CanRise → CurrentReads caller (option_map failed_once caller) (Err fault) buf
current_reads None buf fault later = tt
current_reads (Some caller) buf fault later = record { bytes = refl; sent = refl; cause = failed_count caller.faults fault later }

pub failed_reads : (old : CallersValue) (buf : List ℕ) (fault : Failed) → IfSome old.current CanRise → ReadsCaller (Some old) (Some (failed_callers old)) (Err fault) buf
failed_reads old buf fault later = (refl, current_reads old.current buf fault later)

current_writes : (caller : Option CallerValue) (piece : List ℕ) → IfSome caller CanRise → CurrentWrites caller (option_map failed_once caller) (Err failed) piece
current_writes None piece later = refl
current_writes (Some caller) piece later = record { bytes = refl; left = refl; cause = failed_device_count caller.faults later }

pub failed_writes : (old : CallersValue) (piece : List ℕ) → IfSome old.current CanRise → WritesCaller (Some old) (Some (failed_callers old)) (Err failed) piece
failed_writes old piece later = (refl, current_writes old.current piece later)

-- Why a command ended early, and what its status is then (own choice).
use Rattle.std.specs.Prelude.{ℕ, Result, Ok, Err}
use Rattle.kb_base.specs.declared.fault.DeviceFault.{DeviceFault}
use Rattle.kb_base.specs.declared.fault.DeviceFault.TheVariants as faults
use Rattle.kdc_run.specs.declared.served.RunFault.{RunFault}
use Rattle.kdc_run.specs.declared.served.Served.{Served}
use Rattle.kdc_run.specs.declared.served.RunFault.TheVariants as runs
use Rattle.kdc_commands.specs.declared.stop.Stop.{Stop}
use Rattle.kdc_commands.specs.declared.stop.Stop.TheVariants.{NoMemory, Reading, Accepting}

-- of a device that is read
abbrev pub stop_of : DeviceFault → Stop
stop_of faults.Failed = Reading
stop_of faults.NoMemory = NoMemory

abbrev pub status_of : Stop → ℕ
status_of NoMemory = 3
status_of Reading = 5
status_of Accepting = 9

-- of a fault of a run over callers
abbrev pub fault_status : RunFault → ℕ
fault_status runs.NoMemory = 3
fault_status runs.Out = 6
fault_status runs.Entropy = 7
fault_status runs.Changes = 8
fault_status runs.Door = 9

-- the status of a run over callers
abbrev pub run_status : Result Served RunFault → ℕ
run_status (Ok served) = 0
run_status (Err fault) = fault_status fault

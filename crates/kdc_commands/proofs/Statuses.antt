-- Faults that any job may tell.
use Rattle.std.proofs.Common.{◌≡◌, refl}
use Rattle.std.specs.Prelude.{Option, None, Some, true}
use Rattle.kdc_commands.specs.Runs.{is_job_status, is_task_status}
use Rattle.kdc_commands.specs.Stops.{status_of}
use Rattle.kdc_commands.specs.declared.stop.Stop.{Stop}
use Rattle.kdc_commands.specs.declared.stop.Stop.TheVariants.{NoMemory, Reading, Accepting}
use Rattle.kdc_commands.specs.declared.words.Job.{Job}
use Rattle.kdc_commands.specs.declared.words.Job.TheVariants.{Over, Derive}
use Rattle.kdc_commands.specs.declared.words.Task.{Task}
use Rattle.kdc_commands.specs.declared.words.Task.TheVariants.{Ask, Explain}

-- want of memory
pub wants_memory : (job : Option Job) → is_job_status job 3 ≡ true
wants_memory None = refl
wants_memory (Some (Over Ask)) = refl
wants_memory (Some (Over Explain)) = refl
wants_memory (Some (Derive from)) = refl

-- a fault of writing
pub fails_to_write : (job : Option Job) → is_job_status job 6 ≡ true
fails_to_write None = refl
fails_to_write (Some (Over Ask)) = refl
fails_to_write (Some (Over Explain)) = refl
fails_to_write (Some (Derive from)) = refl

-- whatever ended a task early
pub stops_of_tasks : (task : Task) (stop : Stop) → is_task_status task (status_of stop) ≡ true
stops_of_tasks Ask NoMemory = refl
stops_of_tasks Ask Reading = refl
stops_of_tasks Ask Accepting = refl
stops_of_tasks Explain NoMemory = refl
stops_of_tasks Explain Reading = refl
stops_of_tasks Explain Accepting = refl

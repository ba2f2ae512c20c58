-- What the program prints, and its status.
use Rattle.std.specs.Prelude.{◌≡◌, ◌⊎◌, IfSome, IsErr, IsOk, ℕ, ◌==◌, ◌||◌, Bool, true, false, nat_lt, List, [], ◌∷◌, ◌++◌, length, codes, if◌then◌else◌, Option, None, Some, Result, Ok, Err}
use Rattle.std.specs.List.{list_any}
use Rattle.std.specs.Io.KnownBytes.{Appends}
use Rattle.kdc_prelude.specs.Printed.{AppendsFront}
use Rattle.dir_records.specs.DirectoryValue.{DirectoryValue}
use Rattle.kdc_records.specs.RuleNames.{name_of}
use Rattle.dir_records.specs.declared.refusal.DirRefusal.{DirRefusal}
use Rattle.dir_text.specs.DirectoryText.{directory_of}
use Rattle.ticket_explain.specs.Explained.{denied, explained}
use Rattle.ticket_explain.specs.declared.fault.ExplainFault.{ExplainFault}
use Rattle.ticket_explain.specs.declared.fault.ExplainFault.TheVariants.{Deny, NoMemory}
use Rattle.kdc_commands.specs.Derived.{key_line}
use Rattle.kdc_commands.specs.Outcomes.{Outcome, answered, is_fault, one_line}
use Rattle.kdc_commands.specs.Questions.{questions}
use Rattle.kdc_commands.specs.Refusals.{refusal_text}
use Rattle.kdc_commands.specs.declared.words.Command.{Command}
use Rattle.kdc_commands.specs.declared.words.Command.TheVariants.{Print, Serve}
use Rattle.kdc_commands.specs.declared.words.Job.{Job}
use Rattle.kdc_commands.specs.declared.words.Job.TheVariants.{Over, Derive}
use Rattle.kdc_commands.specs.declared.words.Task.{Task}
use Rattle.kdc_commands.specs.declared.words.Task.TheVariants.{Ask, Explain}

-- what is told of a ticket, or the rule that refuses it
abbrev pub told : Result (List ℕ) ExplainFault → Outcome
told (Ok text) = answered text
told (Err (Deny rule)) = one_line 10 (codes "refused " ++ name_of rule)
told (Err NoMemory) = record { status = 3; text = [] }

-- the answers to the lines, or what is told of the ticket
abbrev pub with_task : Task → DirectoryValue → List ℕ → Outcome
with_task Ask dir input = answered (questions dir input)
with_task Explain dir input = told (denied (explained dir input))

-- an input has at most 1,048,576 bytes
abbrev pub with_input : Task → DirectoryValue → List ℕ → Outcome
with_input job dir input = if nat_lt 1048576 (length input) then one_line 14 (codes "input too long") else with_task job dir input

-- over a directory, where the input is told or does not count
abbrev pub over_directory : Task → Result DirectoryValue DirRefusal → Option (List ℕ) → Option Outcome
over_directory job (Err refusal) input = Some (one_line 4 (refusal_text refusal))
over_directory job (Ok dir) None = None
over_directory job (Ok dir) (Some input) = Some (with_input job dir input)

abbrev pub outcome_over : Task → Option (List ℕ) → Option (List ℕ) → Option Outcome
outcome_over job None input = None
outcome_over job (Some text) input = over_directory job (directory_of text) input

-- the outcome of a job in which no device fails and no memory is wanted, by the text of the directory and the input, where what
-- is told of these determines it; without a job the words are bad
abbrev pub job_outcome : Option Job → Option (List ℕ) → Option (List ℕ) → Option Outcome
job_outcome None text input = Some (one_line 2 (codes "bad words"))
job_outcome (Some (Over task)) text input = outcome_over task text input
job_outcome (Some (Derive from)) text input = Some (one_line 0 (key_line from))

-- the outcome of serving over a directory that is refused
abbrev pub refused_reading : Result DirectoryValue DirRefusal → Option Outcome
refused_reading (Err refusal) = Some (one_line 4 (refusal_text refusal))
refused_reading (Ok dir) = None

abbrev pub refused_outcome : Option (List ℕ) → Option Outcome
refused_outcome None = None
refused_outcome (Some text) = refused_reading (directory_of text)

-- the outcome of a run, by its command
abbrev pub outcome_by : Option Command → Option (List ℕ) → Option (List ℕ) → Option Outcome
outcome_by None text input = job_outcome None text input
outcome_by (Some (Print job)) text input = job_outcome (Some job) text input
outcome_by (Some (Serve callers)) text input = refused_outcome text

-- the statuses that a task may have, whatever the devices tell
abbrev pub is_task_status : Task → ℕ → Bool
is_task_status Ask status = list_any (λ known. known == status) (0 ∷ 3 ∷ 4 ∷ 5 ∷ 6 ∷ 9 ∷ 14 ∷ [])
is_task_status Explain status = list_any (λ known. known == status) (0 ∷ 3 ∷ 4 ∷ 5 ∷ 6 ∷ 9 ∷ 10 ∷ 14 ∷ [])

-- the statuses that a job may have, whatever the devices tell: with bad words 2 or a fault but that of reading
abbrev pub is_job_status : Option Job → ℕ → Bool
is_job_status None status = list_any (λ known. known == status) (2 ∷ 3 ∷ 6 ∷ [])
is_job_status (Some (Over task)) status = is_task_status task status
is_job_status (Some (Derive from)) status = list_any (λ known. known == status) (0 ∷ 3 ∷ 6 ∷ [])

-- those that a run may have
abbrev pub is_status : Option Command → ℕ → Bool
is_status None status = is_job_status None status
is_status (Some (Print job)) status = is_job_status (Some job) status
is_status (Some (Serve callers)) status = list_any (λ known. known == status) (0 ∷ 3 ∷ 4 ∷ 5 ∷ 6 ∷ 7 ∷ 8 ∷ 9 ∷ [])

-- callers are served
abbrev pub is_serving : Option Command → Bool
is_serving None = false
is_serving (Some (Print job)) = false
is_serving (Some (Serve callers)) = true

-- the directory's text, as far as it is told, is refused
abbrev pub DirectoryRefused : Option (List ℕ) → Type 0
DirectoryRefused text = IfSome text (λ told. IsErr (directory_of told))

-- reading failed: of the directory, or of the input where the directory, as far as its text is told, is not refused
abbrev pub ReadingFailed : Option (List ℕ) → Type 0 → Type 0 → Type 0
ReadingFailed text dir input = dir ⊎ (input × IfSome text (λ told. IsOk (directory_of told)))

-- what the fault of reading comes from: where callers are served, the directory alone
abbrev pub FailsToRead : Bool → Option (List ℕ) → Type 0 → Type 0 → Type 0
FailsToRead true text dir input = dir
FailsToRead false text dir input = ReadingFailed text dir input

-- no caller can be accepted: the directory, as far as its text is told, is not refused
abbrev pub AcceptingFailed : Option (List ℕ) → Type 0 → Type 0
AcceptingFailed text rose = rose × IfSome text (λ told. IsOk (directory_of told))

-- the outcome is printed whole and told, or a front of it is printed and a fault told; nothing is printed where reading
-- failed
pub record Prints (old new : Option (List ℕ)) (status : ℕ) (outcome : Outcome) : Type 0 where
  pub whole : is_fault status ≡ false → (status ≡ outcome.status) × Appends old new outcome.text
  pub front : is_fault status ≡ true → AppendsFront old new outcome.text
  pub nothing : (status == 5 || status == 9) ≡ true → Appends old new []

-- What becomes of the devices of a run.
use Rattle.std.specs.Prelude.{◌≡◌, ◌⊎◌, ℕ, ◌==◌, ◌||◌, true, List, Option, None, Some, IfSome, Result, Ok, Err}
use Rattle.dir_records.specs.DirectoryValue.{DirectoryValue}
use Rattle.dir_records.specs.declared.refusal.DirRefusal.{DirRefusal}
use Rattle.dir_text.specs.DirectoryText.{directory_of}
use Rattle.kb_base.specs.Blocks.{BlocksValue}
use Rattle.kb_base.specs.Callers.{CallersValue}
use Rattle.krb_names.specs.declared.moment.Moment.{Moment}
use Rattle.kdc_run.specs.Chained.{HasChains}
use Rattle.kdc_run.specs.Runs.{RunsOver}
use Rattle.kdc_run.specs.Worlds.{Known, World, world}
use Rattle.kdc_run.specs.declared.served.RunFault.{RunFault}
use Rattle.kdc_run.specs.declared.served.Served.{Served}
use Rattle.kdc_commands.specs.Inputs.{SendsNothing}
use Rattle.kdc_commands.specs.Outcomes.{one_line}
use Rattle.kdc_commands.specs.Refusals.{refusal_text}
use Rattle.kdc_commands.specs.Runs.{Prints}
use Rattle.kdc_commands.specs.Stops.{run_status}
use Rattle.kdc_commands.specs.declared.words.Command.{Command}
use Rattle.kdc_commands.specs.declared.words.Command.TheVariants.{Print, Serve}

-- what the devices tell: the callers, the batches of changes, the moments, the blocks of random octets, and what was printed
pub record Devices : Type 0 where
  pub callers : Option CallersValue
  pub batches : Option (List (List ℕ))
  pub moments : Option (List Moment)
  pub blocks : Option BlocksValue
  pub held : Option (List ℕ)

abbrev pub devices : Option CallersValue → Option (List (List ℕ)) → Option (List Moment) → Option BlocksValue → Option (List ℕ) → Devices
devices callers batches moments blocks held = record { callers = callers; batches = batches; moments = moments; blocks = blocks; held = held }

-- as a run of `serve` sees them, with a directory
abbrev pub world_of : Devices → DirectoryValue → Option World
world_of told directory = world told.callers told.batches told.moments told.blocks directory told.held

-- memory was wanted, or reading the directory failed, before callers were served: nothing moved
pub record IsStopped (status : ℕ) (old new : Devices) : Type 0 where
  pub fault : (status == 3 || status == 5) ≡ true
  pub unmoved : new ≡ old

-- the directory's text is refused, and this is printed, or a front of it at a fault: nothing else moved
pub record IsRefused (text : Option (List ℕ)) (status : ℕ) (old new : Devices) : Type 0 where
  pub refusal : DirRefusal
  pub refused : IfSome text (λ told. directory_of told ≡ Err refusal)
  pub status_so : (status == 3 || status == 4 || status == 6) ≡ true
  pub printed : Prints old.held new.held status (one_line 4 (refusal_text refusal))
  pub unmoved : new ≡ record old { held = new.held }

-- so many callers were served over the directory of the text, with an outcome that the status tells; and the run's history is chained
pub record IsRunOver (callers : ℕ) (text : Option (List ℕ)) (status : ℕ) (old new : Devices) : Type 0 where
  pub first : DirectoryValue
  pub last : DirectoryValue
  pub outcome : Result Served RunFault
  pub reads : IfSome text (λ told. directory_of told ≡ Ok first)
  pub status_so : status ≡ run_status outcome
  pub run : Known (RunsOver callers outcome) (world_of old first) (world_of new last)
  pub chains : IfSome (world_of old first) HasChains

-- what serving does, whatever its status
abbrev pub Serves : ℕ → Option (List ℕ) → ℕ → Devices → Devices → Type 0
Serves callers text status old new = IsStopped status old new ⊎ (IsRefused text status old new ⊎ IsRunOver callers text status old new)

-- at most an input was read of the next caller: no caller was sent anything, and nothing moved but the callers and what is printed
pub record OnlyListens (old new : Devices) : Type 0 where
  pub unsent : SendsNothing old.callers new.callers
  pub unmoved : new ≡ record old { callers = new.callers; held = new.held }

-- what becomes of the devices, by the command
abbrev pub Uses : Option Command → Option (List ℕ) → ℕ → Devices → Devices → Type 0
Uses None text status old new = OnlyListens old new
Uses (Some (Print job)) text status old new = OnlyListens old new
Uses (Some (Serve callers)) text status old new = Serves callers text status old new

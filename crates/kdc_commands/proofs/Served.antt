-- What is served over the directory of a text.
use Rattle.std.proofs.Common.{◌≡◌, ◌∙◌, ℕ, List, inr, refl, sym}
use Rattle.std.specs.Prelude.{Option, None, Some, IfSome, Result, Ok}
use Rattle.dir_records.specs.DirectoryValue.{DirectoryValue}
use Rattle.dir_records.specs.declared.refusal.DirRefusal.{DirRefusal}
use Rattle.dir_text.specs.DirectoryText.{directory_of}
use Rattle.kdc_run.specs.Chained.{HasChains}
use Rattle.kdc_run.specs.Runs.{RunsOver}
use Rattle.kdc_run.specs.Worlds.{Known}
use Rattle.kdc_run.specs.declared.served.RunFault.{RunFault}
use Rattle.kdc_run.specs.declared.served.Served.{Served}
use Rattle.kdc_commands.specs.Devices.{Devices, Serves, world_of}
use Rattle.kdc_commands.specs.Loading.{reading_of}
use Rattle.kdc_commands.specs.Stops.{run_status}
use Rattle.kdc_commands.specs.declared.load.Loaded.{Loaded}
use Rattle.kdc_commands.specs.declared.load.Loaded.TheVariants.{Directory}

-- what was loaded is the reading of the text
loaded_so : (left : Option (List ℕ)) (loaded : Loaded) (reading : Result DirectoryValue DirRefusal) → reading_of loaded ≡ reading
    → IfSome left (λ text. reading_of loaded ≡ directory_of text) → IfSome left (λ text. directory_of text ≡ reading)
loaded_so None loaded reading e h = tt
loaded_so (Some text) loaded reading e h = sym h ∙ e

pub ran : (callers : ℕ) (left : Option (List ℕ)) (loaded : Loaded) (first last : DirectoryValue) (outcome : Result Served RunFault) (old new : Devices) → loaded ≡ Directory first
    → IfSome left (λ text. reading_of loaded ≡ directory_of text) → (status : ℕ) → status ≡ run_status outcome → Known (RunsOver callers outcome) (world_of old first) (world_of new last)
    → IfSome (world_of old first) HasChains → Serves callers left status old new
ran callers left loaded first last outcome old new is reads status e run chains =
    inr (inr (record { first = first; last = last; outcome = outcome; reads = loaded_so left loaded (Ok first) (rw is refl) reads; status_so = e; run = run; chains = chains }))

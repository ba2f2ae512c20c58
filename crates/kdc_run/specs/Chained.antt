-- What holds of the history of a run: each entry has its chain.
use Rattle.std.specs.Prelude.{ℕ, List, IfSome, Option}
use Rattle.dir_records.specs.DirectoryValue.{DirectoryValue}
use Rattle.kb_base.specs.Blocks.{BlocksValue}
use Rattle.kb_base.specs.Callers.{CallersValue}
use Rattle.krb_names.specs.declared.moment.Moment.{Moment}
use Rattle.kdc_frames.specs.Exchanges.{history_of}
use Rattle.kdc_frames.specs.Requests.{Taken}
use Rattle.history_laws.specs.Runs.{AreBlocks, AreChained, AreOctets}
use Rattle.kdc_run.specs.Worlds.{World, world}

-- whatever is taken of whichever callers, so also where the run ends at a fault, its history is chained: where the listed blocks of random
-- octets are blocks, and the callers' bytes are octets
abbrev pub HasChains : World → Type 0
HasChains told = AreBlocks told.inputs.blocks.list → (callers : List Taken) → AreOctets callers → AreChained (history_of told.inputs callers)

-- so are the histories of all runs that begin with this directory
abbrev pub KeepsChains : DirectoryValue → Type 0
KeepsChains directory = (callers : Option CallersValue) (batches : Option (List (List ℕ))) (moments : Option (List Moment)) (blocks : Option BlocksValue) (held : Option (List ℕ))
    → IfSome (world callers batches moments blocks directory held) HasChains

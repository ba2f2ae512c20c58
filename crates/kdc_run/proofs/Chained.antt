-- The history of a run is chained.
use Rattle.std.specs.Prelude.{None, Some}
use Rattle.dir_records.specs.DirectoryValue.{DirectoryValue}
use Rattle.dir_records.specs.IsDirectory.{IsDirectory}
use Rattle.history_laws.specs.Runs.{RunLaw}
use Rattle.kdc_run.specs.Chained.{KeepsChains}

pub chained : RunLaw → (directory : DirectoryValue) → IsDirectory directory → KeepsChains directory
chained law directory is None batches moments blocks held = tt
chained law directory is (Some callers) None moments blocks held = tt
chained law directory is (Some callers) (Some batches) None blocks held = tt
chained law directory is (Some callers) (Some batches) (Some moments) None held = tt
chained law directory is (Some callers) (Some batches) (Some moments) (Some blocks) held =
    λ blocks_are came octets.
    law (record { directory = directory; batches = batches; moments = moments; blocks = blocks }) came (record { directory_is = is; blocks_are = blocks_are }) octets

use Rattle.dir_core.proofs.KeptDirectories.{changed_keeps}
use Rattle.dir_core.proofs.laws.changes_keep_directories.Goals as goal

pub returns : goal.returns
returns c = changed_keeps

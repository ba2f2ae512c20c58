use Rattle.change_lines.proofs.KeptDirectories.{after_keeps}
use Rattle.change_lines.proofs.laws.batches_keep_directories.Goals as goal

pub returns : goal.returns
returns c = after_keeps

use Rattle.dir_records.proofs.Consistent.{is_consistent}
use Rattle.dir_core.proofs.directory.Directory.keeps_directory.Goals as goal

pub returns : goal.returns
returns c =
    rw (← c.self.view_is) (record { consistent = is_consistent c.self.inside.contents c.self.invariant.0; in_range = c.keeps_range.ensures })

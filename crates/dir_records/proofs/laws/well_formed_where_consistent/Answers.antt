use Rattle.dir_records.proofs.Consistent.{consistent_passes, is_consistent}
use Rattle.dir_records.proofs.laws.well_formed_where_consistent.Goals as goal

pub returns-clause-ok : goal.returns-clause-ok
returns-clause-ok c = is_consistent

pub returns-clause-only : goal.returns-clause-only
returns-clause-only c = consistent_passes

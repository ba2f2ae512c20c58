use Rattle.std.proofs.Common.{arith}
use Rattle.dir_records.proofs.Bounds.{well_bounded}
use Rattle.dir_core.proofs.directory.Directory.realm_count.Goals as goal

pub overflow_cast-result : goal.overflow_cast-result
overflow_cast-result c = let few = (well_bounded c.self.inside.contents c.self.invariant.0).few in omega arith

pub returns-clause-few : goal.returns-clause-few
returns-clause-few c = let few = (well_bounded c.self.inside.contents c.self.invariant.0).few in omega arith

pub returns-clause-well : goal.returns-clause-well
returns-clause-well c = let well = c.self.invariant.0 in rw c.self.view_is at well

use Rattle.dir_core.proofs.OnlyLimits.{only_limits}
use Rattle.dir_core.proofs.laws.only_limits_are_left.Goals as goal

pub returns : goal.returns
returns c = only_limits

use Rattle.service_end.proofs.Repeats.{nothing_repeats}
use Rattle.service_end.proofs.laws.nothing_repeats.Goals as goal

pub returns : goal.returns
returns c = nothing_repeats

use Rattle.std.proofs.Common.{length}
use Rattle.der_core.proofs.integer.+shortest.Given as goal

abbrev pub decreases-shortest : goal.decreases-shortest
decreases-shortest l = length l.bytes.now

use Rattle.std.proofs.Common.{length}
use Rattle.route_rules.proofs.services.+put_joined.Given as goal

abbrev pub decreases-put_joined : goal.decreases-put_joined
decreases-put_joined l = length l.parts.now

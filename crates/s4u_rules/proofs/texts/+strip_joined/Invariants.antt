use Rattle.std.proofs.Common.{length}
use Rattle.s4u_rules.proofs.texts.+strip_joined.Given as goal

abbrev pub decreases-strip_joined : goal.decreases-strip_joined
decreases-strip_joined l = length l.parts.now

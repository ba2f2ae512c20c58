use Rattle.std.proofs.Common.{arith}
use Rattle.tgs_requests.proofs.AuthTimes.{micros_few, secs_few}
use Rattle.service_end.proofs.times.made_at.Goals as goal

pub invariant_of-result-clause-in_range : goal.invariant_of-result-clause-in_range
invariant_of-result-clause-in_range c = let few = secs_few c.args.auth.now c.requires in omega (arith, few)

pub invariant_of-result-clause-in_second : goal.invariant_of-result-clause-in_second
invariant_of-result-clause-in_second c = let few = micros_few c.args.auth.now c.requires in omega (arith, few)

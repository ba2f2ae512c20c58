use Rattle.proxy_rules.proofs.Delegations.{few_services, short_requestor, short_target}
use Rattle.proxy_rules.proofs.law.delegations_can_be_written.Goals as goal

pub returns : goal.returns
returns c = record { few = few_services; target = short_target; requestor = short_requestor }

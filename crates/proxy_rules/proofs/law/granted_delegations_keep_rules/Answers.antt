use Rattle.proxy_rules.proofs.Grants.{granted}
use Rattle.proxy_rules.proofs.law.granted_delegations_keep_rules.Goals as goal

pub returns : goal.returns
returns c = record { granted = granted }

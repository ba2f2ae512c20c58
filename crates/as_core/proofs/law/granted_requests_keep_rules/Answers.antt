use Rattle.as_core.proofs.Grants.{granted}
use Rattle.as_core.proofs.law.granted_requests_keep_rules.Goals as goal

pub returns : goal.returns
returns c = record { granted = granted }

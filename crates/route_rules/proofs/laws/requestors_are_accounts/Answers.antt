use Rattle.route_rules.proofs.Requestors.{requestor_is, requestor_placed}
use Rattle.route_rules.proofs.laws.requestors_are_accounts.Goals as goal

pub returns-clause-place : goal.returns-clause-place
returns-clause-place c = requestor_placed

pub returns-clause-account : goal.returns-clause-account
returns-clause-account c = requestor_is

use Rattle.s4u_rules.proofs.Grants.{header_known, ordinary_known, self_known}
use Rattle.s4u_rules.proofs.laws.granted_tickets_keep_rules.Goals as goal

pub returns-clause-header : goal.returns-clause-header
returns-clause-header c = header_known

pub returns-clause-ordinary : goal.returns-clause-ordinary
returns-clause-ordinary c = ordinary_known

pub returns-clause-self_ticket : goal.returns-clause-self_ticket
returns-clause-self_ticket c = self_known

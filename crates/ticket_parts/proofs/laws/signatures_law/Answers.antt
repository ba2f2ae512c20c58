use Rattle.ticket_parts.proofs.ToldAgain.{all_verified, pac_in_part, server_verified, ticket_covers}
use Rattle.ticket_parts.proofs.laws.signatures_law.Goals as goal

pub returns-clause-found : goal.returns-clause-found
returns-clause-found c = pac_in_part

pub returns-clause-value : goal.returns-clause-value
returns-clause-value c = all_verified

pub returns-clause-server : goal.returns-clause-server
returns-clause-server c = server_verified

pub returns-clause-ticket : goal.returns-clause-ticket
returns-clause-ticket c = ticket_covers

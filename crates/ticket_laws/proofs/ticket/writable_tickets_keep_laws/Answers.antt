use Rattle.ticket_laws.proofs.Tickets.{ticket_fits, ticket_is_writable, ticket_is_short, read_ticket_is_writable}
use Rattle.ticket_laws.proofs.ticket.writable_tickets_keep_laws.Goals as goal

pub returns : goal.returns
returns c = record { fits = ticket_fits; only = ticket_is_writable; short = ticket_is_short; found = read_ticket_is_writable }

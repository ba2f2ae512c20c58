use Rattle.std.proofs.Common.{arith}
use Rattle.krb_tickets.specs.Ticket.{ticket}
use Rattle.krb_tickets.specs.Growths.{ticket_same}
use Rattle.krb_tickets.proofs.Near.{is_no_longer}
use Rattle.krb_tickets.proofs.ticket.read_ticket.Goals as goal

pub returns-clause-short : goal.returns-clause-short
returns-clause-short c = is_no_longer ticket c.args.bytes.now c.read_message.result ticket_same (λ i. omega (arith, c.type_inv.bytes i)) c.read_message.ensures.found

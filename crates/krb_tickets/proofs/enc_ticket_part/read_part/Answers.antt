use Rattle.std.proofs.Common.{arith}
use Rattle.krb_tickets.specs.EncTicketPart.{enc_ticket_part}
use Rattle.krb_tickets.specs.Growths.{part_near}
use Rattle.krb_tickets.proofs.Near.{is_near}
use Rattle.krb_tickets.proofs.enc_ticket_part.read_part.Goals as goal

pub returns-clause-short : goal.returns-clause-short
returns-clause-short c = is_near 8 enc_ticket_part c.args.bytes.now c.read_message.result part_near (λ i. omega (arith, c.type_inv.bytes i)) c.read_message.ensures.found

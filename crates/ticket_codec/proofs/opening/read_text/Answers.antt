use Rattle.der_core.specs.Codec.{whole}
use Rattle.krb_tickets.specs.EncTicketPart.{enc_ticket_part}
use Rattle.ticket_laws.proofs.Parts.{read_part_is_writable}
use Rattle.ticket_codec.proofs.PartTexts.{told_none, told_part, told_whole}
use Rattle.ticket_codec.proofs.opening.read_text.Goals as goal

pub returns-in-Ok-clause-value : goal.returns-in-Ok-clause-value
returns-in-Ok-clause-value c = told_part (whole enc_ticket_part c.args.text.now) c.in-Ok.part c.in-Ok.ensures.exact

pub returns-in-Err-Malformed-clause-value : goal.returns-in-Err-Malformed-clause-value
returns-in-Err-Malformed-clause-value c = told_none (whole enc_ticket_part c.args.text.now) c.in-Err-Malformed.field-0-0 (rw c.in-Err-Malformed.field-0-is at c.in-Err-Malformed.ensures.exact)

pub returns-in-Ok-clause-writable : goal.returns-in-Ok-clause-writable
returns-in-Ok-clause-writable c =
    read_part_is_writable c.args.text.now c.in-Ok.part c.bytes_fit.ensures (told_whole (whole enc_ticket_part c.args.text.now) c.in-Ok.part c.in-Ok.ensures.exact)

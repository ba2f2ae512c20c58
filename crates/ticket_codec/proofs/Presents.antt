-- Parts of which no record is told.
use Rattle.std.proofs.Common.{◌≡◌, None, Some}
use Rattle.std.specs.Prelude.{IfNone, Option}
use Rattle.krb_tickets.specs.declared.enc_ticket_part.EncTicketPart.{EncTicketPart}
use Rattle.krb_tickets.specs.Pac.{pac_of}
use Rattle.kdc_records.specs.declared.holder.Holder.{Holder}
use Rattle.ticket_parts.specs.Records.{record_of}
use Rattle.ticket_parts.proofs.Steps.{record_without_pac}

pub none_told : {X : Type 0} (r : Option X) (p : EncTicketPart) → pac_of p ≡ None → IfNone r ((holder : Holder) → record_of holder p ≡ None)
none_told None p e = λ holder. record_without_pac holder p e
none_told (Some x) p e = tt

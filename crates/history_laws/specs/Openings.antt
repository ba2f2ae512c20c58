-- The entry of an exchange, and the ticket in its reply.
use Rattle.std.specs.Prelude.{◌≡◌, ◌↔◌, true, None, Some, is_some, Ok}
use Rattle.der_core.specs.Codec.{whole}
use Rattle.krb_crypto.specs.Encryption.{opened}
use Rattle.krb_tickets.specs.EncTicketPart.{enc_ticket_part}
use Rattle.krb_messages.specs.KdcRep.{kdc_rep}
use Rattle.ticket_codec.specs.Holdings.{aim_holding}
use Rattle.ticket_parts.specs.Records.{record_of}
use Rattle.tgs_core.specs.Replies.{reply_of}
use Rattle.tgs_core.specs.Verdicts.{verdict}
use Rattle.kdc_frames.specs.Exchanges.{Exchange}
use Rattle.history_laws.specs.Entries.{Entry, IsAnswered, entry_at}

-- the reply of an exchange is that of the entry's grant, and reads as it; the ticket in it opens, under the key that its holder has in the
-- exchange's directory, to the part of the entry, and that part tells the entry's record
pub record IsOpened (exchange : Exchange) (entry : Entry) : Type 0 where
  pub replied : exchange.reply ≡ kdc_rep.spelling (reply_of entry.grant exchange.block)
  pub reads_back : whole kdc_rep exchange.reply ≡ Ok (reply_of entry.grant exchange.block)
  pub held : aim_holding exchange.directory entry.grant.request.realm entry.grant.terms.aim ≡ Some entry.grant.holding
  pub holder : entry.ticket.holder ≡ entry.grant.holding.holder
  pub opens : opened entry.grant.holding.key.key 2 (reply_of entry.grant exchange.block).ticket.sealed.cipher ≡ Some (enc_ticket_part.spelling entry.part)
  pub reads : whole enc_ticket_part (enc_ticket_part.spelling entry.part) ≡ Ok entry.part
  pub tells : record_of entry.grant.holding.holder entry.part ≡ Some (record { rec = entry.ticket; agrees = true })

abbrev pub OpensLaw : Type 0
OpensLaw = (exchange : Exchange) (entry : Entry) → IsAnswered exchange → entry_at exchange ≡ Some entry → IsOpened exchange entry

-- an exchange is an entry exactly where no rule denies its request
abbrev pub EntriesAreGranted : Type 0
EntriesAreGranted = (exchange : Exchange) → IsAnswered exchange → (verdict exchange.directory exchange.moment exchange.request ≡ None) ↔ (is_some (entry_at exchange) ≡ true)

-- The ticket of a record (RFC 4120, section 5.3).
use Rattle.std.specs.Prelude.{◌≡◌, ℕ, pos, List, true, Some, FitsSigned}
use Rattle.std.specs.Int.{w32}
use Rattle.krb_names.specs.declared.key.Key.{Key}
use Rattle.krb_names.specs.declared.principal.Principal.{Principal}
use Rattle.krb_names.specs.Etypes.{etype_number}
use Rattle.krb_crypto.specs.Encryption.{seal}
use Rattle.krb_tickets.specs.declared.ticket.Ticket.{Ticket}
use Rattle.krb_tickets.specs.EncTicketPart.{enc_ticket_part}
use Rattle.krb_tickets.specs.Transited.{is_realm}
use Rattle.ticket_laws.specs.Writable.{are_parts}
use Rattle.kdc_records.specs.declared.holder.Holder.{Holder}
use Rattle.kdc_records.specs.declared.ticket_rec.TicketRec.{TicketRec}
use Rattle.kdc_records.specs.Parties.{version_of}
use Rattle.ticket_parts.specs.Parts.{part}

-- a name that can be written in a ticket of the issuing realm, which stands in the ticket once (RFC 4120, section 5.2.2)
pub record IsTicketName (issuer : List ℕ) (sname : Principal) : Type 0 where
  pub realm : is_realm issuer ≡ true
  pub same : sname.realm ≡ issuer
  pub kind : FitsSigned w32 sname.kind
  pub parts : are_parts sname.kind sname.parts ≡ true

-- the ticket under this name, issued by this realm, in which these bytes are sealed with the key of a holder
abbrev pub ticket_with : Holder → Principal → List ℕ → Key → List ℕ → Ticket
ticket_with held_by sname issuer key cipher = record {
  realm = issuer;
  sname = sname;
  sealed = record { etype = pos (etype_number key.etype); kvno = Some (version_of held_by); cipher = cipher };
}

-- under this name, issued by this realm: the part of the record, sealed for its holder with this confounder
abbrev pub ticket_of : TicketRec → Principal → List ℕ → Key → Key → List ℕ → Ticket
ticket_of t sname issuer holder realm conf = ticket_with t.holder sname issuer holder (seal holder 2 conf (enc_ticket_part.spelling (part t holder realm)))

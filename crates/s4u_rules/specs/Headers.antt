-- The header of a TGS-REQ, its ticket-granting ticket, as the rules see it (RFC 4120, section 3.3.3).
use Rattle.std.specs.Prelude.{ℕ, Bool, Option, None}
use Rattle.kdc_records.specs.declared.rule.Rule.{Rule}
use Rattle.kdc_records.specs.declared.ticket_rec.TicketRec.{TicketRec}

-- opened, with its authenticator
pub record ShownHeader : Type 0 where
  pub stamp : ℕ  -- when the authenticator was made, in microseconds after 1970
  pub start : ℕ  -- when the ticket starts
  pub end : ℕ
  pub invalid : Bool
  pub rec : Option TicketRec  -- nothing where its PAC does not read, a signature is wrong, or the client information does not agree

-- what was read of it
pub data SeenHeader : Type 0 where
  Wrong : Rule → SeenHeader  -- the first of the rules G1 to G8 that fails
  Shown : ShownHeader → SeenHeader

-- its record
abbrev pub record_of : SeenHeader → Option TicketRec
record_of (Wrong rule) = None
record_of (Shown header) = header.rec

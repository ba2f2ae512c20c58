-- What is sealed in the ticket of a record: an EncTicketPart (RFC 4120, section 5.3) with a signed PAC (MS-PAC, sections 2.3 to 2.9).
use Rattle.std.specs.Prelude.{ℕ, pos, Bool, true, false, List, [], ◌∷◌, Option, None, Some, option_map, if◌then◌else◌}
use Rattle.krb_names.specs.declared.key.Key.{Key}
use Rattle.krb_tickets.specs.declared.enc_ticket_part.EncTicketPart.{EncTicketPart}
use Rattle.krb_tickets.specs.EncTicketPart.{enc_ticket_part}
use Rattle.ndr_core.specs.Object.{packed_spelling, spelling}
use Rattle.pac_buffers.specs.declared.client_info.ClientInfo.{ClientInfo}
use Rattle.pac_buffers.specs.declared.delegation_info.DelegationInfo.{DelegationInfo}
use Rattle.pac_buffers.specs.Buffers.{Buffer, built, pac}
use Rattle.pac_buffers.specs.Client.{client}
use Rattle.pac_buffers.specs.Delegation.{delegation}
use Rattle.pac_logon.specs.declared.logon_info.LogonInfo.{LogonInfo}
use Rattle.pac_logon.specs.Logon.{logon}
use Rattle.pac_sign.specs.Signed.{signed}
use Rattle.pac_sign.specs.Sums.{sum_type}
use Rattle.ticket_laws.specs.OnlyPac.{only_pac}
use Rattle.kdc_records.specs.declared.holder.Holder.{Holder}
use Rattle.kdc_records.specs.declared.holder.Holder.TheVariants.{Krbtgt, Trust, Account}
use Rattle.kdc_records.specs.declared.subject.Delegation.{Delegation}
use Rattle.kdc_records.specs.declared.ticket_rec.TicketRec.{TicketRec}
use Rattle.krb_names.specs.SidValue.{domain_of, number_of}
use Rattle.ticket_parts.specs.Names.{client_name, filetime}

-- a service ticket
abbrev pub is_service : Holder → Bool
is_service (Krbtgt realm version) = false
is_service (Trust realm partner version) = false
is_service (Account realm number version) = true

abbrev pub logon_of : TicketRec → LogonInfo
logon_of t = record {
  subject = record {
    name = t.subject.name;
    domain = t.subject.realm;
    domain_sid = domain_of t.subject.sid;
    number = number_of t.subject.sid;
    control = t.subject.control;
    groups = t.subject.groups;
  };
  time = filetime t.auth;
}

abbrev pub client_of : TicketRec → ClientInfo
client_of t = record { time = filetime t.auth; name = client_name t.subject.name t.subject.realm t.client }

abbrev pub delegation_of : Delegation → DelegationInfo
delegation_of d = record { target = d.target; services = d.services }

-- the buffers of the PAC before it is signed under the holder's key and the key of the realm's ticket-granting service; a
-- service ticket has a ticket signature
abbrev pub unsigned_pac : TicketRec → Key → Key → List Buffer
unsigned_pac t holder realm =
    built (spelling logon (logon_of t)) (packed_spelling client (client_of t)) (option_map (spelling delegation) (option_map delegation_of t.delegation))
    (is_service t.holder) (pos (sum_type holder.etype)) (pos (sum_type realm.etype))

-- the part without authorization data
abbrev pub bare_part : TicketRec → EncTicketPart
bare_part t = record {
  flags = t.flags;
  key = t.session;
  client = t.client;
  transited = t.transited;
  auth = t.auth;
  start = Some t.start;
  end = t.end;
  items = [];
}

-- the part with these bytes for its PAC
abbrev pub part_with : List ℕ → TicketRec → EncTicketPart
part_with bytes t = record (bare_part t) { items = only_pac bytes }

-- what a ticket signature is over: the part with one zero byte for its PAC (MS-PAC, section 2.8.3)
abbrev pub signed_part : TicketRec → Option (List ℕ)
signed_part t = if is_service t.holder then Some (enc_ticket_part.spelling (part_with (0 ∷ []) t)) else None

-- the buffers of the signed PAC
unfoldable pub signed_pac : TicketRec → Key → Key → List Buffer
signed_pac t holder realm = signed holder realm (signed_part t) (unsigned_pac t holder realm)

-- the part of a record, under the holder's key and the key of the issuing realm's ticket-granting service
unfoldable pub part : TicketRec → Key → Key → EncTicketPart
part t holder realm = part_with (pac (signed_pac t holder realm)) t

-- What an AP-REQ shows to a service (RFC 4120, sections 3.2.3 and 5.5.1).
use Rattle.std.specs.Prelude.{ℕ, List, Bool, Result, Ok, Err, if◌then◌else◌}
use Rattle.kdc_prelude.specs.Answers.{or_fault}
use Rattle.kdc_prelude.specs.Results.{◌>>=◌}
use Rattle.kdc_prelude.specs.Texts.{same_text}
use Rattle.der_core.specs.declared.refusal.DerRefusal.{DerRefusal}
use Rattle.der_core.specs.Codec.{whole}
use Rattle.krb_tickets.specs.declared.enc_ticket_part.EncTicketPart.{EncTicketPart}
use Rattle.krb_tickets.specs.declared.encrypted_data.EncryptedData.{EncryptedData}
use Rattle.krb_tickets.specs.declared.ticket.Ticket.{Ticket}
use Rattle.krb_tickets.specs.EncTicketPart.{enc_ticket_part}
use Rattle.krb_messages.specs.declared.ap_req.ApReq.{ApReq}
use Rattle.krb_messages.specs.declared.authenticator.Authenticator.{Authenticator}
use Rattle.krb_messages.specs.ApReq.{ap_req}
use Rattle.krb_messages.specs.Authenticator.{authenticator}
use Rattle.kdc_records.specs.Bits.{has_bit}
use Rattle.dir_records.specs.declared.records.KeyRec.{KeyRec}
use Rattle.ticket_codec.specs.Opening.{is_for_key}
use Rattle.tgs_requests.specs.Headers.{client_is_the_tickets}
use Rattle.service_end.specs.declared.refusal.AcceptRule.{AcceptRule}
use Rattle.service_end.specs.declared.refusal.AcceptRule.TheVariants.{Malformed, NotUs, Version, Integrity, Match}
use Rattle.service_end.specs.declared.service.ServiceKeys.{ServiceKeys}
use Rattle.service_end.specs.declared.shown.Shown.{Shown}
use Rattle.service_end.specs.Readings.{opened_as}

-- a rule that fails where its condition does
abbrev pub require : AcceptRule → Bool → Result (Unit {0}) AcceptRule
require rule holds = if holds then Ok tt else Err rule

-- Malformed: the bytes read as an AP-REQ (RFC 4120, section 5.5.1); of a fault its place is told
abbrev pub request_told : Result ApReq DerRefusal → Result ApReq AcceptRule
request_told (Ok request) = Ok request
request_told (Err refusal) = Err (Malformed refusal.place)

abbrev pub request_in : List ℕ → Result ApReq AcceptRule
request_in bytes = request_told (whole ap_req bytes)

-- NotUs: the ticket is of the service's realm (RFC 4120, section 3.2.3; its name is not compared, own choice)
abbrev pub is_for_us : ServiceKeys → Ticket → Bool
is_for_us keys ticket = same_text ticket.realm keys.account.realm

-- Version: the ticket is sealed with a key of the service's version and type; an absent version is any (RFC 4120, section 3.2.3)
abbrev pub key_fits : ServiceKeys → Ticket → Bool
key_fits keys ticket =
    let own : KeyRec = record { key = keys.key; version = keys.version } in
    is_for_key own ticket.sealed

-- what was sealed in the ticket; Integrity: it opens with the service's key and reads (RFC 4120, sections 3.2.3 and 7.5.1)
abbrev pub part_shown : ServiceKeys → Ticket → Result EncTicketPart AcceptRule
part_shown keys ticket =
    require NotUs (is_for_us keys ticket) >>= λ _.
    require Version (key_fits keys ticket) >>= λ _.
    or_fault Integrity (opened_as enc_ticket_part keys.key 2 ticket.sealed.cipher)

-- the authenticator; Integrity: it opens with the session key and reads; Match: its client is the ticket's (RFC 4120, sections 3.2.3
-- and 7.5.1)
abbrev pub auth_shown : EncTicketPart → EncryptedData → Result Authenticator AcceptRule
auth_shown part sealed =
    or_fault Integrity (opened_as authenticator part.key 11 sealed.cipher) >>= λ auth.
    require Match (client_is_the_tickets part auth) >>= λ _.
    Ok auth

-- mutual authentication is asked for: mutual-required (RFC 4120, section 5.5.1)
abbrev pub asks_mutual : ApReq → Bool
asks_mutual request = has_bit 2 request.ap_options

-- what a request shows, or the first of these rules that fails
unfoldable pub shown_in : ServiceKeys → ApReq → Result Shown AcceptRule
shown_in keys request =
    part_shown keys request.ticket >>= λ part.
    auth_shown part request.authenticator >>= λ auth.
    Ok (record { mutual_required = asks_mutual request; part = part; auth = auth })

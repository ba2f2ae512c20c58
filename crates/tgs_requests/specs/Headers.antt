-- The header of a TGS-REQ (RFC 4120, sections 3.3.2, 3.3.3 and 5.5.1): its ticket-granting ticket and authenticator.
use Rattle.std.specs.Prelude.{ℕ, ℤ, ◌+◌, ◌*◌, nat_abs, Bool, List, [], ◌∷◌, filter, Option, None, Some, is_some, option_and_then, option_map, unwrap_or, if◌then◌else◌, IfSome}
use Rattle.kdc_prelude.specs.Options.{holds_of}
use Rattle.kdc_prelude.specs.Steps.{◌>>=◌}
use Rattle.kdc_prelude.specs.Texts.{same_text}
use Rattle.der_core.specs.Codec.{whole}
use Rattle.krb_names.specs.declared.key.Key.{Key}
use Rattle.krb_names.specs.Principals.{same_principal}
use Rattle.krb_crypto.specs.Checksums.{mac}
use Rattle.krb_crypto.specs.Encryption.{opened}
use Rattle.krb_tickets.specs.declared.enc_ticket_part.EncTicketPart.{EncTicketPart}
use Rattle.krb_tickets.specs.declared.encrypted_data.EncryptedData.{EncryptedData}
use Rattle.krb_tickets.specs.declared.ticket.Ticket.{Ticket}
use Rattle.krb_tickets.specs.Pac.{is_number}
use Rattle.krb_messages.specs.declared.ap_req.ApReq.{ApReq}
use Rattle.krb_messages.specs.declared.authenticator.Authenticator.{Authenticator}
use Rattle.krb_messages.specs.declared.kdc_req.KdcReq.{KdcReq}
use Rattle.krb_messages.specs.declared.pa_data.PaData.{PaData}
use Rattle.krb_messages.specs.ApReq.{ap_req}
use Rattle.krb_messages.specs.Authenticator.{authenticator}
use Rattle.pac_sign.specs.Sums.{sum_type}
use Rattle.kdc_records.specs.declared.rule.Rule.{Rule}
use Rattle.kdc_records.specs.declared.rule.Rule.TheVariants.{G1, G2, G3, G4, G5, G6, G7, G8}
use Rattle.kdc_records.specs.declared.ticket_rec.TicketRec.{TicketRec}
use Rattle.kdc_records.specs.Bits.{has_bit}
use Rattle.dir_records.specs.DirectoryValue.{DirectoryValue}
use Rattle.as_core.specs.Stamps.{items_of}
use Rattle.ticket_laws.specs.Writable.{IsWritablePart}
use Rattle.ticket_parts.specs.Sound.{IsSound}
use Rattle.ticket_codec.specs.declared.opening.Opened.{Opened}
use Rattle.ticket_codec.specs.declared.presenting.Certified.{Certified}
use Rattle.ticket_codec.specs.declared.role.Role.TheVariants.{Header as AsHeader}
use Rattle.ticket_codec.specs.Opening.{opened_with}
use Rattle.ticket_codec.specs.Presented.{certified}
use Rattle.ticket_codec.specs.Roles.{holding}
use Rattle.ticket_codec.specs.Rules.{header_is_for_this_realm, header_key_fits, header_opens}
use Rattle.s4u_rules.specs.Headers.{ShownHeader}
use Rattle.tgs_requests.specs.declared.header.Header.{Header}
use Rattle.tgs_requests.specs.Askings.{is_of_type, only, read_or_none}

-- ---- what is read

-- the AP-REQ that padata say, if they do
abbrev pub ap_req_in : PaData → Option ApReq
ap_req_in item = read_or_none (whole ap_req item.padata_value)

-- PA-TGS-REQ (RFC 4120, section 5.2.7.1): the only one of a request, if it reads
unfoldable pub ap_req_of : KdcReq → Option ApReq
ap_req_of message = only (filter (is_of_type 1) (items_of message.padata)) >>= ap_req_in

-- the ticket, opened with the key of its holder, whatever the version
abbrev pub ticket_opened : DirectoryValue → ℕ → Ticket → Option Opened
ticket_opened dir at ticket = option_and_then (opened_with ticket) (holding dir at AsHeader ticket)

-- the authenticator that a text says, if there is one
abbrev pub authenticator_of_text : Option (List ℕ) → Option Authenticator
authenticator_of_text text = text >>= λ bytes. read_or_none (whole authenticator bytes)

-- the authenticator that the session key opens, with its usage (RFC 4120, section 7.5.1); its type is not compared
abbrev pub authenticator_in : Key → EncryptedData → Option Authenticator
authenticator_in key sealed = authenticator_of_text (opened key 7 sealed.cipher)

abbrev pub header_with : DirectoryValue → ℕ → Opened → Authenticator → Header
header_with dir at opened auth = record { opened = opened; auth = auth; certified = certified dir at opened }

-- the header of a ticket that was opened, where the authenticator opens and reads
abbrev pub header_by : DirectoryValue → ℕ → EncryptedData → Opened → Option Header
header_by dir at sealed opened = option_map (header_with dir at opened) (authenticator_in opened.part.key sealed)

-- that of an AP-REQ, where its ticket and its authenticator open and read
abbrev pub header_of : DirectoryValue → ℕ → ApReq → Option Header
header_of dir at ap = option_and_then (header_by dir at ap.authenticator) (ticket_opened dir at ap.ticket)

-- the header of a request to the realm at an index
unfoldable pub header_in : DirectoryValue → ℕ → KdcReq → Option Header
header_in dir at message = option_and_then (header_of dir at) (ap_req_of message)

-- what is known of a header that was read: what was sealed can be written, and its record is sound
pub record IsHeader (header : Header) : Type 0 where
  pub part : IsWritablePart header.opened.part
  pub auth : authenticator.Fits header.auth
  pub rec : IfSome header.certified (λ shown. IsSound shown.rec)

-- ---- the rules

-- G6: the authenticator's client is the ticket's, whatever the kind of its name (RFC 4120, section 3.2.3)
abbrev pub client_is_the_tickets : EncTicketPart → Authenticator → Bool
client_is_the_tickets part auth = same_principal auth.cname part.client

-- the type of a key's checksums (RFC 3961, section 6.2)
abbrev pub is_sum_type_of : Key → ℤ → Bool
is_sum_type_of key number = is_number (sum_type key.etype) number

-- G7: the authenticator has a checksum of the session key's type (RFC 4120, section 3.3.3)
abbrev pub sum_is_keyed : EncTicketPart → Authenticator → Bool
sum_is_keyed part auth = holds_of (λ sum. is_sum_type_of part.key sum.cksumtype) auth.cksum

-- the octets are the checksum of a text under a key
abbrev pub is_mac : Key → ℕ → List ℕ → List ℕ → Bool
is_mac key usage text sum = same_text sum (mac key usage text)

-- G8: the checksum is that of the body as received (RFC 4120, section 7.5.1)
abbrev pub body_is_covered : List ℕ → EncTicketPart → Authenticator → Bool
body_is_covered body part auth = holds_of (λ sum. is_mac part.key 6 body sum.checksum) auth.cksum

-- a test of what is sealed in the ticket, and of the authenticator
abbrev pub of_header : (EncTicketPart → Authenticator → Bool) → Header → Bool
of_header test header = test header.opened.part header.auth

-- in the order in which they are tried
abbrev pub reading_rules : DirectoryValue → ℕ → KdcReq → List (Rule × Bool)
reading_rules dir at message =
    (G1, is_some (ap_req_of message))
    ∷ (G2, holds_of (λ ap. header_is_for_this_realm dir at ap.ticket) (ap_req_of message))
    ∷ (G3, holds_of (λ ap. header_key_fits dir at ap.ticket) (ap_req_of message))
    ∷ (G4, holds_of (λ ap. header_opens dir at ap.ticket) (ap_req_of message))
    ∷ (G5, is_some (header_in dir at message))
    ∷ (G6, holds_of (of_header client_is_the_tickets) (header_in dir at message))
    ∷ (G7, holds_of (of_header sum_is_keyed) (header_in dir at message))
    ∷ (G8, holds_of (of_header (body_is_covered message.body_bytes)) (header_in dir at message))
    ∷ []

-- ---- as the rules see it

-- when the authenticator was made, in microseconds after 1970
abbrev pub made_at : Authenticator → ℕ
made_at auth = auth.ctime * 1000000 + nat_abs auth.cusec

-- the record, where the client information agrees
abbrev pub agreed_record : Certified → Option TicketRec
agreed_record shown = if shown.agrees then Some shown.rec else None

abbrev pub record_in : Header → Option TicketRec
record_in header = header.certified >>= agreed_record

-- it starts when it says, else when its client was authenticated (RFC 4120, section 5.3)
abbrev pub starts_at : EncTicketPart → ℕ
starts_at part = unwrap_or part.start part.auth

abbrev pub shown_header : Header → ShownHeader
shown_header header = record {
  stamp = made_at header.auth;
  start = starts_at header.opened.part;
  end = header.opened.part.end;
  invalid = has_bit 7 header.opened.part.flags;
  rec = record_in header;
}

-- the key that seals a reply, and the checksums of S4U2self: the subkey, else the session key (RFC 4120, section 3.3.3; MS-SFU, section
-- 2.2.2)
abbrev pub answering_key : Header → Key
answering_key header = unwrap_or header.auth.subkey header.opened.part.key

-- The record that a part tells of.
use Rattle.std.specs.Prelude.{ℕ, ◌&&◌, ◌||◌, ◌==◌, ◌^◌, Bool, List, length, nat_lt, Option, None, Some, is_none, is_some, option_map, unwrap_or, if◌then◌else◌}
use Rattle.std.specs.Result.{result_ok}
use Rattle.kdc_prelude.specs.Steps.{◌>>=◌}
use Rattle.kdc_prelude.specs.Texts.{same_text}
use Rattle.krb_names.specs.Pieces.{is_name}
use Rattle.krb_tickets.specs.declared.enc_ticket_part.EncTicketPart.{EncTicketPart}
use Rattle.krb_tickets.specs.Pac.{pac_of}
use Rattle.ndr_core.specs.Object.{object, packed}
use Rattle.pac_buffers.specs.declared.client_info.ClientInfo.{ClientInfo}
use Rattle.pac_buffers.specs.declared.delegation_info.DelegationInfo.{DelegationInfo}
use Rattle.pac_buffers.specs.Client.{client}
use Rattle.pac_buffers.specs.Container.{buffer_of, pac_fault}
use Rattle.pac_buffers.specs.Delegation.{delegation}
use Rattle.pac_buffers.specs.Signature.{front_of, signature}
use Rattle.pac_logon.specs.declared.logon_info.LogonInfo.{LogonInfo}
use Rattle.pac_logon.specs.Logon.{logon, subject_sid}
use Rattle.kdc_records.specs.declared.holder.Holder.{Holder}
use Rattle.kdc_records.specs.declared.subject.Delegation.{Delegation}
use Rattle.kdc_records.specs.declared.subject.Subject.{Subject}
use Rattle.kdc_records.specs.declared.ticket_rec.TicketRec.{TicketRec}
use Rattle.ticket_parts.specs.declared.pac_values.PacValue.{PacValue}
use Rattle.ticket_parts.specs.declared.reading.ReadRecord.{ReadRecord}
use Rattle.ticket_parts.specs.Names.{client_name, filetime}

-- ---- what a PAC says

-- the logon information (type 1)
abbrev pub logon_in : List ℕ → Option LogonInfo
logon_in bytes = buffer_of 1 bytes >>= λ content. result_ok (object logon content)

-- the client information (type 10)
abbrev pub client_in : List ℕ → Option ClientInfo
client_in bytes = buffer_of 10 bytes >>= λ content. result_ok (packed client content)

-- the delegation information, which may be absent; nothing where it is there and does not read
abbrev pub delegation_reading : Option (List ℕ) → Option (Option DelegationInfo)
delegation_reading None = Some None
delegation_reading (Some content) = option_map Some (result_ok (object delegation content))

-- what the buffers of types 1, 10 and 11 say
abbrev pub value_in : List ℕ → Option PacValue
value_in bytes = do
  info ← logon_in bytes
  named ← client_in bytes
  delegated ← delegation_reading (buffer_of 11 bytes)
  Some (record { logon = info; client = named; delegation = delegated })

-- the buffer of this type reads as a signature
abbrev pub is_signature_in : List ℕ → ℕ → Bool
is_signature_in bytes kind = is_some (buffer_of kind bytes >>= λ content. result_ok (front_of signature content))

-- the same where there is such a buffer
abbrev pub is_signature_or_absent : List ℕ → ℕ → Bool
is_signature_or_absent bytes kind = is_none (buffer_of kind bytes) || is_signature_in bytes kind

-- the server and the KDC signature read, and the ticket signature where it is there
abbrev pub are_signatures_in : List ℕ → Bool
are_signatures_in bytes = is_signature_in bytes 6 && is_signature_in bytes 7 && is_signature_or_absent bytes 16

-- the effective name is one name, and the domain's name that of a realm
abbrev pub has_names : PacValue → Bool
has_names value = is_name value.logon.subject.name && is_name value.logon.subject.domain

abbrev pub such_that : {X : Type 0} → (X → Bool) → X → Option X
such_that test x = if test x then Some x else None

-- what a PAC says; nothing where the PAC, one of its buffers or a signature does not read (MS-PAC, sections 2.3 to 2.9), or there are
-- 2^32 bytes or more (own limit)
abbrev pub pac_reading : List ℕ → Option PacValue
pac_reading bytes = if nat_lt (length bytes) (2 ^ 32) && is_none (pac_fault bytes) && are_signatures_in bytes then value_in bytes >>= such_that has_names else None

-- ---- the record

abbrev pub subject_of : LogonInfo → Subject
subject_of info = record {
  name = info.subject.name;
  realm = info.subject.domain;
  sid = subject_sid info;
  control = info.subject.control;
  groups = info.subject.groups;
}

abbrev pub delegation_from : DelegationInfo → Delegation
delegation_from d = record { target = d.target; services = d.services }

-- a part without starttime starts at its authtime (RFC 4120, section 5.3)
abbrev pub record_with : Holder → EncTicketPart → PacValue → TicketRec
record_with holder part value = record {
  holder = holder;
  client = part.client;
  subject = subject_of value.logon;
  flags = part.flags;
  session = part.key;
  auth = part.auth;
  start = unwrap_or part.start part.auth;
  end = part.end;
  transited = part.transited;
  delegation = option_map delegation_from value.delegation;
}

-- the client information has the ticket's authtime, and the name that it should have
abbrev pub client_agrees : EncTicketPart → PacValue → Bool
client_agrees part value =
    value.client.time == filetime part.auth && same_text value.client.name (client_name value.logon.subject.name value.logon.subject.domain part.client)

-- the record of a part whose PAC says this, and whether its client information agrees
abbrev pub read_with : Holder → EncTicketPart → PacValue → ReadRecord
read_with holder part value = record { rec = record_with holder part value; agrees = client_agrees part value }

-- the record of a part with these bytes for its PAC
abbrev pub record_by : Holder → EncTicketPart → List ℕ → Option ReadRecord
record_by holder part bytes = option_map (read_with holder part) (pac_reading bytes)

-- the record of a part that this holder's key opened; nothing where its PAC is not there or does not read
unfoldable pub record_of : Holder → EncTicketPart → Option ReadRecord
record_of holder part = pac_of part >>= record_by holder part

-- The part of a record can be written.
use Rattle.std.proofs.Common.{ℕ, ◌<◌, ◌^◌, pos, List, [], ◌∷◌, length, Option, Some, None, ap, length-append, arith}
use Rattle.std.specs.Prelude.{IfSome, option_map}
use Rattle.std.proofs.lemmas.List.Concat.{flat_map-cons}
use Rattle.der_forms.specs.Lists.{sequence_of}
use Rattle.krb_names.specs.declared.key.Key.{Key}
use Rattle.krb_tickets.specs.declared.auth_item.AuthItem.{AuthItem}
use Rattle.krb_tickets.specs.AuthItem.{auth_item}
use Rattle.krb_tickets.specs.EncTicketPart.{enc_ticket_part}
use Rattle.krb_tickets.proofs.PacSizes.{content_shorter}
use Rattle.ndr_core.specs.Laws.{IsBytes}
use Rattle.ndr_core.specs.Object.{packed_spelling, spelling}
use Rattle.pac_buffers.specs.declared.delegation_info.DelegationInfo.{DelegationInfo}
use Rattle.pac_buffers.specs.Buffers.{pac, IsSound as IsSoundPac}
use Rattle.pac_buffers.specs.Client.{client}
use Rattle.pac_buffers.specs.Delegation.{delegation}
use Rattle.pac_buffers.proofs.Built.{built_sound}
use Rattle.pac_laws.specs.Writable.{IsWritableDelegation}
use Rattle.pac_laws.proofs.Bytes.{IsBytes-cons, IsBytes-nil}
use Rattle.pac_laws.proofs.Written.{client_fits, client_short, delegation_fits, delegation_short, logon_fits, logon_short, pac_short}
use Rattle.pac_logon.specs.Logon.{logon}
use Rattle.pac_sign.specs.Signed.{signed}
use Rattle.pac_sign.specs.Sums.{sum_type}
use Rattle.pac_sign.proofs.Verifies.{signed_sound}
use Rattle.ticket_laws.specs.OnlyPac.{pac_element}
use Rattle.ticket_laws.specs.Writable.{IsWritablePart}
use Rattle.ticket_laws.proofs.LonePacs.{pac_is_short, pac_is_writable}
use Rattle.ticket_laws.proofs.Parts.{part_fits, part_is_short}
use Rattle.kdc_records.specs.declared.ticket_rec.TicketRec.{TicketRec}
use Rattle.ticket_parts.specs.Parts.{client_of, delegation_of, is_service, logon_of, part, part_with, signed_pac, signed_part, unsigned_pac}
use Rattle.ticket_parts.specs.Sound.{IsSound}
use Rattle.ticket_parts.proofs.Bytes.{built_of_bytes, pac_of_bytes, signed_of_bytes}
use Rattle.ticket_parts.proofs.Contents.{signed_size}
use Rattle.ticket_parts.proofs.Values.{client_writable, delegation_writable, logon_writable}

-- ---- the PAC

pub short_by : (o : Option DelegationInfo) → IfSome o (λ d. IsWritableDelegation d) → IfSome (option_map (spelling delegation) o) (λ x. length x < 2 ^ 30)
short_by None h = tt
short_by (Some d) h = omega (arith, delegation_short d h)

bytes_by : (o : Option DelegationInfo) → IfSome o (λ d. IsWritableDelegation d) → IfSome (option_map (spelling delegation) o) (λ x. IsBytes x)
bytes_by None h = tt
bytes_by (Some d) h = delegation_fits d h

pub logon_few : (t : TicketRec) → IsSound t → length (spelling logon (logon_of t)) < 2 ^ 30
logon_few t h = omega (arith, logon_short (logon_of t) (logon_writable t h))

pub client_few : (t : TicketRec) → IsSound t → length (packed_spelling client (client_of t)) < 2 ^ 30
client_few t h = omega (arith, client_short (client_of t) (client_writable t h))

pub unsigned_sound : (t : TicketRec) (holder realm : Key) → IsSound t → IsSoundPac (unsigned_pac t holder realm)
unsigned_sound t holder realm h =
    built_sound _ _ _ (is_service t.holder) (pos (sum_type holder.etype)) (pos (sum_type realm.etype)) (logon_few t h) (client_few t h) (short_by (option_map delegation_of t.delegation) (delegation_writable t h))

pub signed_pac_sound : (t : TicketRec) (holder realm : Key) → IsSound t → IsSoundPac (signed_pac t holder realm)
unfolding signed_pac
signed_pac_sound t holder realm h = signed_sound holder realm (signed_part t) (unsigned_pac t holder realm) (unsigned_sound t holder realm h)

pub signed_pac_short : (t : TicketRec) (holder realm : Key) → IsSound t → length (pac (signed_pac t holder realm)) < 2 ^ 23
unfolding signed_pac
signed_pac_short t holder realm h =
    let size = signed_size holder realm (signed_part t) (unsigned_pac t holder realm) (unsigned_sound t holder realm h) in
    let few = pac_short (logon_of t) (client_of t) (option_map delegation_of t.delegation) (is_service t.holder) (pos (sum_type holder.etype)) (pos (sum_type realm.etype)) (logon_writable t h) (client_writable t h) (delegation_writable t h) in
    omega (arith, size, few)

pub signed_pac_few : (t : TicketRec) (holder realm : Key) → IsSound t → length (pac (signed_pac t holder realm)) < 2 ^ 31
signed_pac_few t holder realm h = omega (arith, signed_pac_short t holder realm h)

signed_pac_bytes : (t : TicketRec) (holder realm : Key) → IsSound t → IsBytes (pac (signed_pac t holder realm))
unfolding signed_pac
signed_pac_bytes t holder realm h =
    let before = built_of_bytes (spelling logon (logon_of t)) (packed_spelling client (client_of t)) (option_map (spelling delegation) (option_map delegation_of t.delegation)) (is_service t.holder) (pos (sum_type holder.etype)) (pos (sum_type realm.etype)) (logon_fits (logon_of t) (logon_writable t h)) (client_fits (client_of t) (client_writable t h))
    (bytes_by (option_map delegation_of t.delegation) (delegation_writable t h)) in
    pac_of_bytes (signed holder realm (signed_part t) (unsigned_pac t holder realm)) (signed_of_bytes holder realm (signed_part t) (unsigned_pac t holder realm) before)

-- ---- the part

with_is_writable : (t : TicketRec) (bytes : List ℕ) → IsSound t → IsBytes bytes → IsWritablePart (part_with bytes t)
with_is_writable t bytes h are =
    let p = h.part in
    record {
      flags = p.flags;
      key_length = p.key_length;
      key_octets = p.key_octets;
      key_padding = p.key_padding;
      crealm = p.crealm;
      cname_kind = p.cname_kind;
      cname_parts = p.cname_parts;
      transited = p.transited;
      auth = p.auth;
      start = p.start;
      end = p.end;
      items = pac_is_writable bytes are;
    }

with_is_short : (t : TicketRec) (bytes : List ℕ) → IsSound t → IsBytes bytes → length bytes < 2 ^ 23 → length (enc_ticket_part.spelling (part_with bytes t)) < 2 ^ 24
with_is_short t bytes h are few =
    let all = part_is_short (part_with bytes t) (with_is_writable t bytes h are) in
    let items = pac_is_short bytes in
    omega (arith, all, items)

pub part_writable : (t : TicketRec) (holder realm : Key) → IsSound t → IsWritablePart (part t holder realm)
unfolding part
part_writable t holder realm h = with_is_writable t (pac (signed_pac t holder realm)) h (signed_pac_bytes t holder realm h)

pub part_written : (t : TicketRec) (holder realm : Key) → IsSound t → enc_ticket_part.Fits (part t holder realm)
part_written t holder realm h = part_fits (part t holder realm) (part_writable t holder realm h)

pub part_short : (t : TicketRec) (holder realm : Key) → IsSound t → length (enc_ticket_part.spelling (part t holder realm)) < 2 ^ 24
unfolding part
part_short t holder realm h = with_is_short t (pac (signed_pac t holder realm)) h (signed_pac_bytes t holder realm h) (signed_pac_short t holder realm h)

-- the same with one zero byte for its PAC

zero_byte : IsBytes (0 ∷ [])
zero_byte = IsBytes-cons 0 [] (omega arith) IsBytes-nil

pub zeroed_written : (t : TicketRec) → IsSound t → enc_ticket_part.Fits (part_with (0 ∷ []) t)
zeroed_written t h = part_fits (part_with (0 ∷ []) t) (with_is_writable t (0 ∷ []) h zero_byte)

less : (n : ℕ) → n < 2 ^ 24 → n < 2 ^ 31
less n few = omega arith

pub zeroed_few : (t : TicketRec) → IsSound t → length (enc_ticket_part.spelling (part_with (0 ∷ []) t)) < 2 ^ 31
zeroed_few t h = less _ (with_is_short t (0 ∷ []) h zero_byte (omega arith))

-- the authorization data within the one item
pub element_short : (bytes : List ℕ) → length bytes < 2 ^ 31 → length ((sequence_of auth_item).spelling (pac_element bytes ∷ [])) < 2 ^ 32
element_short bytes few =
    let item : AuthItem = record { kind = pos 1; content = (sequence_of auth_item).spelling (pac_element bytes ∷ []) } in
    omega (arith, content_shorter item, pac_is_short bytes, ap length (flat_map-cons auth_item.spelling item []), length-append (auth_item.spelling item) [])

-- The additional tickets of a request that was read: how many they are, how long what is sealed in them is, and that it is of bytes.
use Rattle.std.proofs.Common.{ℕ, ◌+◌, ◌<◌, ◌≤◌, ◌^◌, List, [], ◌∷◌, length, Option, Some, None, ap, subst, length-append, arith}
use Rattle.std.specs.Prelude.{pos}
use Rattle.std.specs.List.{AllByRecursion, flat_map}
use Rattle.std.proofs.lemmas.List.Concat.{flat_map-cons}
use Rattle.der_core.specs.CodecLaws.{IsBytes-content}
use Rattle.der_core.specs.Elements.{element}
use Rattle.der_core.specs.Forms.{int32, number_is, octets, uint32}
use Rattle.der_core.specs.Laws.{IsBytes}
use Rattle.der_forms.specs.Fields.{IsOptional, end, optional_spelling, tag_of}
use Rattle.der_forms.specs.Lists.{AreItems, sequence_of}
use Rattle.der_forms.specs.Names.{realm as realm_name}
use Rattle.der_forms.specs.Times.{kerberos_time}
use Rattle.der_forms.specs.Values.{flags, nonce as nonce_number}
use Rattle.krb_tickets.specs.declared.encrypted_data.EncryptedData.{EncryptedData}
use Rattle.krb_tickets.specs.declared.ticket.Ticket.{Ticket}
use Rattle.krb_tickets.specs.EncryptedData.{encrypted_data}
use Rattle.krb_tickets.specs.EncryptedData as sealed_form
use Rattle.krb_tickets.specs.HostAddress.{host_address}
use Rattle.krb_tickets.specs.PrincipalName.{principal_name}
use Rattle.krb_tickets.specs.Ticket.{ticket}
use Rattle.krb_tickets.specs.Ticket as ticket_form
use Rattle.ticket_laws.proofs.Bytes.{Keeps, dropped_passed, end_keeps, field_keeps, field_passed, optional_passed, sealed_keeps}
use Rattle.krb_messages.specs.declared.kdc_req_body.KdcReqBody.{KdcReqBody}
use Rattle.krb_messages.specs.KdcReqBody.{kdc_req_body}
use Rattle.krb_messages.specs.KdcReqBody as body_form
use Rattle.as_core.specs.AsRequests.{extra_tickets}
use Rattle.proxy_requests.specs.Evidences.{tickets_of}
use Rattle.tgs_core.proofs.ReadRequests.{halves, optional_keeps}
use Rattle.tgs_core.proofs.SpelledFields.{Holds, behind_dropped, behind_holds, behind_optional, content_within, field_holds, optional_holds}

-- ---- in the spelling of a body

tickets_hold : (x : body_form.Parts) → Holds (length (optional_spelling 11 (sequence_of ticket) x.1.1.1.1.1.1.1.1.1.0)) body_form.parts x
tickets_hold (options, (cname, (realm, (sname, (start, (till, (rtime, (nonce, (etype, (tickets, rest)))))))))) =
    let n = length (optional_spelling 11 (sequence_of ticket) tickets) in
    behind_holds n 0 flags _ _ _ (
    behind_optional n 1 principal_name _ _ _ (
    behind_holds n 2 realm_name _ _ _ (
    behind_optional n 3 principal_name _ _ _ (
    behind_optional n 4 kerberos_time _ _ _ (
    behind_holds n 5 kerberos_time _ _ _ (
    behind_optional n 6 kerberos_time _ _ _ (
    behind_holds n 7 nonce_number _ _ _ (
    behind_holds n 8 (sequence_of int32) _ _ _ (
    behind_dropped n 9 (sequence_of host_address) _ _ (
    behind_dropped n 10 encrypted_data _ _ (
    optional_holds 11 (sequence_of ticket) end tickets rest)))))))))))

tickets_in_body : (body : KdcReqBody) → length (optional_spelling 11 (sequence_of ticket) body.additional_tickets) ≤ length (kdc_req_body.spelling body)
unfolding kdc_req_body
tickets_in_body body =
    let parts : body_form.Parts = body_form.parts_of body in
    let held = (tickets_hold parts).le in
    omega (arith, held, content_within 48 (body_form.parts.content.spelling parts))

-- ---- how many they are

count_within : (tickets : List Ticket) → length tickets ≤ length (flat_map ticket.spelling tickets)
count_within [] = omega arith
count_within (one ∷ tickets) =
    let content : List ℕ = element 48 (ticket_form.parts.content.spelling (ticket_form.parts_of one)) in
    let some : length content + 1 ≤ length (ticket.spelling one) = content_within 97 content in
    omega (arith, some, count_within tickets, ap length (flat_map-cons ticket.spelling one tickets), length-append (ticket.spelling one) (flat_map ticket.spelling tickets))

extra_within : (tickets : Option (List Ticket)) → extra_tickets tickets ≤ length (optional_spelling 11 (sequence_of ticket) tickets)
extra_within None = omega arith
extra_within (Some tickets) =
    let list : List ℕ = flat_map ticket.spelling tickets in
    omega (arith, count_within tickets, content_within 48 list, content_within (tag_of 11) (element 48 list))

pub extra_in_body : (body : KdcReqBody) → extra_tickets body.additional_tickets ≤ length (kdc_req_body.spelling body)
extra_in_body body = omega (arith, extra_within body.additional_tickets, tickets_in_body body)

-- ---- how long what is sealed in them is

cipher_holds : (x : sealed_form.Parts) → Holds (length (octets.spelling x.1.1.0)) sealed_form.parts x
cipher_holds (etype, (kvno, (cipher, rest))) =
    let n = length (octets.spelling cipher) in
    behind_holds n 0 int32 _ _ _ (
    behind_optional n 1 uint32 _ _ _ (
    field_holds 2 octets end cipher rest))

cipher_within : (sealed : EncryptedData) → length sealed.cipher ≤ length (encrypted_data.spelling sealed)
cipher_within sealed =
    let parts : sealed_form.Parts = sealed_form.parts_of sealed in
    let held = (cipher_holds parts).le in
    omega (arith, held, content_within 4 sealed.cipher, content_within 48 (sealed_form.parts.content.spelling parts))

sealed_holds : (x : ticket_form.Parts) → Holds (length (encrypted_data.spelling x.1.1.1.0)) ticket_form.parts x
sealed_holds (version, (realm, (sname, (sealed, rest)))) =
    let n = length (encrypted_data.spelling sealed) in
    behind_holds n 0 (number_is (pos 5)) _ _ _ (
    behind_holds n 1 realm_name _ _ _ (
    behind_holds n 2 principal_name _ _ _ (
    field_holds 3 encrypted_data end sealed rest)))

sealed_within : (one : Ticket) → length one.sealed.cipher ≤ length (ticket.spelling one)
sealed_within one =
    let parts : ticket_form.Parts = ticket_form.parts_of one in
    let fields : List ℕ = ticket_form.parts.content.spelling parts in
    let held = (sealed_holds parts).le in
    omega (arith, held, cipher_within one.sealed, content_within 48 fields, content_within 97 (element 48 fields))

-- fewer bytes than 32 bits count
abbrev AreShort : List Ticket → Type 0
AreShort tickets = AllByRecursion (λ one. length one.sealed.cipher < 2 ^ 32) tickets

all_short : (tickets : List Ticket) → length (flat_map ticket.spelling tickets) < 2 ^ 32 → AreShort tickets
all_short [] h = tt
all_short (one ∷ tickets) h =
    let whole = ap length (flat_map-cons ticket.spelling one tickets) in
    let both = length-append (ticket.spelling one) (flat_map ticket.spelling tickets) in
    (omega (arith, h, whole, both, sealed_within one), all_short tickets (omega (arith, h, whole, both)))

tickets_short : (tickets : Option (List Ticket)) → length (optional_spelling 11 (sequence_of ticket) tickets) < 2 ^ 32 → AreShort (tickets_of tickets)
tickets_short None h = tt
tickets_short (Some tickets) h =
    let list : List ℕ = flat_map ticket.spelling tickets in
    all_short tickets (omega (arith, h, content_within 48 list, content_within (tag_of 11) (element 48 list)))

pub sealed_short : (body : KdcReqBody) → length (kdc_req_body.spelling body) < 2 ^ 32 → AllByRecursion (λ one. length one.sealed.cipher < 2 ^ 32) (tickets_of body.additional_tickets)
sealed_short body h = tickets_short body.additional_tickets (omega (arith, h, tickets_in_body body))

-- ---- what is sealed in them is of bytes

pub ticket_keeps : (bytes : List ℕ) (one : Ticket) → IsBytes bytes → ticket.IsDer bytes one → IsBytes one.sealed.cipher
ticket_keeps bytes one h d =
    let fields = field_passed 0 (number_is (pos 5)) _ _ (field_passed 1 realm_name _ _ (field_passed 2 principal_name _ _ (field_keeps 3 encrypted_data _ _ _ sealed_keeps end_keeps))) in
    let outer = IsBytes-content 97 bytes d.content h d.outside in
    let inner = IsBytes-content 48 d.content d.inside.content outer d.inside.outside in
    let own = fields.keeps d.inside.content d.inside.inside.parts inner d.inside.inside.spelt in
    subst (λ (t : Ticket). IsBytes t.sealed.cipher) d.inside.inside.made own.0

abbrev AreSealedOfBytes : List Ticket → Type 0
AreSealedOfBytes tickets = AllByRecursion (λ one. IsBytes one.sealed.cipher) tickets

list_keeps : (bytes : List ℕ) (tickets : List Ticket) → IsBytes bytes → AreItems ticket.IsDer bytes tickets → AreSealedOfBytes tickets
list_keeps bytes [] h d = tt
list_keeps bytes (one ∷ tickets) h d = let parts = halves bytes d h in (ticket_keeps d.front one parts.0 d.first, list_keeps d.rest tickets parts.1 d.second)

tickets_keep : (bytes : List ℕ) (tickets : Option (List Ticket)) → IsBytes bytes → IsOptional 11 (sequence_of ticket) bytes tickets → AreSealedOfBytes (tickets_of tickets)
tickets_keep bytes None h d = tt
tickets_keep bytes (Some tickets) h d =
    let element = IsBytes-content 171 bytes d.content h d.outside in
    list_keeps d.inside.content tickets (IsBytes-content 48 d.content d.inside.content element d.inside.outside) d.inside.inside

body_keeps : Keeps body_form.parts (λ x. AreSealedOfBytes (tickets_of x.1.1.1.1.1.1.1.1.1.0) × Unit {0})
body_keeps =
    field_passed 0 flags _ _ (
    optional_passed 1 principal_name _ _ (
    field_passed 2 realm_name _ _ (
    optional_passed 3 principal_name _ _ (
    optional_passed 4 kerberos_time _ _ (
    field_passed 5 kerberos_time _ _ (
    optional_passed 6 kerberos_time _ _ (
    field_passed 7 nonce_number _ _ (
    field_passed 8 (sequence_of int32) _ _ (
    dropped_passed 9 (sequence_of host_address) _ _ (
    dropped_passed 10 encrypted_data _ _ (
    optional_keeps 11 (sequence_of ticket) _ (λ tickets. AreSealedOfBytes (tickets_of tickets)) _ tickets_keep
    end_keeps)))))))))))

pub sealed_of_bytes : (bytes : List ℕ) (body : KdcReqBody) → IsBytes bytes → kdc_req_body.IsDer bytes body → AllByRecursion (λ one. IsBytes one.sealed.cipher) (tickets_of body.additional_tickets)
unfolding kdc_req_body
sealed_of_bytes bytes body h d =
    let own = body_keeps.keeps d.content d.inside.parts (IsBytes-content 48 bytes d.content h d.outside) d.inside.spelt in
    subst (λ (b : KdcReqBody). AreSealedOfBytes (tickets_of b.additional_tickets)) d.inside.made own.0

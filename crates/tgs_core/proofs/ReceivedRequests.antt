-- What a message is known to be that was read.
use Rattle.std.proofs.Common.{◌≡◌, ℕ, ◌<◌, ◌≤◌, ◌^◌, Bool, true, false, List, [], ◌∷◌, ◌++◌, length, Option, Some, None, refl, sym, ap, length-append, arith}
use Rattle.std.specs.Prelude.{IfSome, if◌then◌else◌}
use Rattle.std.specs.List.{AllByRecursion, flat_map}
use Rattle.std.proofs.lemmas.Bool.Decides.{nat_tests}
use Rattle.std.proofs.lemmas.List.Concat.{flat_map-cons}
use Rattle.der_core.specs.Codec.{whole}
use Rattle.der_core.specs.Elements.{element}
use Rattle.der_core.specs.Forms.{int32, number_is, octets}
use Rattle.der_core.specs.Laws.{IsBytes}
use Rattle.der_forms.specs.Choices.{tag_in}
use Rattle.der_forms.specs.Fields.{end, field, optional_spelling, tag_of}
use Rattle.der_forms.specs.Kept.{kept}
use Rattle.der_forms.specs.Lists.{sequence_of}
use Rattle.krb_names.specs.declared.principal.Principal.{Principal}
use Rattle.krb_tickets.specs.PrincipalName.{in_realm, name_of, named, principal_name, unnamed}
use Rattle.krb_tickets.specs.Transited.{is_realm}
use Rattle.ticket_laws.proofs.Texts.{parts_only, realm_only}
use Rattle.ticket_laws.proofs.Values.{int32_only}
use Rattle.krb_messages.specs.declared.kdc_req.KdcReq.{KdcReq}
use Rattle.krb_messages.specs.declared.kdc_req_body.KdcReqBody.{KdcReqBody}
use Rattle.krb_messages.specs.declared.pa_data.PaData.{PaData}
use Rattle.krb_messages.specs.KdcReq.{is_as_req, kdc_req, msg_type_of}
use Rattle.krb_messages.specs.KdcReq as request_form
use Rattle.krb_messages.specs.KdcReqBody.{kdc_req_body}
use Rattle.krb_messages.specs.Laws.{kdc_req_body_lawful}
use Rattle.krb_messages.specs.PaData.{pa_data}
use Rattle.as_core.specs.Stamps.{items_of}
use Rattle.ticket_codec.specs.Made.{IsTicketName}
use Rattle.tgs_core.specs.Received.{IsReceived}
use Rattle.tgs_core.specs.Requests.{is_within_limit, message_in, message_told}
use Rattle.tgs_core.proofs.ReadRequests.{IsRead, message_is_told}
use Rattle.tgs_core.proofs.ReceivedTickets.{extra_in_body, sealed_of_bytes, sealed_short}
use Rattle.tgs_core.proofs.SpelledFields.{Holds, behind_holds, behind_optional, content_within, field_holds, optional_holds}

-- ---- the padata and the body of a message

padata_holds : (is_as : Bool) (x : request_form.Parts) → Holds (length (optional_spelling 3 (sequence_of pa_data) x.1.1.0)) (request_form.parts is_as) x
padata_holds is_as (pvno, (kind, (padata, rest))) =
    let n = length (optional_spelling 3 (sequence_of pa_data) padata) in
    behind_holds n 1 int32 _ _ _ (behind_holds n 2 (number_is (msg_type_of is_as)) _ _ _ (optional_holds 3 (sequence_of pa_data) (field 4 (kept kdc_req_body) end) padata rest))

body_holds : (is_as : Bool) (x : request_form.Parts) → Holds (length x.1.1.1.0.1) (request_form.parts is_as) x
body_holds is_as (pvno, (kind, (padata, (body, rest)))) =
    let n = length body.1 in
    behind_holds n 1 int32 _ _ _ (
    behind_holds n 2 (number_is (msg_type_of is_as)) _ _ _ (
    behind_optional n 3 (sequence_of pa_data) _ _ _ (
    field_holds 4 (kept kdc_req_body) end body rest)))

record Spells (message : KdcReq) : Type 0 where
  padata : length (optional_spelling 3 (sequence_of pa_data) message.padata) ≤ length (kdc_req.spelling message)
  body : length message.body_bytes ≤ length (kdc_req.spelling message)

spells : (message : KdcReq) → Spells message
unfolding kdc_req
spells message =
    let is_as : Bool = is_as_req message in
    let parts : request_form.Parts = request_form.parts_of message in
    let fields : List ℕ = (request_form.parts is_as).content.spelling parts in
    let inner = content_within 48 fields in
    let outer = content_within (tag_in 0x6a 0x6c is_as) (element 48 fields) in
    let padata = (padata_holds is_as parts).le in
    let body = (body_holds is_as parts).le in
    record { padata = omega (arith, inner, outer, padata); body = omega (arith, inner, outer, body) }

-- ---- padata

value_within : (item : PaData) → length item.padata_value ≤ length (pa_data.spelling item)
value_within item =
    let front : List ℕ = element (tag_of 1) (int32.spelling item.padata_type) in
    let behind : List ℕ = element (tag_of 2) (octets.spelling item.padata_value) ++ [] in
    omega (
      arith,
      content_within 4 item.padata_value,
      content_within (tag_of 2) (octets.spelling item.padata_value),
      length-append (element (tag_of 2) (octets.spelling item.padata_value)) [],
      length-append front behind,
      content_within 48 (front ++ behind),
    )

items_short : (n : ℕ) (items : List PaData) → length (flat_map pa_data.spelling items) ≤ n → AllByRecursion (λ item. length item.padata_value ≤ n) items
items_short n [] h = tt
items_short n (item ∷ items) h =
    let whole = ap length (flat_map-cons pa_data.spelling item items) in
    let both = length-append (pa_data.spelling item) (flat_map pa_data.spelling items) in
    (omega (arith, h, whole, both, value_within item), items_short n items (omega (arith, h, whole, both)))

padata_short : (n : ℕ) (padata : Option (List PaData)) → length (optional_spelling 3 (sequence_of pa_data) padata) ≤ n → AllByRecursion (λ item. length item.padata_value ≤ n) (items_of padata)
padata_short n None h = tt
padata_short n (Some items) h =
    let list : List ℕ = flat_map pa_data.spelling items in
    items_short n items (omega (arith, h, content_within 48 list, content_within (tag_of 3) (element 48 list)))

-- fewer bytes than 32 bits count
all_few : (items : List PaData) → AllByRecursion (λ item. length item.padata_value ≤ 393216) items → AllByRecursion (λ item. length item.padata_value < 2 ^ 32) items
all_few [] h = tt
all_few (item ∷ items) h = let few = h.0 in (omega (arith, few), all_few items h.1)

-- ---- names

server_named : (realm : List ℕ) (server : Option Principal) → is_realm realm ≡ true → named realm (unnamed server) ≡ server → IfSome (unnamed server) principal_name.Fits
    → IfSome server (IsTicketName realm)
server_named realm None h e fits = tt
server_named realm (Some server) h e fits =
    let same : in_realm (name_of server) realm ≡ server = cc in
    record {
      realm = h;
      same = sym (ap (λ (p : Principal). p.realm) same);
      kind = int32_only server.kind fits.1.0;
      parts = parts_only server.kind server.parts fits.1.1.0;
    }

record HasNames (body : KdcReqBody) : Type 0 where
  realm : is_realm body.realm ≡ true
  server : IfSome body.sname (IsTicketName body.realm)

body_names : (body : KdcReqBody) → kdc_req_body.Fits body → HasNames body
unfolding kdc_req_body
body_names body fits =
    let realm = realm_only body.realm fits.1.1.1.0 in
    record { realm = realm; server = server_named body.realm body.sname realm (ap (λ (b : KdcReqBody). b.sname) fits.0) fits.1.1.1.1.0 }

body_is_der : (message : KdcReq) → kdc_req.Fits message → kdc_req_body.IsDer message.body_bytes message.req_body
unfolding kdc_req
body_is_der message fits = fits.1.1.1.1.0

-- ---- the message

short_is_received : (message : KdcReq) → IsRead message → length (kdc_req.spelling message) ≤ 393216 → IsReceived message
short_is_received message read short =
    let spelt = spells message in
    let padata = spelt.padata in
    let bytes = spelt.body in
    let body = body_is_der message read.fits in
    let names = body_names message.req_body (kdc_req_body_lawful.fits message.body_bytes message.req_body read.bytes body) in
    let longer = kdc_req_body_lawful.no_longer message.body_bytes message.req_body read.bytes body in
    let extra = extra_in_body message.req_body in
    let few = padata_short 393216 message.padata (omega (arith, padata, short)) in
    record {
      fits = read.fits;
      realm = names.realm;
      server = names.server;
      padata = all_few (items_of message.padata) few;
      short = few;
      octets = read.octets;
      tickets = omega (arith, short, bytes, longer, extra);
      sealed = sealed_short message.req_body (omega (arith, short, bytes, longer));
      sealed_octets = sealed_of_bytes message.body_bytes message.req_body read.bytes body;
    }

by_limit : (within : Bool) (bytes : List ℕ) (message : KdcReq) (found : Option KdcReq) → is_within_limit bytes ≡ within → (if within then found else None) ≡ Some message → length bytes ≤ 131072
by_limit true bytes message found within e = grind (arith, nat_tests)
by_limit false bytes message found within e = absurd cc

pub within_is : (bytes : List ℕ) (message : KdcReq) → message_in bytes ≡ Some message → length bytes ≤ 131072
unfolding message_in
within_is bytes message e = by_limit (is_within_limit bytes) bytes message (message_told (whole kdc_req bytes)) refl e

pub message_is_received : (bytes : List ℕ) (message : KdcReq) → IsBytes bytes → message_in bytes ≡ Some message → IsReceived message
message_is_received bytes message are_bytes read =
    let told = message_is_told bytes message are_bytes read in
    let few = within_is bytes message read in
    let longer = told.no_longer in
    short_is_received message told.read (omega (arith, few, longer))

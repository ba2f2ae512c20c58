-- Requests can be written, and how long they are.
use Rattle.std.proofs.Common.{◌≡◌, ℕ, ◌+◌, ◌*◌, ◌<◌, ◌≤◌, ◌^◌, Bool, true, false, List, [], ◌∷◌, ◌++◌, length, pos, Option, Some, None, refl, ap, length-append, arith}
use Rattle.std.specs.Prelude.{IfSome, is_some, option_map}
use Rattle.std.specs.List.{flat_map, AllByRecursion}
use Rattle.std.proofs.lemmas.List.Concat.{flat_map-cons}
use Rattle.der_core.specs.BitStrings.{bit_string}
use Rattle.der_core.specs.Elements.{element}
use Rattle.der_core.specs.Forms.{int32, number_is, octets}
use Rattle.der_core.specs.Integers.{integer}
use Rattle.der_core.specs.IntegerLaws.{integer_spelt}
use Rattle.der_forms.specs.Choices.{tag_in}
use Rattle.der_forms.specs.Kept.{kept}
use Rattle.der_forms.specs.Lists.{sequence_of}
use Rattle.der_forms.specs.Names.{realm}
use Rattle.der_forms.specs.Times.{kerberos_time}
use Rattle.der_forms.specs.Values.{flags as flag_bits, nonce as nonce_number}
use Rattle.krb_names.specs.declared.principal.Principal.{Principal}
use Rattle.krb_names.proofs.TimeLaw.{written_again}
use Rattle.krb_tickets.specs.declared.ticket.Ticket.{Ticket}
use Rattle.krb_tickets.specs.EncryptedData.{encrypted_data}
use Rattle.krb_tickets.specs.HostAddress.{host_address}
use Rattle.krb_tickets.specs.PrincipalName.{name_of, principal_name, unnamed}
use Rattle.krb_tickets.specs.Ticket.{ticket}
use Rattle.ticket_laws.proofs.Fields.{Within, dropped_within, end_within, field_within, optional_within}
use Rattle.ticket_laws.proofs.Sizes.{element_within}
use Rattle.ticket_laws.proofs.Texts.{realm_fits, realm_short}
use Rattle.ticket_laws.proofs.Values.{int32_fits, int32_within, name_fits, name_within, number_within, time_within}
use Rattle.krb_messages.specs.declared.kdc_req.KdcReq.{KdcReq}
use Rattle.krb_messages.specs.declared.kdc_req_body.KdcReqBody.{KdcReqBody}
use Rattle.krb_messages.specs.declared.pa_data.PaData.{PaData}
use Rattle.krb_messages.specs.KdcReq.{is_as_req, kdc_req, make, msg_type_of, parts_of}
use Rattle.krb_messages.specs.KdcReq as req_form
use Rattle.krb_messages.specs.KdcReqBody.{kdc_req_body}
use Rattle.krb_messages.specs.KdcReqBody as body_form
use Rattle.krb_messages.specs.KdcReqLaws.{IsOwn}
use Rattle.krb_messages.specs.PaData.{pa_data}
use Rattle.krb_messages.specs.PaData as pa_form
use Rattle.s4u_client.specs.declared.cred.Want.{Want}
use Rattle.s4u_client.specs.Requests.{asked_in, body_of, options_of, request_of, tickets_of}
use Rattle.s4u_client.specs.Writable.{AreShort, IsName, IsShortItem, IsShortTicket, IsWant}

-- ---- PA-DATA

item_fits : (x : PaData) → IsShortItem x → pa_data.Fits x
item_fits x w = (refl, (int32_fits x.padata_type w.kind, (tt, tt)))

items_fit : (items : List PaData) → AllByRecursion IsShortItem items → AllByRecursion pa_data.Fits items
items_fit [] h = tt
items_fit (x ∷ xs) h = (item_fits x h.0, items_fit xs h.1)

item_short : (x : PaData) → IsShortItem x → length (pa_data.spelling x) ≤ 2 ^ 27 + 4600
item_short x w =
    let n = 6 + 14 + (6 + (6 + (2 ^ 27 + 4500)) + 0) in
    let fields : Within pa_form.parts (pa_form.parts_of x) n =
    field_within 1 int32 _ _ _ _ _ (int32_within x.padata_type w.kind) (
    field_within 2 octets _ _ _ _ _ (element_within 4 (2 ^ 27 + 4500) x.padata_value w.few)
    end_within) in
    omega (arith, element_within 48 n (pa_form.parts.content.spelling (pa_form.parts_of x)) fields.le)

items_short : (items : List PaData) → AllByRecursion IsShortItem items → length (flat_map pa_data.spelling items) ≤ (2 ^ 27 + 4600) * length items
items_short [] h = omega arith
items_short (x ∷ xs) h =
    omega (arith, item_short x h.0, items_short xs h.1, ap length (flat_map-cons pa_data.spelling x xs), length-append (pa_data.spelling x) (flat_map pa_data.spelling xs))

pub one_short : (a : PaData) → IsShortItem a → AreShort (a ∷ [])
one_short a h = record { each = (h, tt); few = omega arith }

pub two_short : (a b : PaData) → IsShortItem a → IsShortItem b → AreShort (a ∷ b ∷ [])
two_short a b h k = record { each = (h, (k, tt)); few = omega arith }

pub three_short : (a b c : PaData) → IsShortItem a → IsShortItem b → IsShortItem c → AreShort (a ∷ b ∷ c ∷ [])
three_short a b c h k l = record { each = (h, (k, (l, tt))); few = omega arith }

-- ---- KDC-REQ-BODY

options_small : (a b : Bool) → options_of a b < 2 ^ 32
options_small true true = omega arith
options_small true false = omega arith
options_small false true = omega arith
options_small false false = omega arith

client_fits : (want : Want) (client : Option Principal) → IfSome client IsName → IfSome (unnamed (option_map (asked_in want.realm) client)) principal_name.Fits
client_fits want None h = tt
client_fits want (Some p) h = name_fits (name_of p) h.kind h.parts

client_short : (want : Want) (client : Option Principal) → IfSome client IsName → IfSome (unnamed (option_map (asked_in want.realm) client)) (λ name. length (principal_name.spelling name) ≤ 2126)
client_short want None h = tt
client_short want (Some p) h = name_within (name_of p) h.kind h.parts

evidence_fits : (evidence : Option Ticket) → IfSome evidence IsShortTicket → IfSome (tickets_of evidence) (sequence_of ticket).Fits
evidence_fits None h = tt
evidence_fits (Some t) h = (h.fits, tt)

evidence_short : (evidence : Option Ticket) → IfSome evidence IsShortTicket → IfSome (tickets_of evidence) (λ tickets. length ((sequence_of ticket).spelling tickets) ≤ 6 + 2 ^ 27)
evidence_short None h = tt
evidence_short (Some t) h =
    element_within 48 (2 ^ 27) (flat_map ticket.spelling (t ∷ [])) (omega (arith, h.short, ap length (flat_map-cons ticket.spelling t []), length-append (ticket.spelling t) []))

body_again : (want : Want) (client : Option Principal) (evidence : Option Ticket) → body_form.make (body_form.parts_of (body_of want client evidence)) ≡ body_of want client evidence
body_again want None evidence = refl
body_again want (Some p) evidence = refl

etypes_fit : (sequence_of int32).Fits (pos 18 ∷ pos 17 ∷ [])
etypes_fit = (int32_fits (pos 18) (record { sfits = omega arith }), (int32_fits (pos 17) (record { sfits = omega arith }), tt))

etypes_short : length ((sequence_of int32).spelling (pos 18 ∷ pos 17 ∷ [])) ≤ 34
etypes_short =
    let eighteen = int32_within (pos 18) (record { sfits = omega arith }) in
    let seventeen = int32_within (pos 17) (record { sfits = omega arith }) in
    element_within 48 28 (flat_map int32.spelling (pos 18 ∷ pos 17 ∷ [])) (omega (arith, eighteen, seventeen, length-append (int32.spelling (pos 18)) (int32.spelling (pos 17) ++ []), length-append (int32.spelling (pos 17)) []))

pub body_fits : (want : Want) (client : Option Principal) (evidence : Option Ticket) → IsWant want → IfSome client IsName → IfSome evidence IsShortTicket
    → kdc_req_body.Fits (body_of want client evidence)
unfolding kdc_req_body
body_fits want client evidence w c e = (
  body_again want client evidence,
  (
    (refl, options_small want.forwardable (is_some evidence)),
    (
      client_fits want client c,
      (
        realm_fits want.realm w.realm,
        (
          name_fits (name_of want.server) w.kind w.parts,
          (
            tt,
            (
              written_again want.till w.till,
              (
                tt,
                (
                  w.nonce,
                  (etypes_fit, (refl, (tt, (refl, (tt, (evidence_fits evidence e, tt)))))),
                ),
              ),
            ),
          ),
        ),
      ),
    ),
  ),
)

bits_short : (bits : ℕ) → length (element 3 (bit_string bits)) ≤ 11
unfolding bit_string
bits_short bits = element_within 3 5 (bit_string bits) (omega arith)

pub body_short : (want : Want) (client : Option Principal) (evidence : Option Ticket) → IsWant want → IfSome client IsName → IfSome evidence IsShortTicket
    → length (kdc_req_body.spelling (body_of want client evidence)) ≤ 2 ^ 27 + 8192
unfolding kdc_req_body
body_short want client evidence w c e =
    let x : KdcReqBody = body_of want client evidence in
    let n = 6 + 11 + (6 + 2126 + (6 + 261 + (6 + 2126 + (6 + 21 + (6 + 21 + (6 + 21 + (6 + 14 + (6 + 34 + (6 + (6 + 2 ^ 27) + 0))))))))) in
    let fields : Within body_form.parts (body_form.parts_of x) n =
    field_within 0 flag_bits _ _ _ _ _ (bits_short (options_of want.forwardable (is_some evidence))) (
    optional_within 1 principal_name _ _ _ _ _ (client_short want client c) (
    field_within 2 realm _ _ _ _ _ (element_within 27 255 want.realm (realm_short want.realm w.realm)) (
    optional_within 3 principal_name _ _ _ _ _ (name_within (name_of want.server) w.kind w.parts) (
    optional_within 4 kerberos_time _ None _ 21 _ tt (
    field_within 5 kerberos_time _ _ _ _ _ (time_within want.till) (
    optional_within 6 kerberos_time _ None _ 21 _ tt (
    field_within 7 nonce_number _ _ _ _ _ (element_within 2 8 (integer want.nonce) (integer_spelt want.nonce w.nonce.1.0).few) (
    field_within 8 (sequence_of int32) _ _ _ _ _ etypes_short (
    dropped_within 9 (sequence_of host_address) _ _ _ (
    dropped_within 10 encrypted_data _ _ _ (
    optional_within 11 (sequence_of ticket) _ _ _ _ _ (evidence_short evidence e)
    end_within))))))))))) in
    omega (arith, element_within 48 n (body_form.parts.content.spelling (body_form.parts_of x)) fields.le)

-- ---- KDC-REQ

kind_again : (is_as : Bool) (items : List PaData) (body : KdcReqBody) → make (is_as_req (request_of is_as items body)) (parts_of (request_of is_as items body)) ≡ request_of is_as items body
kind_again true items body = refl
kind_again false items body = refl

pub request_own : (is_as : Bool) (items : List PaData) (body : KdcReqBody) → AreShort items → kdc_req_body.Fits body → length (kdc_req_body.spelling body) ≤ 2 ^ 27 + 8192
    → IsOwn (request_of is_as items body)
request_own is_as items body w fits short = record {
  kind = kind_again is_as items body;
  pvno = int32_fits (pos 5) (record { sfits = omega arith });
  padata = items_fit items w.each;
  body = fits;
  own = refl;
  short = omega (arith, short);
}

type_short : (is_as : Bool) → length ((number_is (msg_type_of is_as)).spelling tt) ≤ 14
type_short true = number_within 10 (omega arith)
type_short false = number_within 12 (omega arith)

three_items : (n : ℕ) → n ≤ 3 → (2 ^ 27 + 4600) * n ≤ 3 * (2 ^ 27 + 4600)
three_items n few = omega (arith, few)

pub request_short : (is_as : Bool) (items : List PaData) (body : KdcReqBody) → AreShort items → length (kdc_req_body.spelling body) ≤ 2 ^ 27 + 8192
    → length (kdc_req.spelling (request_of is_as items body)) < 2 ^ 30
unfolding kdc_req
request_short is_as items body w short =
    let x : KdcReq = request_of is_as items body in
    let m = 3 * (2 ^ 27 + 4600) in
    let n = 6 + 14 + (6 + 14 + (6 + (6 + m) + (6 + (2 ^ 27 + 8192) + 0))) in
    let all = element_within 48 m (flat_map pa_data.spelling items) (omega (arith, items_short items w.each, three_items (length items) w.few)) in
    let fields : Within (req_form.parts (is_as_req x)) (parts_of x) n =
    field_within 1 int32 _ _ _ _ _ (int32_within (pos 5) (record { sfits = omega arith })) (
    field_within 2 (number_is (msg_type_of (is_as_req x))) _ _ _ _ _ (type_short (is_as_req x)) (
    optional_within 3 (sequence_of pa_data) _ (Some items) _ (6 + m) _ all (
    field_within 4 (kept kdc_req_body) _ _ _ _ _ short
    end_within))) in
    let inside = element_within 48 n ((req_form.parts (is_as_req x)).content.spelling (parts_of x)) fields.le in
    omega (arith, element_within (tag_in 0x6a 0x6c (is_as_req x)) (6 + n) (element 48 ((req_form.parts (is_as_req x)).content.spelling (parts_of x))) inside)

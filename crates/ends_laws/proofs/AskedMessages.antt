-- The message that a client begins, as the KDC reads it.
use Rattle.std.proofs.Common.{◌≡◌, ◌∙◌, ℕ, Bool, true, false, List, [], ◌∷◌, length, Option, None, Some, Ok, refl, sym, ap, subst}
use Rattle.std.specs.Prelude.{Result, option_and_then, option_map}
use Rattle.std.specs.List.{filter}
use Rattle.kdc_prelude.specs.Steps.{◌>>=◌}
use Rattle.der_core.specs.declared.refusal.DerRefusal.{DerRefusal}
use Rattle.der_core.specs.Codec.{whole}
use Rattle.krb_names.specs.declared.key.Key.{Key}
use Rattle.krb_names.specs.declared.moment.Moment.{Moment}
use Rattle.krb_names.specs.declared.principal.Principal.{Principal}
use Rattle.krb_crypto.specs.BlockCipher.{IsKey}
use Rattle.krb_crypto.specs.Encryption.{opened}
use Rattle.krb_messages.specs.declared.ap_req.ApReq.{ApReq}
use Rattle.krb_messages.specs.declared.authenticator.Authenticator.{Authenticator}
use Rattle.krb_messages.specs.declared.kdc_req.KdcReq.{KdcReq}
use Rattle.krb_messages.specs.declared.pa_data.PaData.{PaData}
use Rattle.krb_messages.specs.Authenticator.{authenticator}
use Rattle.krb_messages.specs.KdcReq.{kdc_req}
use Rattle.krb_messages.specs.KdcReqBody.{kdc_req_body}
use Rattle.dir_records.specs.DirectoryValue.{DirectoryValue}
use Rattle.dir_core.specs.Lookups.{realm_named}
use Rattle.as_core.specs.Stamps.{items_of}
use Rattle.ticket_codec.specs.declared.opening.Opened.{Opened}
use Rattle.tgs_requests.specs.declared.header.Header.{Header}
use Rattle.tgs_requests.specs.Askings.{is_of_type, only, read_or_none}
use Rattle.tgs_requests.specs.Headers.{ap_req_in, ap_req_of, authenticator_in, authenticator_of_text, header_by, header_in, header_with, ticket_opened}
use Rattle.tgs_requests.specs.Headers as headers
use Rattle.tgs_core.specs.Requests.{Request, is_within_limit, message_in, message_told, request_in, request_of, request_to}
use Rattle.tgs_core.proofs.FoundGrants.{mapped_of, some_is, step_of}
use Rattle.tgs_core.proofs.ReadRequests.{told_some, within_some}
use Rattle.s4u_client.specs.declared.cred.Cred.{Cred}
use Rattle.s4u_client.specs.declared.cred.Want.{Want}
use Rattle.s4u_client.specs.Reads.{IsRandom}
use Rattle.s4u_client.specs.Requests.{as_request, authenticator_at, body_of, body_sum, header_item, header_of, proxy_request, self_request, subkey_of, tgs_request}
use Rattle.s4u_client.specs.Writable.{IsCred, IsWant}
use Rattle.s4u_client.proofs.Opens.{authenticators_open}
use Rattle.s4u_client.proofs.ReadBack.{as_requests_read, headers_read, proxy_requests_read, self_requests_read, tgs_requests_read}
use Rattle.ends_laws.specs.Ends.{Asking, OnBehalf, IsAsking, Itself, Ordinarily, WithEvidence, begun_by}

-- ---- the request

abbrev pub message_by : Asking → Want → Moment → List ℕ → KdcReq
message_by (Itself client key) want made own = as_request client key want made own
message_by (Ordinarily tgt) want made own = tgs_request tgt want made own
message_by (OnBehalf tgt user) want made own = self_request tgt user want made own
message_by (WithEvidence tgt evidence user rbcd) want made own = proxy_request tgt evidence rbcd want made own

pub message_reads : (dir : DirectoryValue) (want : Want) (asking : Asking) (made : Moment) (own : List ℕ) → IsWant want → IsAsking dir want asking → length own ≡ 64
    → whole kdc_req (begun_by asking want made own).bytes ≡ Ok (message_by asking want made own)
message_reads dir want (Itself client key) made own w h long = as_requests_read client key want made own h.name w long
message_reads dir want (Ordinarily tgt) made own w h long = tgs_requests_read tgt want made own h.cred w long
message_reads dir want (OnBehalf tgt user) made own w h long = self_requests_read tgt user want made own h.0.cred h.1.0 w long
message_reads dir want (WithEvidence tgt evidence user rbcd) made own w h long = proxy_requests_read tgt evidence user rbcd want made own h.0.cred h.1.0 w long

-- what is asked: the message, to the realm at an index
pub record IsAsked (dir : DirectoryValue) (message : KdcReq) (request : Request) : Type 0 where
  pub at : ℕ
  pub known : realm_named dir message.req_body.realm ≡ Some at
  pub is : request_to message at ≡ request

one_message : (a b : KdcReq) → (let r : Result KdcReq DerRefusal = Ok a in r) ≡ Ok b → a ≡ b
one_message a b e = cc

read_as : (bytes : List ℕ) (found message : KdcReq) → message_in bytes ≡ Some found → whole kdc_req bytes ≡ Ok message → found ≡ message
unfolding message_in
read_as bytes found message e reads =
    let read = told_some (whole kdc_req bytes) found (within_some (is_within_limit bytes) (message_told (whole kdc_req bytes)) found e) in
    one_message found message (sym read ∙ reads)

pub request_is : (dir : DirectoryValue) (bytes : List ℕ) (message : KdcReq) (request : Request) → whole kdc_req bytes ≡ Ok message → request_in dir bytes ≡ Some request → IsAsked dir message request
unfolding request_in
request_is dir bytes message request reads e =
    let found = step_of (message_in bytes) (request_of dir) request e in
    let same : found.value ≡ message = read_as bytes found.value message found.was reads in
    let asked : request_of dir message ≡ Some request = ap (request_of dir) (sym same) ∙ found.is in
    let at = mapped_of (realm_named dir message.req_body.realm) (request_to message) request asked in
    record { at = at.value; known = at.was; is = at.is }

-- ---- PA-TGS-REQ

-- a TGS-REQ with one PA-TGS-REQ, and these padata behind it
abbrev HasOneHeader : KdcReq → Cred → Moment → List ℕ → List ℕ → Type 0
HasOneHeader message tgt made own body = filter (is_of_type 1) (items_of message.padata) ≡ header_item tgt made own body ∷ []

tgs_header : (tgt : Cred) (want : Want) (made : Moment) (own : List ℕ) → HasOneHeader (tgs_request tgt want made own) tgt made own (kdc_req_body.spelling (body_of want None None))
unfolding tgs_request
tgs_header tgt want made own = refl

self_header : (tgt : Cred) (user : Principal) (want : Want) (made : Moment) (own : List ℕ) → HasOneHeader (self_request tgt user want made own) tgt made own (kdc_req_body.spelling (body_of want None None))
unfolding self_request
self_header tgt user want made own = refl

proxy_header : (tgt evidence : Cred) (rbcd : Bool) (want : Want) (made : Moment) (own : List ℕ)
    → HasOneHeader (proxy_request tgt evidence rbcd want made own) tgt made own (kdc_req_body.spelling (body_of want None (Some evidence.ticket)))
unfolding proxy_request
proxy_header tgt evidence true want made own = refl
proxy_header tgt evidence false want made own = refl

header_reads : (message : KdcReq) (tgt : Cred) (made : Moment) (own body : List ℕ) → HasOneHeader message tgt made own body → IsCred tgt → length own ≡ 64 → ap_req_of message ≡ Some (header_of tgt made own body)
unfolding ap_req_of
header_reads message tgt made own body e w long =
    ap (λ (items : List PaData). only items >>= ap_req_in) e ∙ ap read_or_none (headers_read tgt made own body w long)

-- ---- the header

-- the authenticator of the client
abbrev auth_by : Cred → Moment → List ℕ → List ℕ → Authenticator
auth_by tgt made own body = authenticator_at tgt.client made (Some (body_sum tgt.session body)) (Some (subkey_of own))

text_reads : (text : Option (List ℕ)) (auth : Authenticator) → option_map (whole authenticator) text ≡ Some (Ok auth) → authenticator_of_text text ≡ Some auth
text_reads None auth h = absurd (cc)
text_reads (Some text) auth h = ap read_or_none (some_is (whole authenticator text) (Ok auth) h)

-- what the KDC finds of it
pub record IsHeaderOf (dir : DirectoryValue) (at : ℕ) (tgt : Cred) (made : Moment) (own body : List ℕ) (header : Header) : Type 0 where
  pub found : ticket_opened dir at tgt.ticket ≡ Some header.opened
  pub auth : header.auth ≡ auth_by tgt made own body
  pub is : header_with dir at header.opened header.auth ≡ header

opened_header : (dir : DirectoryValue) (at : ℕ) (tgt : Cred) (made : Moment) (own body : List ℕ) (opened : Opened) (header : Header) → IsCred tgt → IsKey tgt.session → IsRandom own
    → ticket_opened dir at tgt.ticket ≡ Some opened → opened.part.key ≡ tgt.session → header_by dir at (header_of tgt made own body).authenticator opened ≡ Some header
    → IsHeaderOf dir at tgt made own body header
opened_header dir at tgt made own body opened header w own_key random found key e =
    let sealed = (header_of tgt made own body).authenticator in
    let auth : Authenticator = auth_by tgt made own body in
    let reads : authenticator_in tgt.session sealed ≡ Some auth = text_reads _ auth (authenticators_open.header tgt made own body w own_key random) in
    let shown : authenticator_in opened.part.key sealed ≡ Some auth = ap (λ (k : Key). authenticator_in k sealed) key ∙ reads in
    let made_of : Option Authenticator → Option Header = λ (o : Option Authenticator). option_map (header_with dir at opened) o in
    let is : header_with dir at opened auth ≡ header = some_is (header_with dir at opened auth) header (sym (ap made_of shown) ∙ e) in
    subst (IsHeaderOf dir at tgt made own body) is (record { found = found; auth = refl; is = refl })

ap_header : (dir : DirectoryValue) (at : ℕ) (tgt : Cred) (made : Moment) (own body : List ℕ) (opened : Option Opened) (header : Header) → IsCred tgt → IsKey tgt.session → IsRandom own
    → ((o : Opened) → ticket_opened dir at tgt.ticket ≡ Some o → o.part.key ≡ tgt.session) → ticket_opened dir at tgt.ticket ≡ opened
    → option_and_then (header_by dir at (header_of tgt made own body).authenticator) opened ≡ Some header → IsHeaderOf dir at tgt made own body header
ap_header dir at tgt made own body None header w own_key random keys found e = absurd (cc)
ap_header dir at tgt made own body (Some opened) header w own_key random keys found e =
    opened_header dir at tgt made own body opened header w own_key random found (keys opened found) e

header_is : (dir : DirectoryValue) (at : ℕ) (message : KdcReq) (tgt : Cred) (made : Moment) (own body : List ℕ) (header : Header) → HasOneHeader message tgt made own body → IsCred tgt → IsKey tgt.session
    → IsRandom own → ((o : Opened) → ticket_opened dir at tgt.ticket ≡ Some o → o.part.key ≡ tgt.session) → header_in dir at message ≡ Some header → IsHeaderOf dir at tgt made own body header
unfolding header_in
header_is dir at message tgt made own body header one w own_key random keys e =
    let by : Option ApReq → Option Header = λ (o : Option ApReq). option_and_then (headers.header_of dir at) o in
    let of_ap : headers.header_of dir at (header_of tgt made own body) ≡ Some header = sym (ap by (header_reads message tgt made own body one w random.long)) ∙ e in
    ap_header dir at tgt made own body (ticket_opened dir at tgt.ticket) header w own_key random keys refl of_ap

-- ---- by how it asks

-- the header of a TGS-REQ
pub tgs_header_is : (dir : DirectoryValue) (at : ℕ) (tgt : Cred) (want : Want) (made : Moment) (own : List ℕ) (header : Header) → IsCred tgt → IsKey tgt.session → IsRandom own
    → ((o : Opened) → ticket_opened dir at tgt.ticket ≡ Some o → o.part.key ≡ tgt.session) → header_in dir at (tgs_request tgt want made own) ≡ Some header
    → IsHeaderOf dir at tgt made own (kdc_req_body.spelling (body_of want None None)) header
tgs_header_is dir at tgt want made own header w own_key random keys e =
    header_is dir at (tgs_request tgt want made own) tgt made own (kdc_req_body.spelling (body_of want None None)) header (tgs_header tgt want made own) w own_key random keys e

pub self_header_is : (dir : DirectoryValue) (at : ℕ) (tgt : Cred) (user : Principal) (want : Want) (made : Moment) (own : List ℕ) (header : Header) → IsCred tgt → IsKey tgt.session → IsRandom own
    → ((o : Opened) → ticket_opened dir at tgt.ticket ≡ Some o → o.part.key ≡ tgt.session) → header_in dir at (self_request tgt user want made own) ≡ Some header
    → IsHeaderOf dir at tgt made own (kdc_req_body.spelling (body_of want None None)) header
self_header_is dir at tgt user want made own header w own_key random keys e =
    header_is dir at (self_request tgt user want made own) tgt made own (kdc_req_body.spelling (body_of want None None)) header (self_header tgt user want made own) w own_key random keys e

pub proxy_header_is : (dir : DirectoryValue) (at : ℕ) (tgt evidence : Cred) (rbcd : Bool) (want : Want) (made : Moment) (own : List ℕ) (header : Header) → IsCred tgt → IsKey tgt.session → IsRandom own
    → ((o : Opened) → ticket_opened dir at tgt.ticket ≡ Some o → o.part.key ≡ tgt.session) → header_in dir at (proxy_request tgt evidence rbcd want made own) ≡ Some header
    → IsHeaderOf dir at tgt made own (kdc_req_body.spelling (body_of want None (Some evidence.ticket))) header
proxy_header_is dir at tgt evidence rbcd want made own header w own_key random keys e =
    header_is dir at (proxy_request tgt evidence rbcd want made own) tgt made own (kdc_req_body.spelling (body_of want None (Some evidence.ticket))) header (proxy_header tgt evidence rbcd want made own) w own_key random keys e

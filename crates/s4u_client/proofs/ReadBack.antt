-- Each message of a client reads as what it was made of.
use Rattle.std.proofs.Common.{◌≡◌, ℕ, ◌+◌, ◌<◌, ◌≤◌, ◌^◌, Bool, true, false, List, [], ◌∷◌, length, drop, Option, Some, None, Ok, length-drop, length-take, arith}
use Rattle.std.specs.Prelude.{IfSome, codes}
use Rattle.std.specs.List.{AllByRecursion}
use Rattle.der_core.specs.Codec.{whole}
use Rattle.der_forms.proofs.Readings.{is_again}
use Rattle.krb_names.specs.declared.key.Key.{Key}
use Rattle.krb_names.specs.Keys.{key_bytes}
use Rattle.krb_names.specs.declared.moment.Moment.{Moment}
use Rattle.krb_names.specs.declared.principal.Principal.{Principal}
use Rattle.krb_tickets.specs.declared.ticket.Ticket.{Ticket}
use Rattle.krb_tickets.specs.EncryptedData.{encrypted_data}
use Rattle.krb_tickets.specs.Laws.{encrypted_data_lawful}
use Rattle.krb_messages.specs.declared.checksum.Checksum.{Checksum}
use Rattle.krb_messages.specs.declared.kdc_req_body.KdcReqBody.{KdcReqBody}
use Rattle.krb_messages.specs.declared.pa_data.PaData.{PaData}
use Rattle.krb_messages.specs.ApReq.{ap_req}
use Rattle.krb_messages.specs.Authenticator.{authenticator}
use Rattle.krb_messages.specs.KdcReq.{kdc_req}
use Rattle.krb_messages.specs.KdcReqBody.{kdc_req_body}
use Rattle.krb_messages.specs.KdcReqLaws.{own_fits}
use Rattle.krb_messages.specs.Laws.{ap_req_lawful, kdc_req_lawful}
use Rattle.krb_messages.specs.PaEncTsEnc.{pa_enc_ts_enc}
use Rattle.s4u_padata.specs.Covered.{for_user_bytes}
use Rattle.s4u_padata.specs.ForUser.{for_user}
use Rattle.s4u_padata.specs.Laws.{for_user_lawful, pac_options_lawful, x509_user_lawful}
use Rattle.kdc_records.specs.Bits.{bit_if}
use Rattle.s4u_padata.specs.PacOptions.{pac_options}
use Rattle.s4u_padata.specs.X509User.{x509_user}
use Rattle.s4u_client.specs.declared.cred.Cred.{Cred}
use Rattle.s4u_client.specs.declared.cred.Want.{Want}
use Rattle.s4u_client.specs.Reads.{AsRequestsRead, HeadersRead, ProxyRequestsRead, SelfRequestsRead, ServiceRequestsRead, StampsRead, TgsRequestsRead, UsersRead}
use Rattle.s4u_client.specs.Requests.{as_request, authenticator_at, body_of, body_sum, confounder_of, for_user_of, header_item, header_of, proxy_items, proxy_request, rbcd_options, request_of, sealed_under, self_items, self_request, service_request, shown_with, stamp_at, stamp_item, subkey_of, tgs_request, x509_user_of}
use Rattle.s4u_client.specs.Writable.{AreShort, IsCred, IsName, IsShortItem, IsShortSum, IsShortTicket, IsWant, IsWhole}
use Rattle.s4u_client.proofs.Forms.{auth_short, sealed_fits, sealed_short, shown_fits, shown_short, stamp_short}
use Rattle.s4u_client.proofs.Keys.{mac_short, sum_type_fits, whole_subkey}
use Rattle.s4u_client.proofs.Rc4Sums.{rc4_short}
use Rattle.s4u_client.proofs.RequestForms.{body_fits, body_short, request_own, request_short}
use Rattle.s4u_client.proofs.SealedSizes.{seal_within}
use Rattle.s4u_client.proofs.UserForms.{for_user_fits, for_user_short, options_fit, options_short, x509_user_fits, x509_user_short}

-- ---- the random block

pub confounder_long : (block : List ℕ) → length block ≡ 64 → length (confounder_of block) ≡ 16
confounder_long block long = omega (arith, long, length-take 16 (drop 32 block), length-drop 32 block)

-- ---- what is sealed

pub sum_short : (key : Key) (body : List ℕ) → IsShortSum (body_sum key body)
sum_short key body = record { kind = sum_type_fits key.etype; few = let few = mac_short key 6 body in omega (arith, few) }

cipher_short : (key : Key) (usage n : ℕ) (block text : List ℕ) → length block ≡ 64 → length text ≤ n → length (sealed_under key usage (confounder_of block) text).cipher ≤ n + 28
cipher_short key usage n block text long few = omega (arith, few, seal_within key usage (confounder_of block) text (confounder_long block long))

shown_cipher : (cred : Cred) (usage : ℕ) (now : Moment) (block : List ℕ) (sum : Option Checksum) (subkey : Option Key) → IsCred cred → length block ≡ 64 → IfSome sum IsShortSum → IfSome subkey IsWhole
    → length (sealed_under cred.session usage (confounder_of block) (authenticator.spelling (authenticator_at cred.client now sum subkey))).cipher ≤ 4124
shown_cipher cred usage now block sum subkey w long h k =
    cipher_short cred.session usage 4096 block (authenticator.spelling (authenticator_at cred.client now sum subkey)) long (auth_short cred.client now sum subkey w.client h k)

-- ---- AP-REQ

header_cipher : (tgt : Cred) (now : Moment) (block body : List ℕ) → IsCred tgt → length block ≡ 64 → length (header_of tgt now block body).authenticator.cipher ≤ 4124
header_cipher tgt now block body w long = shown_cipher tgt 7 now block (Some (body_sum tgt.session body)) (Some (subkey_of block)) w long (sum_short tgt.session body) (whole_subkey block long)

header_short : (tgt : Cred) (now : Moment) (block body : List ℕ) → IsCred tgt → length block ≡ 64 → length (ap_req.spelling (header_of tgt now block body)) ≤ 2 ^ 27 + 4500
header_short tgt now block body w long =
    shown_short tgt 0 7 block (authenticator.spelling (authenticator_at tgt.client now (Some (body_sum tgt.session body)) (Some (subkey_of block)))) w (header_cipher tgt now block body w long)

pub headers_read : HeadersRead
headers_read tgt now block body w long =
    let few = header_short tgt now block body w long in
    is_again ap_req ap_req_lawful (header_of tgt now block body) (shown_fits tgt 0 7 block (authenticator.spelling (authenticator_at tgt.client now (Some (body_sum tgt.session body)) (Some (subkey_of block)))) w (omega arith)) (omega (arith, few))

mutual_bit : (is_mutual : Bool) → bit_if 2 is_mutual < 2 ^ 32
mutual_bit true = omega arith
mutual_bit false = omega arith

pub service_requests_read : ServiceRequestsRead
unfolding service_request
service_requests_read cred is_mutual now block w long =
    let auth : List ℕ = authenticator.spelling (authenticator_at cred.client now None None) in
    let few = shown_short cred (bit_if 2 is_mutual) 11 block auth w (shown_cipher cred 11 now block None None w long tt tt) in
    is_again ap_req ap_req_lawful (shown_with cred (bit_if 2 is_mutual) 11 block auth) (shown_fits cred (bit_if 2 is_mutual) 11 block auth w (mutual_bit is_mutual)) (omega (arith, few))

-- ---- padata

stamp_cipher : (key : Key) (now : Moment) (block : List ℕ) → length block ≡ 64 → length (encrypted_data.spelling (sealed_under key 1 (confounder_of block) (pa_enc_ts_enc.spelling (stamp_at now)))) ≤ 161
stamp_cipher key now block long =
    let text : List ℕ = pa_enc_ts_enc.spelling (stamp_at now) in
    sealed_short key 1 81 (confounder_of block) text (cipher_short key 1 53 block text long (stamp_short now))

pub stamps_read : StampsRead
stamps_read key now block long =
    let text : List ℕ = pa_enc_ts_enc.spelling (stamp_at now) in
    let few = stamp_cipher key now block long in
    is_again encrypted_data encrypted_data_lawful (sealed_under key 1 (confounder_of block) text) (sealed_fits key 1 (confounder_of block) text) (omega (arith, few))

user_sum : (user : Principal) (session : Key) → length (for_user_of user session).sum ≤ 16
user_sum user session = rc4_short (key_bytes session) 17 (for_user_bytes user (codes "Kerberos"))

pub users_read : UsersRead
users_read = record {
  x509 = λ want user subkey w n.
      let few = x509_user_short want user subkey w n in
      is_again x509_user x509_user_lawful (x509_user_of want user subkey) (x509_user_fits want user subkey w n) (omega (arith, few));
  name = λ user session n.
      let sum = user_sum user session in
      let few = for_user_short user session n sum in
      is_again for_user for_user_lawful (for_user_of user session) (for_user_fits user session n sum) (omega (arith, few));
  options = let few = options_short in is_again pac_options pac_options_lawful rbcd_options options_fit (omega (arith, few));
}

-- ---- KDC-REQ

header_item_short : (tgt : Cred) (now : Moment) (block body : List ℕ) → IsCred tgt → length block ≡ 64 → IsShortItem (header_item tgt now block body)
header_item_short tgt now block body w long = record { kind = record { sfits = omega arith }; few = header_short tgt now block body w long }

-- with these padata, and a body
request_reads : (is_as : Bool) (items : List PaData) (want : Want) (client : Option Principal) (evidence : Option Ticket)
    → AreShort items → IsWant want → IfSome client IsName → IfSome evidence IsShortTicket
    → whole kdc_req (kdc_req.spelling (request_of is_as items (body_of want client evidence))) ≡ Ok (request_of is_as items (body_of want client evidence))
request_reads is_as items want client evidence few w c e =
    let body : KdcReqBody = body_of want client evidence in
    let short = body_short want client evidence w c e in
    let own = request_own is_as items body few (body_fits want client evidence w c e) short in
    let size = request_short is_as items body few short in
    is_again kdc_req kdc_req_lawful (request_of is_as items body) (own_fits (request_of is_as items body) own) (omega (arith, size))

pub as_requests_read : AsRequestsRead
unfolding as_request
as_requests_read client key want now block n w long =
    let few = stamp_cipher key now block long in
    let item : IsShortItem (stamp_item key now block) = record { kind = record { sfits = omega arith }; few = omega (arith, few) } in
    request_reads true (stamp_item key now block ∷ []) want (Some client) None (record { each = (item, tt); few = omega arith }) w n tt

pub tgs_requests_read : TgsRequestsRead
unfolding tgs_request
tgs_requests_read tgt want now block t w long =
    let body : List ℕ = kdc_req_body.spelling (body_of want None None) in
    request_reads false (header_item tgt now block body ∷ []) want None None (record { each = (header_item_short tgt now block body t long, tt); few = omega arith }) w tt tt

self_items_short : (tgt : Cred) (user : Principal) (want : Want) (block : List ℕ) → IsName user → IsWant want → AllByRecursion IsShortItem (self_items tgt user want block)
self_items_short tgt user want block n w =
    let x509 = x509_user_short want user (subkey_of block) w n in
    let name = for_user_short user tgt.session n (user_sum user tgt.session) in (
      record { kind = record { sfits = omega arith }; few = omega (arith, x509) },
      (record { kind = record { sfits = omega arith }; few = omega (arith, name) }, tt),
    )

pub self_requests_read : SelfRequestsRead
unfolding self_request
self_requests_read tgt user want now block t n w long =
    let body : List ℕ = kdc_req_body.spelling (body_of want None None) in
    request_reads false (header_item tgt now block body ∷ self_items tgt user want block) want None None
    (record { each = (header_item_short tgt now block body t long, self_items_short tgt user want block n w); few = omega arith }) w tt tt

proxy_items_short : (rbcd : Bool) → AllByRecursion IsShortItem (proxy_items rbcd)
proxy_items_short true = (record { kind = record { sfits = omega arith }; few = let few = options_short in omega (arith, few) }, tt)
proxy_items_short false = tt

proxy_items_few : (rbcd : Bool) → length (proxy_items rbcd) ≤ 1
proxy_items_few true = omega arith
proxy_items_few false = omega arith

pub proxy_requests_read : ProxyRequestsRead
unfolding proxy_request
proxy_requests_read tgt evidence user rbcd want now block t e w long =
    let body : List ℕ = kdc_req_body.spelling (body_of want None (Some evidence.ticket)) in
    let few = proxy_items_few rbcd in
    request_reads false (header_item tgt now block body ∷ proxy_items rbcd) want None (Some evidence.ticket)
    (record { each = (header_item_short tgt now block body t long, proxy_items_short rbcd); few = omega (arith, few) }) w tt e.shown

-- The requests of a client (RFC 4120, sections 3.1.1, 3.2.2 and 3.3.1; MS-SFU, sections 3.1.5.1.1 and 3.1.5.2.1).
use Rattle.std.specs.Prelude.{ℕ, ◌+◌, pos, negsuc, Bool, true, false, List, [], ◌∷◌, codes, take, slice_range, Option, None, Some, is_some, option_map}
use Rattle.krb_names.specs.declared.etype.Etype.TheVariants.{Aes256}
use Rattle.krb_names.specs.declared.key.Key.{Key}
use Rattle.krb_names.specs.declared.moment.Moment.{Moment}
use Rattle.krb_names.specs.declared.principal.Principal.{Principal}
use Rattle.krb_names.specs.Etypes.{etype_number}
use Rattle.krb_names.specs.Keys.{key_bytes, key_of}
use Rattle.krb_crypto.specs.Checksums.{mac, rc4_mac}
use Rattle.krb_crypto.specs.Encryption.{seal}
use Rattle.krb_tickets.specs.declared.encrypted_data.EncryptedData.{EncryptedData}
use Rattle.krb_tickets.specs.declared.ticket.Ticket.{Ticket}
use Rattle.krb_tickets.specs.EncryptedData.{encrypted_data}
use Rattle.krb_tickets.specs.PrincipalName.{in_realm, name_of}
use Rattle.krb_messages.specs.declared.ap_req.ApReq.{ApReq}
use Rattle.krb_messages.specs.declared.authenticator.Authenticator.{Authenticator}
use Rattle.krb_messages.specs.declared.checksum.Checksum.{Checksum}
use Rattle.krb_messages.specs.declared.kdc_req.KdcReq.{KdcReq}
use Rattle.krb_messages.specs.declared.kdc_req_body.KdcReqBody.{KdcReqBody}
use Rattle.krb_messages.specs.declared.pa_data.PaData.{PaData}
use Rattle.krb_messages.specs.declared.pa_enc_ts_enc.PaEncTsEnc.{PaEncTsEnc}
use Rattle.krb_messages.specs.ApReq.{ap_req}
use Rattle.krb_messages.specs.Authenticator.{authenticator}
use Rattle.krb_messages.specs.KdcReq.{kdc_req, msg_type_of}
use Rattle.krb_messages.specs.KdcReqBody.{kdc_req_body}
use Rattle.krb_messages.specs.PaEncTsEnc.{pa_enc_ts_enc}
use Rattle.pac_sign.specs.Sums.{sum_type}
use Rattle.s4u_padata.specs.declared.for_user.ForUser.{ForUser}
use Rattle.s4u_padata.specs.declared.pac_options.PacOptions.{PacOptions}
use Rattle.s4u_padata.specs.declared.user_id.UserId.{UserId}
use Rattle.s4u_padata.specs.declared.x509_user.X509User.{X509User}
use Rattle.s4u_padata.specs.Covered.{for_user_bytes}
use Rattle.s4u_padata.specs.ForUser.{for_user}
use Rattle.s4u_padata.specs.PacOptions.{pac_options}
use Rattle.s4u_padata.specs.UserId.{user_id}
use Rattle.s4u_padata.specs.X509User.{x509_user}
use Rattle.kdc_records.specs.Bits.{bit_if}
use Rattle.s4u_client.specs.declared.cred.Begun.{Begun}
use Rattle.s4u_client.specs.declared.cred.Cred.{Cred}
use Rattle.s4u_client.specs.declared.cred.Pending.{Pending}
use Rattle.s4u_client.specs.declared.cred.Want.{Want}

-- ---- what the random block of a request is for (own choice)

-- the authenticator's subkey, of type 18: the bytes 0 to 31
abbrev pub subkey_of : List ℕ → Key
subkey_of block = key_of Aes256 (take 32 block)

-- the confounder of what the client seals: the bytes 32 to 47
abbrev pub confounder_of : List ℕ → List ℕ
confounder_of block = slice_range block 32 48

-- sealed without a version of the key
abbrev pub sealed_under : Key → ℕ → List ℕ → List ℕ → EncryptedData
sealed_under key usage conf text = record { etype = pos (etype_number key.etype); kvno = None; cipher = seal key usage conf text }

-- ---- KDC-REQ-BODY (RFC 4120, section 5.4.1)

-- a name in the realm that is asked
abbrev pub asked_in : List ℕ → Principal → Principal
asked_in realm name = in_realm (name_of name) realm

-- KDCOptions: forwardable is bit 1, cname-in-addl-tkt bit 14
abbrev pub options_of : Bool → Bool → ℕ
options_of forwardable with_evidence = bit_if 1 forwardable + bit_if 14 with_evidence

-- the evidence is the one additional ticket
abbrev pub tickets_of : Option Ticket → Option (List Ticket)
tickets_of None = None
tickets_of (Some evidence) = Some (evidence ∷ [])

-- the types 18 and 17 are asked for, in this order
abbrev pub body_of : Want → Option Principal → Option Ticket → KdcReqBody
body_of want client evidence = record {
  kdc_options = options_of want.forwardable (is_some evidence);
  cname = option_map (asked_in want.realm) client;
  realm = want.realm;
  sname = Some (asked_in want.realm want.server);
  from = None;
  till = want.till;
  rtime = None;
  nonce = want.nonce;
  etype = pos 18 ∷ pos 17 ∷ [];
  additional_tickets = tickets_of evidence;
}

-- a KDC-REQ whose body is in the one spelling of its fields
abbrev pub request_of : Bool → List PaData → KdcReqBody → KdcReq
request_of is_as padata body =
    record { pvno = pos 5; msg_type = msg_type_of is_as; padata = Some padata; req_body = body; body_bytes = kdc_req_body.spelling body }

-- ---- AS-REQ (RFC 4120, section 3.1.1)

-- PA-ENC-TIMESTAMP, sealed with usage 1 (RFC 4120, sections 5.2.7.2 and 7.5.1)
abbrev pub stamp_at : Moment → PaEncTsEnc
stamp_at now = record { patimestamp = now.secs; pausec = Some (pos now.micros) }

abbrev pub stamp_item : Key → Moment → List ℕ → PaData
stamp_item key now block = record {
  padata_type = pos 2;
  padata_value = encrypted_data.spelling (sealed_under key 1 (confounder_of block) (pa_enc_ts_enc.spelling (stamp_at now)));
}

unfoldable pub as_request : Principal → Key → Want → Moment → List ℕ → KdcReq
as_request client key want now block =
    request_of true (stamp_item key now block ∷ []) (body_of want (Some client) None)

-- ---- AP-REQ and Authenticator (RFC 4120, section 5.5.1)

abbrev pub authenticator_at : Principal → Moment → Option Checksum → Option Key → Authenticator
authenticator_at client now sum subkey = record {
  authenticator_vno = pos 5;
  crealm = client.realm;
  cname = client;
  cksum = sum;
  cusec = pos now.micros;
  ctime = now.secs;
  subkey = subkey;
  seq_number = None;
}

-- the ticket, and an authenticator, here its bytes, under its session key
abbrev pub shown_with : Cred → ℕ → ℕ → List ℕ → List ℕ → ApReq
shown_with cred options usage block auth = record {
  pvno = pos 5;
  msg_type = pos 14;
  ap_options = options;
  ticket = cred.ticket;
  authenticator = sealed_under cred.session usage (confounder_of block) auth;
}

-- to a service, with usage 11; bit 2 asks for mutual authentication (RFC 4120, sections 3.2.2 and 7.5.1)
unfoldable pub service_request : Cred → Bool → Moment → List ℕ → ApReq
service_request cred is_mutual now block = shown_with cred (bit_if 2 is_mutual) 11 block (authenticator.spelling (authenticator_at cred.client now None None))

-- ---- TGS-REQ (RFC 4120, section 3.3.1)

-- the checksum of the body's bytes, with usage 6
abbrev pub body_sum : Key → List ℕ → Checksum
body_sum key body = record { cksumtype = pos (sum_type key.etype); checksum = mac key 6 body }

-- PA-TGS-REQ (RFC 4120, section 5.2.7.1), with usage 7
abbrev pub header_of : Cred → Moment → List ℕ → List ℕ → ApReq
header_of tgt now block body =
    shown_with tgt 0 7 block (authenticator.spelling (authenticator_at tgt.client now (Some (body_sum tgt.session body)) (Some (subkey_of block))))

abbrev pub header_item : Cred → Moment → List ℕ → List ℕ → PaData
header_item tgt now block body = record { padata_type = pos 1; padata_value = ap_req.spelling (header_of tgt now block body) }

abbrev pub tgs_request_with : Cred → Moment → List ℕ → List PaData → KdcReqBody → KdcReq
tgs_request_with tgt now block items body = request_of false (header_item tgt now block (kdc_req_body.spelling body) ∷ items) body

unfoldable pub tgs_request : Cred → Want → Moment → List ℕ → KdcReq
tgs_request tgt want now block = tgs_request_with tgt now block [] (body_of want None None)

-- ---- S4U2self (MS-SFU, sections 2.2.1 and 2.2.2)

-- the user-id of PA-S4U-X509-USER
abbrev pub user_id_of : Want → Principal → UserId
user_id_of want user = record { nonce = want.nonce; user = Some user; realm = user.realm; options = 0 }

-- with a checksum of usage 26 under the subkey
abbrev pub x509_user_of : Want → Principal → Key → X509User
x509_user_of want user subkey = record {
  nonce = want.nonce;
  user = Some user;
  realm = user.realm;
  options = 0;
  id_bytes = user_id.spelling (user_id_of want user);
  sum_type = pos (sum_type subkey.etype);
  sum = mac subkey 26 (user_id.spelling (user_id_of want user));
}

-- PA-FOR-USER, with a checksum of type -138 and usage 17 under the session key
abbrev pub for_user_of : Principal → Key → ForUser
for_user_of user session = record {
  user = user;
  sum_type = negsuc 137;
  sum = rc4_mac (key_bytes session) 17 (for_user_bytes user (codes "Kerberos"));
  «package» = codes "Kerberos";
}

abbrev pub self_items : Cred → Principal → Want → List ℕ → List PaData
self_items tgt user want block =
    (record { padata_type = pos 130; padata_value = x509_user.spelling (x509_user_of want user (subkey_of block)) })
    ∷ (record { padata_type = pos 129; padata_value = for_user.spelling (for_user_of user tgt.session) })
    ∷ []

unfoldable pub self_request : Cred → Principal → Want → Moment → List ℕ → KdcReq
self_request tgt user want now block = tgs_request_with tgt now block (self_items tgt user want block) (body_of want None None)

-- ---- S4U2proxy (MS-SFU, section 3.1.5.2.1; MS-KILE, section 2.2.10)

-- PA-PAC-OPTIONS with bit 3, resource-based constrained delegation
abbrev pub rbcd_options : PacOptions
rbcd_options = record { flags = bit_if 3 true }

abbrev pub proxy_items : Bool → List PaData
proxy_items false = []
proxy_items true = (record { padata_type = pos 167; padata_value = pac_options.spelling rbcd_options }) ∷ []

unfoldable pub proxy_request : Cred → Cred → Bool → Want → Moment → List ℕ → KdcReq
proxy_request tgt evidence rbcd want now block = tgs_request_with tgt now block (proxy_items rbcd) (body_of want None (Some evidence.ticket))

-- ---- what is begun

abbrev pub begun_with : KdcReq → Pending → Begun
begun_with message pending = record { bytes = kdc_req.spelling message; pending = pending }

-- a reply to an AS-REQ is opened with the client's key and usage 3, one to a TGS-REQ with the subkey and usage 9
abbrev pub begun_as : Principal → Key → Want → Moment → List ℕ → Begun
begun_as client key want now block =
    begun_with (as_request client key want now block) (record { want = want; client = client; own = client; key = key; usage = 3 })

-- for a client
abbrev pub pending_for : Cred → Principal → Want → List ℕ → Pending
pending_for tgt client want block = record { want = want; client = client; own = tgt.client; key = subkey_of block; usage = 9 }

abbrev pub begun_tgs : Cred → Want → Moment → List ℕ → Begun
begun_tgs tgt want now block = begun_with (tgs_request tgt want now block) (pending_for tgt tgt.client want block)

abbrev pub begun_self : Cred → Principal → Want → Moment → List ℕ → Begun
begun_self tgt user want now block = begun_with (self_request tgt user want now block) (pending_for tgt user want block)

abbrev pub begun_proxy : Cred → Cred → Principal → Bool → Want → Moment → List ℕ → Begun
begun_proxy tgt evidence user rbcd want now block =
    begun_with (proxy_request tgt evidence rbcd want now block) (pending_for tgt user want block)

abbrev pub begun_ap : Cred → Bool → Moment → List ℕ → List ℕ
begun_ap cred is_mutual now block = ap_req.spelling (service_request cred is_mutual now block)

-- What a client sends reads as what it was made of, and what it sealed opens (RFC 4120, sections 3.1.3, 3.2.3 and 3.3.3).
use Rattle.std.specs.Prelude.{◌≡◌, ℕ, List, Bool, length, Some, None, Ok, option_map}
use Rattle.aes_core.specs.Inverses.{AreBytes}
use Rattle.der_core.specs.Codec.{Codec, whole}
use Rattle.krb_names.specs.declared.key.Key.{Key}
use Rattle.krb_names.specs.declared.moment.Moment.{Moment}
use Rattle.krb_names.specs.declared.principal.Principal.{Principal}
use Rattle.krb_crypto.specs.BlockCipher.{IsKey}
use Rattle.krb_crypto.specs.Encryption.{opened}
use Rattle.krb_tickets.specs.EncryptedData.{encrypted_data}
use Rattle.krb_messages.specs.ApReq.{ap_req}
use Rattle.krb_messages.specs.Authenticator.{authenticator}
use Rattle.krb_messages.specs.KdcReq.{kdc_req}
use Rattle.krb_messages.specs.PaEncTsEnc.{pa_enc_ts_enc}
use Rattle.s4u_padata.specs.ForUser.{for_user}
use Rattle.s4u_padata.specs.PacOptions.{pac_options}
use Rattle.s4u_padata.specs.X509User.{x509_user}
use Rattle.s4u_client.specs.declared.cred.Cred.{Cred}
use Rattle.s4u_client.specs.declared.cred.Want.{Want}
use Rattle.s4u_client.specs.Requests.{as_request, authenticator_at, begun_ap, begun_as, begun_proxy, begun_self, begun_tgs, body_sum, confounder_of, for_user_of, header_item, header_of, proxy_request, rbcd_options, sealed_under, self_request, service_request, stamp_at, stamp_item, subkey_of, tgs_request, x509_user_of}
use Rattle.s4u_client.specs.Writable.{IsCred, IsName, IsWant}

-- all of the bytes read as the value
abbrev pub ReadAs : {X : Type 0} → Codec X → List ℕ → X → Type 0
ReadAs form bytes x = whole form bytes ≡ Ok x

-- the bytes open under the key, and what was sealed reads as the value
abbrev pub OpenAs : {X : Type 0} → Codec X → Key → ℕ → List ℕ → X → Type 0
OpenAs form key usage bytes x = option_map (whole form) (opened key usage bytes) ≡ Some (Ok x)

-- the random block of a request
pub record IsRandom (block : List ℕ) : Type 0 where
  pub long : length block ≡ 64
  pub octets : AreBytes block

-- ---- messages

abbrev pub AsRequestsRead : Type 0
AsRequestsRead = (client : Principal) (key : Key) (want : Want) (now : Moment) (block : List ℕ) → IsName client → IsWant want → length block ≡ 64
    → ReadAs kdc_req (begun_as client key want now block).bytes (as_request client key want now block)

abbrev pub TgsRequestsRead : Type 0
TgsRequestsRead = (tgt : Cred) (want : Want) (now : Moment) (block : List ℕ) → IsCred tgt → IsWant want → length block ≡ 64
    → ReadAs kdc_req (begun_tgs tgt want now block).bytes (tgs_request tgt want now block)

abbrev pub SelfRequestsRead : Type 0
SelfRequestsRead = (tgt : Cred) (user : Principal) (want : Want) (now : Moment) (block : List ℕ) → IsCred tgt → IsName user → IsWant want → length block ≡ 64
    → ReadAs kdc_req (begun_self tgt user want now block).bytes (self_request tgt user want now block)

abbrev pub ProxyRequestsRead : Type 0
ProxyRequestsRead = (tgt evidence : Cred) (user : Principal) (rbcd : Bool) (want : Want) (now : Moment) (block : List ℕ) → IsCred tgt → IsCred evidence → IsWant want → length block ≡ 64
    → ReadAs kdc_req (begun_proxy tgt evidence user rbcd want now block).bytes (proxy_request tgt evidence rbcd want now block)

abbrev pub ServiceRequestsRead : Type 0
ServiceRequestsRead = (cred : Cred) (is_mutual : Bool) (now : Moment) (block : List ℕ) → IsCred cred → length block ≡ 64
    → ReadAs ap_req (begun_ap cred is_mutual now block) (service_request cred is_mutual now block)

-- ---- padata

-- PA-TGS-REQ, whatever the body
abbrev pub HeadersRead : Type 0
HeadersRead = (tgt : Cred) (now : Moment) (block body : List ℕ) → IsCred tgt → length block ≡ 64
    → ReadAs ap_req (header_item tgt now block body).padata_value (header_of tgt now block body)

abbrev pub StampsRead : Type 0
StampsRead = (key : Key) (now : Moment) (block : List ℕ) → length block ≡ 64
    → ReadAs encrypted_data (stamp_item key now block).padata_value (sealed_under key 1 (confounder_of block) (pa_enc_ts_enc.spelling (stamp_at now)))

-- PA-S4U-X509-USER, PA-FOR-USER, PA-PAC-OPTIONS
pub record UsersRead : Type 0 where
  pub x509 : (want : Want) (user : Principal) (subkey : Key) → IsWant want → IsName user → ReadAs x509_user (x509_user.spelling (x509_user_of want user subkey)) (x509_user_of want user subkey)
  pub name : (user : Principal) (session : Key) → IsName user → ReadAs for_user (for_user.spelling (for_user_of user session)) (for_user_of user session)
  pub options : ReadAs pac_options (pac_options.spelling rbcd_options) rbcd_options

-- ---- what is sealed

abbrev pub StampsOpen : Type 0
StampsOpen = (key : Key) (now : Moment) (block : List ℕ) → IsKey key → IsRandom block
    → OpenAs pa_enc_ts_enc key 1 (sealed_under key 1 (confounder_of block) (pa_enc_ts_enc.spelling (stamp_at now))).cipher (stamp_at now)

-- the authenticator of a TGS-REQ, and that of an AP-REQ
pub record AuthenticatorsOpen : Type 0 where
  pub header : (tgt : Cred) (now : Moment) (block body : List ℕ) → IsCred tgt → IsKey tgt.session → IsRandom block
      → OpenAs authenticator tgt.session 7 (header_of tgt now block body).authenticator.cipher (authenticator_at tgt.client now (Some (body_sum tgt.session body)) (Some (subkey_of block)))
  pub service : (cred : Cred) (is_mutual : Bool) (now : Moment) (block : List ℕ) → IsCred cred → IsKey cred.session → IsRandom block
      → OpenAs authenticator cred.session 11 (service_request cred is_mutual now block).authenticator.cipher (authenticator_at cred.client now None None)

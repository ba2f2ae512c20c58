-- What a client sealed opens, and reads as what it was.
use Rattle.std.proofs.Common.{ℕ, ◌-◌, ◌<◌, ◌^◌, List, length, take, drop, replicate, Option, Some, None, ap, ◌∙◌, arith}
use Rattle.std.specs.Prelude.{IfSome, option_map}
use Rattle.aes_core.specs.Inverses.{AreBytes, IsBlock}
use Rattle.der_core.specs.Codec.{Codec, whole}
use Rattle.der_core.specs.Laws.{IsBytes, IsCodec}
use Rattle.der_core.specs.Steps.{IsBytes-append}
use Rattle.der_forms.proofs.Readings.{is_again}
use Rattle.krb_names.specs.declared.key.Key.{Key}
use Rattle.krb_names.specs.declared.moment.Moment.{Moment}
use Rattle.krb_names.specs.declared.principal.Principal.{Principal}
use Rattle.krb_crypto.proofs.ByteSums.{bytes_below}
use Rattle.krb_crypto.proofs.CtsInverse.{bytes-drop, bytes-take}
use Rattle.krb_crypto.specs.BlockCipher.{IsKey}
use Rattle.krb_crypto.specs.Encryption.{seal}
use Rattle.pac_laws.proofs.Bytes.{IsBytes-zeros}
use Rattle.aes_core.proofs.Inverse.{byte_in}
use Rattle.ticket_codec.proofs.Sealed.{opened_sealed}
use Rattle.krb_messages.specs.declared.checksum.Checksum.{Checksum}
use Rattle.krb_messages.specs.Authenticator.{authenticator}
use Rattle.krb_messages.specs.Laws.{authenticator_lawful, pa_enc_ts_enc_lawful}
use Rattle.krb_messages.specs.PaEncTsEnc.{pa_enc_ts_enc}
use Rattle.s4u_client.specs.declared.cred.Cred.{Cred}
use Rattle.s4u_client.specs.Reads.{AuthenticatorsOpen, IsRandom, OpenAs, StampsOpen}
use Rattle.s4u_client.specs.Requests.{authenticator_at, body_sum, confounder_of, service_request, stamp_at, subkey_of}
use Rattle.s4u_client.specs.Writable.{IsName, IsShortSum, IsWhole}
use Rattle.s4u_client.proofs.AuthBytes.{header_auth_bytes, service_auth_bytes, stamp_bytes}
use Rattle.s4u_client.proofs.Forms.{auth_fits, auth_short, stamp_fits, stamp_short}
use Rattle.s4u_client.proofs.Keys.{whole_subkey}
use Rattle.s4u_client.proofs.ReadBack.{confounder_long, sum_short}

confounder_is : (block : List ℕ) → IsRandom block → IsBlock (confounder_of block)
confounder_is block r = (confounder_long block r.long, bytes-take 16 (drop 32 block) (bytes-drop 32 block r.octets))

-- what was sealed of a value that can be written
sealed_opens : {X : Type 0} (c : Codec X) (key : Key) (usage : ℕ) (block : List ℕ) (x : X) → IsCodec c → c.Fits x → length (c.spelling x) < 2 ^ 32 → IsBytes (c.spelling x) → IsKey key → IsRandom block
    → OpenAs c key usage (seal key usage (confounder_of block) (c.spelling x)) x
sealed_opens c key usage block x lawful fits short octets own random =
    let text : List ℕ = c.spelling x in
    ap (option_map (whole c)) (opened_sealed key usage (confounder_of block) text own (confounder_is block random) (bytes_below text octets))
    ∙ (λ i. Some (is_again c lawful x fits short i))

pub stamps_open : StampsOpen
stamps_open key now block own random =
    let few = stamp_short now in
    sealed_opens pa_enc_ts_enc key 1 block (stamp_at now) pa_enc_ts_enc_lawful (stamp_fits now) (omega (arith, few)) (stamp_bytes now) own random

auth_opens : (key : Key) (usage : ℕ) (client : Principal) (now : Moment) (block : List ℕ) (sum : Option Checksum) (subkey : Option Key)
    → IsName client → IfSome sum IsShortSum → IfSome subkey IsWhole → IsBytes (authenticator.spelling (authenticator_at client now sum subkey)) → IsKey key → IsRandom block
    → OpenAs authenticator key usage (seal key usage (confounder_of block) (authenticator.spelling (authenticator_at client now sum subkey))) (authenticator_at client now sum subkey)
auth_opens key usage client now block sum subkey n h k octets own random =
    let few = auth_short client now sum subkey n h k in
    sealed_opens authenticator key usage block (authenticator_at client now sum subkey) authenticator_lawful (auth_fits client now sum subkey n h k) (omega (arith, few)) octets own random

subkey_bytes : (block : List ℕ) → AreBytes block → IsBytes (subkey_of block).raw
subkey_bytes block h =
    let front : List ℕ = take 32 block in
    IsBytes-append front (replicate (32 - length front) 0) (λ i. byte_in front i (bytes-take 32 block h)) (IsBytes-zeros (32 - length front))

header_opens : (tgt : Cred) (now : Moment) (block body : List ℕ) → IsName tgt.client → IsKey tgt.session → IsRandom block
    → OpenAs authenticator tgt.session 7 (seal tgt.session 7 (confounder_of block) (authenticator.spelling (authenticator_at tgt.client now (Some (body_sum tgt.session body)) (Some (subkey_of block)))))
    (authenticator_at tgt.client now (Some (body_sum tgt.session body)) (Some (subkey_of block)))
header_opens tgt now block body n own random =
    let k = whole_subkey block random.long in
    auth_opens tgt.session 7 tgt.client now block (Some (body_sum tgt.session body)) (Some (subkey_of block)) n (sum_short tgt.session body) k
    (header_auth_bytes tgt.client now tgt.session (subkey_of block) body n k (subkey_bytes block random.octets)) own random

pub authenticators_open : AuthenticatorsOpen
unfolding service_request
authenticators_open = record {
  header = λ tgt now block body w own random. header_opens tgt now block body w.client own random;
  service = λ cred is_mutual now block w own random.
      auth_opens cred.session 11 cred.client now block None None w.client tt tt (service_auth_bytes cred.client now w.client) own random;
}

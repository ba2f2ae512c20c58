-- The echo of PA-S4U-X509-USER can be written, and how long it is.
use Rattle.std.proofs.Common.{ℕ, ◌+◌, ◌≤◌, List, length, pos, refl, length-take, arith}
use Rattle.std.specs.Prelude.{FitsSigned}
use Rattle.std.specs.Int.{w32}
use Rattle.krb_names.specs.declared.etype.Etype.{Etype}
use Rattle.krb_names.specs.declared.etype.Etype.TheVariants.{Aes128, Aes256}
use Rattle.krb_names.specs.declared.key.Key.{Key}
use Rattle.krb_names.specs.Keys.{key_bytes}
use Rattle.krb_crypto.specs.Checksums.{mac}
use Rattle.krb_crypto.specs.Derivation.{checksum_key}
use Rattle.krb_crypto.specs.KeyedHash.{hmac_sha1}
use Rattle.der_core.specs.Forms.{int32, octets}
use Rattle.der_forms.specs.Kept.{kept}
use Rattle.ticket_laws.proofs.Fields.{Within, end_within, field_within}
use Rattle.ticket_laws.proofs.Sizes.{element_within}
use Rattle.ticket_laws.proofs.Values.{int32_fits, int32_within}
use Rattle.krb_messages.specs.declared.checksum.Checksum.{Checksum}
use Rattle.krb_messages.specs.Checksum.{checksum_form}
use Rattle.krb_messages.specs.Checksum as sum_form
use Rattle.pac_sign.specs.Sums.{sum_type}
use Rattle.s4u_padata.specs.declared.x509_user.X509User.{X509User}
use Rattle.s4u_padata.specs.UserId.{user_id}
use Rattle.s4u_padata.specs.X509User.{x509_user}
use Rattle.s4u_padata.specs.X509User as echo_form
use Rattle.tgs_core.specs.Grants.{IsEchoable}
use Rattle.tgs_core.specs.Replies.{echo, echo_usage}

type_fits : (e : Etype) → FitsSigned w32 (pos (sum_type e))
type_fits Aes128 = record { sfits = omega arith }
type_fits Aes256 = record { sfits = omega arith }

pub echo_fits : (key : Key) (asked : X509User) → IsEchoable asked → x509_user.Fits (echo key asked)
echo_fits key asked h = (
  refl,
  (
    h.fits.1.0,
    (
      (refl, (int32_fits (pos (sum_type key.etype)) (type_fits key.etype), (tt, tt))),
      tt,
    ),
  ),
)

mac_short : (key : Key) (usage : ℕ) (text : List ℕ) → length (mac key usage text) ≤ 12
mac_short key usage text = omega (arith, length-take 12 (hmac_sha1 (key_bytes (checksum_key key usage)) text))

-- with a checksum of at most 12 bytes
sum_within : (sum : Checksum) → FitsSigned w32 sum.cksumtype → length sum.checksum ≤ 12 → length (checksum_form.spelling sum) ≤ 50
sum_within sum kind few =
    let fields : Within sum_form.parts (sum_form.parts_of sum) (6 + 14 + (6 + 18 + 0)) =
    field_within 0 int32 _ _ _ _ _ (int32_within sum.cksumtype kind) (field_within 1 octets _ _ _ _ _ (element_within 4 12 sum.checksum few) end_within) in
    element_within 48 44 (sum_form.parts.content.spelling (sum_form.parts_of sum)) fields.le

pub echo_short : (key : Key) (asked : X509User) → length (x509_user.spelling (echo key asked)) ≤ 68 + length asked.id_bytes
echo_short key asked =
    let made : X509User = echo key asked in
    let n = length asked.id_bytes in
    let sum : Checksum = record { cksumtype = made.sum_type; checksum = made.sum } in
    let fields : Within echo_form.parts (echo_form.parts_of made) (6 + n + (6 + 50 + 0)) =
    field_within 0 (kept user_id) _ _ _ _ _ (omega arith) (
    field_within 1 checksum_form _ _ _ _ _ (sum_within sum (type_fits key.etype) (mac_short key (echo_usage asked) asked.id_bytes))
    end_within) in
    omega (arith, element_within 48 (6 + n + (6 + 50 + 0)) (echo_form.parts.content.spelling (echo_form.parts_of made)) fields.le)

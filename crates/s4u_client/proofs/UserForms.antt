-- The padata of S4U requests can be written, and how long they are.
use Rattle.std.proofs.Common.{◌≡◌, ◌+◌, ◌≤◌, true, [], length, pos, negsuc, refl, sym, subst, arith}
use Rattle.std.specs.Prelude.{FitsSigned, codes}
use Rattle.std.specs.Int.{w32}
use Rattle.std.specs.Str.{is_utf8}
use Rattle.std.specs.Str.{is_utf8}
use Rattle.std.proofs.lemmas.Str.{IsUtf8-from_ascii, is_utf8-from_IsUtf8}
use Rattle.std.proofs.lemmas.Str.Ascii.{IsAscii-cons, IsAscii-nil}
use Rattle.der_core.specs.Forms.{octets, text}
use Rattle.der_core.specs.Integers.{integer}
use Rattle.der_core.specs.IntegerLaws.{integer_spelt}
use Rattle.der_forms.specs.Defaults.{defaulted}
use Rattle.der_forms.specs.Fields.{end}
use Rattle.der_forms.specs.Kept.{kept}
use Rattle.der_forms.specs.KeptLaws.{spelt_fits}
use Rattle.der_forms.specs.Names.{realm}
use Rattle.der_forms.specs.Values.{flags, nonce as nonce_number}
use Rattle.krb_names.specs.declared.key.Key.{Key}
use Rattle.krb_names.specs.declared.principal.Principal.{Principal}
use Rattle.krb_tickets.specs.PrincipalName.{name_of, principal_name}
use Rattle.ticket_laws.proofs.Fields.{Within, dropped_within, end_within, field_within, optional_within}
use Rattle.ticket_laws.proofs.Sizes.{element_within}
use Rattle.ticket_laws.proofs.Texts.{realm_fits, realm_short}
use Rattle.ticket_laws.proofs.Values.{name_fits, name_within}
use Rattle.krb_messages.specs.Checksum.{checksum_form}
use Rattle.s4u_padata.specs.declared.for_user.ForUser.{ForUser}
use Rattle.s4u_padata.specs.declared.user_id.UserId.{UserId}
use Rattle.s4u_padata.specs.declared.x509_user.X509User.{X509User}
use Rattle.s4u_padata.specs.ForUser.{for_user}
use Rattle.s4u_padata.specs.ForUser as for_form
use Rattle.s4u_padata.specs.Laws.{user_id_lawful}
use Rattle.s4u_padata.specs.PacOptions.{pac_options}
use Rattle.s4u_padata.specs.PacOptions as options_form
use Rattle.s4u_padata.specs.UserId.{are_none, no_flags, user_id}
use Rattle.s4u_padata.specs.UserId as id_form
use Rattle.s4u_padata.specs.X509User.{x509_user}
use Rattle.s4u_padata.specs.X509User as x509_form
use Rattle.pac_sign.specs.Sums.{sum_type}
use Rattle.s4u_client.specs.declared.cred.Want.{Want}
use Rattle.s4u_client.specs.Requests.{for_user_of, rbcd_options, user_id_of, x509_user_of}
use Rattle.s4u_client.specs.Writable.{IsName, IsShortSum, IsWant}
use Rattle.s4u_client.proofs.Forms.{bits_short, sum_fits, sum_within}
use Rattle.s4u_client.proofs.Keys.{mac_short, sum_type_fits}

-- ---- S4UUserID (MS-SFU, section 2.2.2)

pub user_id_fits : (want : Want) (user : Principal) → IsWant want → IsName user → user_id.Fits (user_id_of want user)
unfolding user_id
user_id_fits want user w n = (
  refl,
  (
    w.nonce,
    (
      name_fits (name_of user) n.kind n.parts,
      (realm_fits user.realm n.realm, (refl, (tt, (refl, (tt, tt))))),
    ),
  ),
)

no_options : Within (defaulted 4 flags no_flags are_none end) (record { 0 = 0 }, tt) 0
no_options = record { le = omega arith }

pub user_id_short : (want : Want) (user : Principal) → IsWant want → IsName user → length (user_id.spelling (user_id_of want user)) ≤ 3000
unfolding user_id
user_id_short want user w n =
    let x : UserId = user_id_of want user in
    let m = 6 + 14 + (6 + 2126 + (6 + 261 + 0)) in
    let fields : Within id_form.parts (id_form.parts_of x) m =
    field_within 0 nonce_number _ _ _ _ _ (element_within 2 8 (integer want.nonce) (integer_spelt want.nonce w.nonce.1.0).few) (
    optional_within 1 principal_name _ _ _ _ _ (name_within (name_of user) n.kind n.parts) (
    field_within 2 realm _ _ _ _ _ (element_within 27 255 user.realm (realm_short user.realm n.realm)) (
    dropped_within 3 octets _ _ _ no_options))) in
    omega (arith, element_within 48 m (id_form.parts.content.spelling (id_form.parts_of x)) fields.le)

-- ---- PA-S4U-X509-USER (MS-SFU, section 2.2.2)

pub x509_user_fits : (want : Want) (user : Principal) (subkey : Key) → IsWant want → IsName user → x509_user.Fits (x509_user_of want user subkey)
x509_user_fits want user subkey w n =
    let short = user_id_short want user w n in
    let sum : IsShortSum (record { cksumtype = pos (sum_type subkey.etype); checksum = (x509_user_of want user subkey).sum }) =
    record { kind = sum_type_fits subkey.etype; few = let few = mac_short subkey 26 (user_id.spelling (user_id_of want user)) in omega (arith, few) } in
    (refl, (spelt_fits user_id user_id_lawful (user_id_of want user) (user_id_fits want user w n) (omega (arith, short)), (sum_fits _ sum, tt)))

pub x509_user_short : (want : Want) (user : Principal) (subkey : Key) → IsWant want → IsName user → length (x509_user.spelling (x509_user_of want user subkey)) ≤ 3100
x509_user_short want user subkey w n =
    let x : X509User = x509_user_of want user subkey in
    let sum : IsShortSum (record { cksumtype = pos (sum_type subkey.etype); checksum = x.sum }) =
    record { kind = sum_type_fits subkey.etype; few = let few = mac_short subkey 26 (user_id.spelling (user_id_of want user)) in omega (arith, few) } in
    let m = 6 + 3000 + (6 + 54 + 0) in
    let fields : Within x509_form.parts (x509_form.parts_of x) m =
    field_within 0 (kept user_id) _ _ _ _ _ (user_id_short want user w n) (
    field_within 1 checksum_form _ _ _ _ _ (sum_within _ sum)
    end_within) in
    omega (arith, element_within 48 m (x509_form.parts.content.spelling (x509_form.parts_of x)) fields.le)

-- ---- PA-FOR-USER (MS-SFU, section 2.2.1)

kerberos_is_text : is_utf8 (codes "Kerberos") ≡ true
kerberos_is_text = is_utf8-from_IsUtf8 (codes "Kerberos") (IsUtf8-from_ascii (codes "Kerberos") (IsAscii-cons 75 (codes "erberos") (omega arith) (IsAscii-cons 101 (codes "rberos") (omega arith) (IsAscii-cons 114 (codes "beros") (omega arith) (IsAscii-cons 98 (codes "eros") (omega arith) (IsAscii-cons 101 (codes "ros") (omega arith) (IsAscii-cons 114 (codes "os") (omega arith) (IsAscii-cons 111 (codes "s") (omega arith) (IsAscii-cons 115 [] (omega arith) IsAscii-nil)))))))))

-- the checksum has at most 16 octets
for_user_sum : (x : ForUser) → x.sum_type ≡ negsuc 137 → length x.sum ≤ 16 → IsShortSum (record { cksumtype = x.sum_type; checksum = x.sum })
for_user_sum x kind few = record { kind = subst (FitsSigned w32) (sym kind) (record { sfits = omega arith }); few = few }

pub for_user_fits : (user : Principal) (session : Key) → IsName user → length (for_user_of user session).sum ≤ 16 → for_user.Fits (for_user_of user session)
for_user_fits user session n few =
    (refl, (name_fits (name_of user) n.kind n.parts, (realm_fits user.realm n.realm, (sum_fits _ (for_user_sum (for_user_of user session) refl few), ((tt, kerberos_is_text), tt)))))

pub for_user_short : (user : Principal) (session : Key) → IsName user → length (for_user_of user session).sum ≤ 16 → length (for_user.spelling (for_user_of user session)) ≤ 3000
for_user_short user session n few =
    let x : ForUser = for_user_of user session in
    let m = 6 + 2126 + (6 + 261 + (6 + 54 + (6 + 14 + 0))) in
    let fields : Within for_form.parts (for_form.parts_of x) m =
    field_within 0 principal_name _ _ _ _ _ (name_within (name_of user) n.kind n.parts) (
    field_within 1 realm _ _ _ _ _ (element_within 27 255 user.realm (realm_short user.realm n.realm)) (
    field_within 2 checksum_form _ _ _ _ _ (sum_within _ (for_user_sum x refl few)) (
    field_within 3 text _ _ _ _ _ (element_within 27 8 (codes "Kerberos") (omega arith))
    end_within))) in
    omega (arith, element_within 48 m (for_form.parts.content.spelling (for_form.parts_of x)) fields.le)

-- ---- PA-PAC-OPTIONS (MS-KILE, section 2.2.10)

pub options_fit : pac_options.Fits rbcd_options
options_fit = (refl, ((refl, omega arith), tt))

pub options_short : length (pac_options.spelling rbcd_options) ≤ 100
options_short =
    let fields : Within options_form.parts (options_form.parts_of rbcd_options) (6 + 11 + 0) = field_within 0 flags _ _ _ _ _ (bits_short rbcd_options.flags) end_within in
    omega (arith, element_within 48 17 (options_form.parts.content.spelling (options_form.parts_of rbcd_options)) fields.le)

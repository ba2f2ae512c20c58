-- The checksums of the padata of S4U2self (MS-SFU, sections 2.2.1 and 2.2.2; RFC 4757, section 4).
use Rattle.std.specs.Prelude.{ℤ, ◌&&◌, Bool, true, List, [], ◌∷◌, Option, None, Some, negsuc}
use Rattle.std.specs.Ordering.{int_eq}
use Rattle.kdc_prelude.specs.Options.{holds_of}
use Rattle.kdc_prelude.specs.Texts.{same_text}
use Rattle.krb_names.specs.declared.key.Key.{Key}
use Rattle.krb_names.specs.Keys.{key_bytes}
use Rattle.krb_crypto.specs.Checksums.{rc4_mac}
use Rattle.krb_messages.specs.declared.kdc_req.KdcReq.{KdcReq}
use Rattle.s4u_padata.specs.declared.for_user.ForUser.{ForUser}
use Rattle.s4u_padata.specs.declared.x509_user.X509User.{X509User}
use Rattle.s4u_padata.specs.Covered.{for_user_bytes}
use Rattle.kdc_records.specs.declared.rule.Rule.{Rule}
use Rattle.kdc_records.specs.declared.rule.Rule.TheVariants.{S1, S2, S3}
use Rattle.s4u_rules.specs.declared.header.SelfView.{SelfView}
use Rattle.s4u_rules.specs.declared.header.SelfView.TheVariants.{Wrong, Shown}
use Rattle.tgs_requests.specs.declared.asking.SelfAsked.{SelfAsked}
use Rattle.tgs_requests.specs.declared.header.Header.{Header}
use Rattle.tgs_requests.specs.Askings.{names_one_user, self_asked}
use Rattle.tgs_requests.specs.Headers.{answering_key, is_mac, is_sum_type_of}

-- -138, the keyed checksum of RC4 (RFC 4757, section 4)
abbrev pub is_hmac_md5 : ℤ → Bool
is_hmac_md5 number = int_eq number (negsuc 137)

-- ---- the type

abbrev pub for_user_is_keyed : Option ForUser → Bool
for_user_is_keyed None = true
for_user_is_keyed (Some asked) = is_hmac_md5 asked.sum_type

abbrev pub x509_user_is_keyed : Key → Option X509User → Bool
x509_user_is_keyed key None = true
x509_user_is_keyed key (Some asked) = is_sum_type_of key asked.sum_type

-- S2: the checksum of PA-FOR-USER is of type -138, that of PA-S4U-X509-USER of its key's type
abbrev pub sums_are_keyed : Header → SelfAsked → Bool
sums_are_keyed header asked = for_user_is_keyed asked.for_user && x509_user_is_keyed (answering_key header) asked.x509_user

-- ---- the octets

-- under the session key, over the name and the package
abbrev pub for_user_is_covered : Key → Option ForUser → Bool
for_user_is_covered key None = true
for_user_is_covered key (Some asked) = same_text asked.sum (rc4_mac (key_bytes key) 17 (for_user_bytes asked.user asked.«package»))

-- over the user-id as received
abbrev pub x509_user_is_covered : Key → Option X509User → Bool
x509_user_is_covered key None = true
x509_user_is_covered key (Some asked) = is_mac key 26 asked.id_bytes asked.sum

-- S3: each verifies
abbrev pub sums_are_right : Header → SelfAsked → Bool
sums_are_right header asked = for_user_is_covered header.opened.part.key asked.for_user && x509_user_is_covered (answering_key header) asked.x509_user

-- in the order in which they are tried
abbrev pub user_rules : Header → KdcReq → List (Rule × Bool)
user_rules header message =
    (S1, holds_of (names_one_user message.req_body) (self_asked message))
    ∷ (S2, holds_of (sums_are_keyed header) (self_asked message))
    ∷ (S3, holds_of (sums_are_right header) (self_asked message))
    ∷ []

-- as a call is told it: the first rule that fails, or none
abbrev pub view_of : Option Rule → SelfView
view_of None = Shown
view_of (Some rule) = Wrong rule

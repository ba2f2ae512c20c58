-- What the client sends can be written, and how long it is.
use Rattle.std.proofs.Common.{◌≡◌, ℕ, ◌+◌, ◌<◌, ◌≤◌, ◌^◌, List, length, pos, Option, Some, None, Result, Ok, Err, refl, ap, arith}
use Rattle.std.specs.Prelude.{FitsSigned, IfOk, IfSome}
use Rattle.std.specs.Int.{w32}
use Rattle.std.proofs.lemmas.Bool.Decides.{nat_tests}
use Rattle.std.proofs.lemmas.Int.{ints}
use Rattle.der_core.specs.BitStrings.{bit_string}
use Rattle.der_core.specs.Elements.{element}
use Rattle.der_core.specs.Forms.{int, int32, number_is, octets, uint32}
use Rattle.der_core.specs.Integers.{integer}
use Rattle.der_core.specs.IntegerLaws.{integer_spelt}
use Rattle.der_forms.specs.Keys.{encryption_key}
use Rattle.der_forms.specs.Lists.{sequence_of}
use Rattle.der_forms.specs.Names.{realm}
use Rattle.der_forms.specs.Times.{moment_time}
use Rattle.der_forms.specs.Values.{flags as flag_bits, micros}
use Rattle.krb_names.specs.declared.etype.Etype.{Etype}
use Rattle.krb_names.specs.declared.etype.Etype.TheVariants.{Aes128, Aes256}
use Rattle.krb_names.specs.declared.key.Key.{Key}
use Rattle.krb_names.specs.declared.moment.Moment.{Moment}
use Rattle.krb_names.specs.declared.principal.Principal.{Principal}
use Rattle.krb_names.specs.Etypes.{etype_number}
use Rattle.krb_names.proofs.TimeLaw.{written_again}
use Rattle.krb_tickets.specs.declared.encrypted_data.EncryptedData.{EncryptedData}
use Rattle.krb_tickets.specs.AuthItem.{auth_item}
use Rattle.krb_tickets.specs.EncryptedData.{encrypted_data}
use Rattle.krb_tickets.specs.EncryptedData as sealed_form
use Rattle.krb_tickets.specs.PrincipalName.{name_of, principal_name}
use Rattle.krb_tickets.specs.Ticket.{ticket}
use Rattle.ticket_laws.proofs.Fields.{Within, dropped_within, end_within, field_within, optional_within}
use Rattle.ticket_laws.proofs.Sizes.{element_within}
use Rattle.ticket_laws.proofs.Texts.{realm_fits, realm_short}
use Rattle.ticket_laws.proofs.Values.{int32_fits, int32_within, key_fits, key_within, name_fits, name_within, number_fits, number_within, time_within}
use Rattle.krb_messages.specs.declared.authenticator.Authenticator.{Authenticator}
use Rattle.krb_messages.specs.declared.ap_req.ApReq.{ApReq}
use Rattle.krb_messages.specs.declared.checksum.Checksum.{Checksum}
use Rattle.krb_messages.specs.ApReq.{ap_req}
use Rattle.krb_messages.specs.ApReq as ap_form
use Rattle.krb_messages.specs.Authenticator.{authenticator}
use Rattle.krb_messages.specs.Authenticator as auth_form
use Rattle.krb_messages.specs.Checksum.{checksum_form}
use Rattle.krb_messages.specs.Checksum as sum_form
use Rattle.krb_messages.specs.PaEncTsEnc.{pa_enc_ts_enc}
use Rattle.krb_messages.specs.PaEncTsEnc as stamp_form
use Rattle.s4u_client.specs.declared.cred.Cred.{Cred}
use Rattle.s4u_client.specs.Requests.{authenticator_at, confounder_of, sealed_under, shown_with, stamp_at}
use Rattle.s4u_client.specs.Writable.{IsCred, IsName, IsShortSum, IsWhole}

-- ---- what was written

pub shorter : {E : Type 0} (n : ℕ) (plain : List ℕ) (result : Result (List ℕ) E) → IfOk result (λ bytes. bytes ≡ plain) → length plain ≤ n → IfOk result (λ bytes. length bytes ≤ n)
shorter n plain (Ok bytes) h few = omega (arith, few, ap length h)
shorter n plain (Err e) h few = tt

pub below : {E : Type 0} (n : ℕ) (plain : List ℕ) (result : Result (List ℕ) E) → IfOk result (λ bytes. bytes ≡ plain) → length plain < n → IfOk result (λ bytes. length bytes < n)
below n plain (Ok bytes) h few = omega (arith, few, ap length h)
below n plain (Err e) h few = tt

-- ---- moments

micros_fits : (now : Moment) → micros.Fits (record { 0 = pos now.micros })
micros_fits now = let few = now.in_second in (refl, (record { sfits = omega (arith, few) }, grind (arith, ints, few)))

moment_fits : (now : Moment) → moment_time.Fits (record { 0 = now.secs })
moment_fits now = let early = now.in_range in (refl, (written_again now.secs (omega (arith, early)), grind (arith, nat_tests, early)))

micros_short : (now : Moment) → length (micros.spelling (record { 0 = pos now.micros })) ≤ 14
micros_short now = let few = now.in_second in element_within 2 8 (integer (pos now.micros)) (integer_spelt (pos now.micros) (record { sfits = omega (arith, few) })).few

moment_short : (now : Moment) → length (moment_time.spelling (record { 0 = now.secs })) ≤ 21
moment_short now = time_within now.secs

-- ---- PA-ENC-TS-ENC (RFC 4120, section 5.2.7.2)

pub stamp_fits : (now : Moment) → pa_enc_ts_enc.Fits (stamp_at now)
stamp_fits now = (refl, (moment_fits now, (micros_fits now, tt)))

pub stamp_short : (now : Moment) → length (pa_enc_ts_enc.spelling (stamp_at now)) ≤ 53
stamp_short now =
    let fields : Within stamp_form.parts (stamp_form.parts_of (stamp_at now)) (6 + 21 + (6 + 14 + 0)) =
    field_within 0 moment_time _ _ _ _ _ (moment_short now) (optional_within 1 micros _ _ _ _ _ (micros_short now) end_within) in
    element_within 48 47 (stamp_form.parts.content.spelling (stamp_form.parts_of (stamp_at now))) fields.le

-- ---- EncryptedData (RFC 4120, section 5.2.9)

key_type_fits : (e : Etype) → FitsSigned w32 (pos (etype_number e))
key_type_fits Aes128 = record { sfits = omega arith }
key_type_fits Aes256 = record { sfits = omega arith }

pub sealed_fits : (key : Key) (usage : ℕ) (conf plain : List ℕ) → encrypted_data.Fits (sealed_under key usage conf plain)
sealed_fits key usage conf plain = (refl, (int32_fits (pos (etype_number key.etype)) (key_type_fits key.etype), (tt, (tt, tt))))

-- without a version
pub sealed_short : (key : Key) (usage n : ℕ) (conf plain : List ℕ) → length (sealed_under key usage conf plain).cipher ≤ n → length (encrypted_data.spelling (sealed_under key usage conf plain)) ≤ 80 + n
sealed_short key usage n conf plain few =
    let x : EncryptedData = sealed_under key usage conf plain in
    let m = 6 + 14 + (6 + 14 + (6 + (6 + n) + 0)) in
    let fields : Within sealed_form.parts (sealed_form.parts_of x) m =
    field_within 0 int32 _ _ _ _ _ (int32_within (pos (etype_number key.etype)) (key_type_fits key.etype)) (
    optional_within 1 uint32 _ None _ 14 _ tt (
    field_within 2 octets _ _ _ _ _ (element_within 4 n x.cipher few)
    end_within)) in
    omega (arith, element_within 48 m (sealed_form.parts.content.spelling (sealed_form.parts_of x)) fields.le)

-- ---- Checksum

pub sum_fits : (x : Checksum) → IsShortSum x → checksum_form.Fits x
sum_fits x w = (refl, (int32_fits x.cksumtype w.kind, (tt, tt)))

pub sum_within : (x : Checksum) → IsShortSum x → length (checksum_form.spelling x) ≤ 54
sum_within x w =
    let fields : Within sum_form.parts (sum_form.parts_of x) (6 + 14 + (6 + 22 + 0)) =
    field_within 0 int32 _ _ _ _ _ (int32_within x.cksumtype w.kind) (field_within 1 octets _ _ _ _ _ (element_within 4 16 x.checksum w.few) end_within) in
    element_within 48 48 (sum_form.parts.content.spelling (sum_form.parts_of x)) fields.le

-- ---- Authenticator (RFC 4120, section 5.5.1)

some_sum_fits : (sum : Option Checksum) → IfSome sum IsShortSum → IfSome sum checksum_form.Fits
some_sum_fits None h = tt
some_sum_fits (Some sum) h = sum_fits sum h

some_sum_short : (sum : Option Checksum) → IfSome sum IsShortSum → IfSome sum (λ sum. length (checksum_form.spelling sum) ≤ 54)
some_sum_short None h = tt
some_sum_short (Some sum) h = sum_within sum h

some_key_fits : (key : Option Key) → IfSome key IsWhole → IfSome key encryption_key.Fits
some_key_fits None h = tt
some_key_fits (Some key) h = key_fits key h.long h.padded

some_key_short : (key : Option Key) → IfSome key IsWhole → IfSome key (λ key. length (encryption_key.spelling key) ≤ 70)
some_key_short None h = tt
some_key_short (Some key) h = key_within key h.long

pub auth_fits : (client : Principal) (now : Moment) (sum : Option Checksum) (subkey : Option Key) → IsName client → IfSome sum IsShortSum → IfSome subkey IsWhole
    → authenticator.Fits (authenticator_at client now sum subkey)
unfolding authenticator
auth_fits client now sum subkey w h k = (
  refl,
  (
    number_fits 5 (omega arith),
    (
      realm_fits client.realm w.realm,
      (
        name_fits (name_of client) w.kind w.parts,
        (
          some_sum_fits sum h,
          (
            micros_fits now,
            (
              moment_fits now,
              (some_key_fits subkey k, (tt, (refl, (tt, tt)))),
            ),
          ),
        ),
      ),
    ),
  ),
)

pub auth_short : (client : Principal) (now : Moment) (sum : Option Checksum) (subkey : Option Key) → IsName client → IfSome sum IsShortSum → IfSome subkey IsWhole
    → length (authenticator.spelling (authenticator_at client now sum subkey)) ≤ 4096
unfolding authenticator
auth_short client now sum subkey w h k =
    let x : Authenticator = authenticator_at client now sum subkey in
    let n = 6 + 14 + (6 + 261 + (6 + 2126 + (6 + 54 + (6 + 14 + (6 + 21 + (6 + 70 + (6 + 14 + 0))))))) in
    let fields : Within auth_form.parts (auth_form.parts_of x) n =
    field_within 0 (number_is (pos 5)) _ _ _ _ _ (number_within 5 (omega arith)) (
    field_within 1 realm _ _ _ _ _ (element_within 27 255 client.realm (realm_short client.realm w.realm)) (
    field_within 2 principal_name _ _ _ _ _ (name_within (name_of client) w.kind w.parts) (
    optional_within 3 checksum_form _ _ _ _ _ (some_sum_short sum h) (
    field_within 4 micros _ _ _ _ _ (micros_short now) (
    field_within 5 moment_time _ _ _ _ _ (moment_short now) (
    optional_within 6 encryption_key _ _ _ _ _ (some_key_short subkey k) (
    optional_within 7 int _ None _ 14 _ tt (
    dropped_within 8 (sequence_of auth_item) _ _ _
    end_within)))))))) in
    let inside = element_within 48 n (auth_form.parts.content.spelling (auth_form.parts_of x)) fields.le in
    omega (arith, element_within 0x62 (6 + n) (element 48 (auth_form.parts.content.spelling (auth_form.parts_of x))) inside)

-- ---- AP-REQ (RFC 4120, section 5.5.1)

pub bits_short : (bits : ℕ) → length (element 3 (bit_string bits)) ≤ 11
unfolding bit_string
bits_short bits = element_within 3 5 (bit_string bits) (omega arith)

pub shown_fits : (cred : Cred) (options usage : ℕ) (block plain : List ℕ) → IsCred cred → options < 2 ^ 32 → ap_req.Fits (shown_with cred options usage block plain)
unfolding ap_req
shown_fits cred options usage block plain w bits = (
  refl,
  (
    number_fits 5 (omega arith),
    (
      number_fits 14 (omega arith),
      (
        (refl, bits),
        (w.shown.fits, (sealed_fits cred.session usage (confounder_of block) plain, tt)),
      ),
    ),
  ),
)

-- with an authenticator of at most 4,124 bytes when sealed
pub shown_short : (cred : Cred) (options usage : ℕ) (block plain : List ℕ) → IsCred cred → length (sealed_under cred.session usage (confounder_of block) plain).cipher ≤ 4124
    → length (ap_req.spelling (shown_with cred options usage block plain)) ≤ 2 ^ 27 + 4500
unfolding ap_req
shown_short cred options usage block plain w few =
    let x : ApReq = shown_with cred options usage block plain in
    let n = 6 + 14 + (6 + 14 + (6 + 11 + (6 + 2 ^ 27 + (6 + 4204 + 0)))) in
    let fields : Within ap_form.parts (ap_form.parts_of x) n =
    field_within 0 (number_is (pos 5)) _ _ _ _ _ (number_within 5 (omega arith)) (
    field_within 1 (number_is (pos 14)) _ _ _ _ _ (number_within 14 (omega arith)) (
    field_within 2 flag_bits _ _ _ _ _ (bits_short options) (
    field_within 3 ticket _ _ _ _ _ w.shown.short (
    field_within 4 encrypted_data _ _ _ _ _ (sealed_short cred.session usage 4124 (confounder_of block) plain few)
    end_within)))) in
    let inside = element_within 48 n (ap_form.parts.content.spelling (ap_form.parts_of x)) fields.le in
    omega (arith, element_within 0x6e (6 + n) (element 48 (ap_form.parts.content.spelling (ap_form.parts_of x))) inside)

-- The reply to an AP-REQ can be written, and is short.
use Rattle.std.proofs.Common.{◌≡◌, ℕ, ◌+◌, ◌<◌, ◌≤◌, ◌^◌, List, length, pos, Result, Ok, Err, refl, ap, arith}
use Rattle.std.specs.Prelude.{FitsSigned, IfOk}
use Rattle.std.specs.Int.{w32}
use Rattle.der_core.specs.Elements.{element}
use Rattle.der_core.specs.Forms.{int, int32, number_is, octets, uint32}
use Rattle.der_core.specs.Integers.{integer}
use Rattle.der_core.specs.IntegerLaws.{integer_spelt}
use Rattle.der_forms.specs.Keys.{encryption_key}
use Rattle.der_forms.specs.Times.{moment_time}
use Rattle.der_forms.specs.Values.{micros}
use Rattle.krb_names.specs.declared.etype.Etype.{Etype}
use Rattle.krb_names.specs.declared.etype.Etype.TheVariants.{Aes128, Aes256}
use Rattle.krb_names.specs.declared.key.Key.{Key}
use Rattle.krb_names.specs.Etypes.{etype_number}
use Rattle.krb_tickets.specs.EncryptedData.{encrypted_data}
use Rattle.krb_tickets.specs.EncryptedData as sealed_form
use Rattle.ticket_laws.proofs.Fields.{end_within, field_within, optional_within, Within}
use Rattle.ticket_laws.proofs.Sizes.{element_within}
use Rattle.ticket_laws.proofs.Values.{int32_fits, int32_within, number_fits, number_within, time_within}
use Rattle.krb_messages.specs.declared.authenticator.Authenticator.{Authenticator}
use Rattle.krb_messages.specs.ApRep.{ap_rep}
use Rattle.krb_messages.specs.ApRep as reply_form
use Rattle.krb_messages.specs.Authenticator.{authenticator}
use Rattle.krb_messages.specs.EncApRep.{enc_ap_rep}
use Rattle.krb_messages.specs.EncApRep as part_form
use Rattle.service_end.specs.Replies.{reply_part, reply_with, sealed_with}

-- ---- EncAPRepPart (RFC 4120, section 5.5.2)

pub part_fits : (auth : Authenticator) → authenticator.Fits auth → enc_ap_rep.Fits (reply_part auth)
unfolding authenticator
part_fits auth fits = (refl, (fits.1.1.1.1.1.1.0, (fits.1.1.1.1.1.0, (tt, (tt, tt)))))

micros_within : (auth : Authenticator) → authenticator.Fits auth → length (element 2 (integer auth.cusec)) ≤ 14
unfolding authenticator
micros_within auth fits = element_within 2 8 (integer auth.cusec) (integer_spelt auth.cusec fits.1.1.1.1.1.0.1.0).few

part_within : (auth : Authenticator) → authenticator.Fits auth → Within part_form.parts (part_form.parts_of (reply_part auth)) (6 + 21 + (6 + 14 + (6 + 0 + (6 + 0 + 0))))
part_within auth fits =
    field_within 0 moment_time _ _ _ _ _ (time_within auth.ctime) (
    field_within 1 micros _ _ _ _ _ (micros_within auth fits) (
    optional_within 2 encryption_key _ _ _ 0 _ tt (
    optional_within 3 int _ _ _ 0 _ tt
    end_within)))

pub part_short : (auth : Authenticator) → authenticator.Fits auth → length (enc_ap_rep.spelling (reply_part auth)) ≤ 71
part_short auth fits =
    let fields : List ℕ = part_form.parts.content.spelling (part_form.parts_of (reply_part auth)) in
    let inside = element_within 48 59 fields (let le = (part_within auth fits).le in omega (arith, le)) in
    element_within 0x7b 65 (element 48 fields) inside

pub short_part : {E : Type 0} (r : Result (List ℕ) E) (auth : Authenticator) → authenticator.Fits auth → IfOk r (λ bytes. bytes ≡ enc_ap_rep.spelling (reply_part auth)) → IfOk r (λ bytes. length bytes ≤ 256)
short_part (Ok bytes) auth fits h = omega (arith, ap length h, part_short auth fits)
short_part (Err fault) auth fits h = tt

-- ---- AP-REP (RFC 4120, section 5.5.2)

etype_in : (e : Etype) → FitsSigned w32 (pos (etype_number e))
etype_in Aes128 = record { sfits = omega arith }
etype_in Aes256 = record { sfits = omega arith }

sealed_short : (key : Key) (cipher : List ℕ) → length (encrypted_data.spelling (sealed_with key cipher)) ≤ 44 + length cipher
sealed_short key cipher =
    let n = 6 + 14 + (6 + 0 + (6 + (6 + length cipher) + 0)) in
    let fields : Within sealed_form.parts (sealed_form.parts_of (sealed_with key cipher)) n =
    field_within 0 int32 _ _ _ _ _ (int32_within (pos (etype_number key.etype)) (etype_in key.etype)) (
    optional_within 1 uint32 _ _ _ 0 _ tt (
    field_within 2 octets _ _ _ _ _ (element_within 4 (length cipher) cipher (omega arith))
    end_within)) in
    omega (arith, element_within 48 n (sealed_form.parts.content.spelling (sealed_form.parts_of (sealed_with key cipher))) fields.le)

pub reply_fits : (key : Key) (cipher : List ℕ) → ap_rep.Fits (reply_with (sealed_with key cipher))
reply_fits key cipher = (refl, (number_fits 5 (omega arith), (number_fits 15 (omega arith), ((refl, (int32_fits (pos (etype_number key.etype)) (etype_in key.etype), (tt, (tt, tt)))), tt))))

pub reply_short : (key : Key) (cipher : List ℕ) → length cipher < 2 ^ 31 → length (ap_rep.spelling (reply_with (sealed_with key cipher))) < 2 ^ 32
reply_short key cipher few =
    let n = 6 + 14 + (6 + 14 + (6 + (44 + length cipher) + 0)) in
    let made : Within reply_form.parts (reply_form.parts_of (reply_with (sealed_with key cipher))) n =
    field_within 0 (number_is (pos 5)) _ _ _ _ _ (number_within 5 (omega arith)) (
    field_within 1 (number_is (pos 15)) _ _ _ _ _ (number_within 15 (omega arith)) (
    field_within 2 encrypted_data _ _ _ _ _ (sealed_short key cipher)
    end_within)) in
    let fields : List ℕ = reply_form.parts.content.spelling (reply_form.parts_of (reply_with (sealed_with key cipher))) in
    let inside = element_within 48 n fields made.le in
    omega (arith, few, element_within 0x6f (6 + n) (element 48 fields) inside)

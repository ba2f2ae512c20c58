-- What is known of a timestamp that was read, and of the text that a key opens.
use Rattle.std.proofs.Common.{◌≡◌, ◌≢◌, ℕ, ◌+◌, ◌<◌, ◌≤◌, ℤ, pos, negsuc, Bool, true, false, cond, nat_lt, List, [], ◌∷◌, length, Option, Some, None, Result, Ok, Err, refl, sym, ap, ◌∙◌, arith, option_map, slice_range}
use Rattle.std.specs.Prelude.{IfSome, nat_abs, unwrap_or, if◌then◌else◌}
use Rattle.std.specs.List.{AllByRecursion}
use Rattle.std.specs.declared.ops.Range.{Range}
use Rattle.std.proofs.lemmas.Bool.Decides.{nat_tests}
use Rattle.std.proofs.lemmas.Int.{ints}
use Rattle.der_core.specs.declared.refusal.DerRefusal.{DerRefusal}
use Rattle.der_forms.specs.Values.{each_micros, micros}
use Rattle.krb_crypto.specs.Encryption.{opened}
use Rattle.krb_crypto.proofs.Opened.{opened_short}
use Rattle.krb_names.specs.declared.key.Key.{Key}
use Rattle.krb_names.specs.Etypes.{etype_number}
use Rattle.krb_tickets.specs.declared.encrypted_data.EncryptedData.{EncryptedData}
use Rattle.krb_tickets.specs.Pac.{is_number}
use Rattle.krb_tickets.specs.Told.{told}
use Rattle.krb_messages.specs.declared.pa_data.PaData.{PaData}
use Rattle.krb_messages.specs.declared.pa_enc_ts_enc.PaEncTsEnc.{PaEncTsEnc}
use Rattle.krb_messages.specs.PaEncTsEnc.{pa_enc_ts_enc}
use Rattle.as_core.proofs.Told.{told_whole}
use Rattle.as_core.specs.Stamps.{Stamp, Unread, first_timestamp, is_timestamp, stamp_of_sealed, stamp_of_text}

-- ---- times

pub secs_few : (stamp : PaEncTsEnc) → pa_enc_ts_enc.Fits stamp → stamp.patimestamp ≤ 250000000000
secs_few stamp fits = let h = fits.1.0.1.1 in grind (arith, nat_tests, h)

pausec_few : (pausec : Option ℤ) → IfSome (each_micros pausec) micros.Fits → nat_abs (unwrap_or pausec (pos 0)) < 1000000
pausec_few None fits = omega arith
pausec_few (Some (pos n)) fits = let h = fits.1.1 in grind (arith, ints, nat_tests, h)
pausec_few (Some (negsuc n)) fits = let h = fits.1.1 in absurd (cc)

pub micros_few : (stamp : PaEncTsEnc) → pa_enc_ts_enc.Fits stamp → nat_abs (unwrap_or stamp.pausec (pos 0)) < 1000000
micros_few stamp fits = pausec_few stamp.pausec fits.1.1.0

-- ---- the text that a key opens

opened_long : (key : Key) (bytes text : List ℕ) → Some text ≡ opened key 1 bytes → 28 ≤ length bytes
opened_long key bytes text h = by_test (nat_lt (length bytes) 28) refl
  where
    by_test : (t : Bool) → nat_lt (length bytes) 28 ≡ t → 28 ≤ length bytes
    by_test true e =
        let short : length bytes < 28 = grind (arith, nat_tests) in
        let nothing = opened_short key 1 bytes short in
        absurd (cc)
    by_test false e = grind (arith, nat_tests)

-- a confounder stands before it, and a checksum behind
pub range_within : (found : Option (Range ℕ)) (key : Key) (old new : List ℕ) → IfSome found (λ range. (range.start ≡ 16) × (range.end + 12 ≡ length old))
    → option_map (λ range. slice_range new range.start range.end) found ≡ opened key 1 old → length new ≡ length old → IfSome found (λ range. (range.start ≤ range.end) × (range.end ≤ length new))
range_within None key old new h e size = tt
range_within (Some range) key old new h e size =
    let long : 28 ≤ length old = opened_long key old (slice_range new range.start range.end) e in
    let start : range.start ≡ 16 = h.0 in
    let end : range.end + 12 ≡ length old = h.1 in
    (omega arith, omega arith)

-- ---- what is sealed

-- of the key's type
pub sealed_told : (key : Key) (r : Result EncryptedData DerRefusal) (sealed : EncryptedData) (cipher : List ℕ) → told r ≡ Ok sealed → is_number (etype_number key.etype) sealed.etype ≡ true
    → cipher ≡ sealed.cipher → stamp_of_text (opened key 1 cipher) ≡ stamp_of_sealed key r
sealed_told key r sealed cipher h test same =
    let chosen : stamp_of_sealed key (Ok sealed) ≡ stamp_of_text (opened key 1 sealed.cipher) = ap (λ (b : Bool). if b then stamp_of_text (opened key 1 sealed.cipher) else Unread) test in
    ap (λ (bytes : List ℕ). stamp_of_text (opened key 1 bytes)) same ∙ sym chosen ∙ ap (stamp_of_sealed key) (sym (told_whole r sealed h))

-- of another type
pub other_told : (key : Key) (r : Result EncryptedData DerRefusal) (sealed : EncryptedData) → told r ≡ Ok sealed → is_number (etype_number key.etype) sealed.etype ≡ false → Unread ≡ stamp_of_sealed key r
other_told key r sealed h test =
    let chosen : stamp_of_sealed key (Ok sealed) ≡ Unread = ap (λ (b : Bool). if b then stamp_of_text (opened key 1 sealed.cipher) else Unread) test in
    sym chosen ∙ ap (stamp_of_sealed key) (sym (told_whole r sealed h))

-- ---- the first timestamp is one of the list

pub first_of_all : (P : PaData → Type 0) (items : List PaData) → AllByRecursion P items → IfSome (first_timestamp items) P
first_of_all P [] h = tt
first_of_all P (item ∷ items) h = by_test (is_timestamp item) (first_of_all P items h.1)
  where
    by_test : (b : Bool) → IfSome (first_timestamp items) P → IfSome (cond b (Some item) (first_timestamp items)) P
    by_test true later = h.0
    by_test false later = later

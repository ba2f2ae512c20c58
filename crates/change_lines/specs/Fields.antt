-- The fields of a change line, each by itself, with BadField where it does not read (own choice).
use Rattle.std.specs.Prelude.{ℕ, ◌==◌, Bool, true, false, nat_le, List, length, codes, if◌then◌else◌, Result, Ok, Err}
use Rattle.kdc_prelude.specs.Answers.{or_fault}
use Rattle.kdc_prelude.specs.Results.{◌>>=◌}
use Rattle.kdc_prelude.specs.Texts.{same_text}
use Rattle.hex.specs.Hex.{decode_of}
use Rattle.krb_names.specs.Decimals.{decimal_reading}
use Rattle.krb_names.specs.Etypes.{key_length}
use Rattle.krb_names.specs.Keys.{key_of as key_with}
use Rattle.krb_names.specs.Pieces.{is_name}
use Rattle.krb_names.specs.SidTexts.{sid_reading}
use Rattle.krb_names.specs.SidValue.{SidValue}
use Rattle.krb_names.specs.declared.etype.Etype.{Etype}
use Rattle.krb_names.specs.declared.etype.Etype.TheVariants.{Aes128, Aes256}
use Rattle.dir_records.specs.Forms.{is_account_name, is_service_name}
use Rattle.dir_records.specs.declared.change.Mark.{Mark}
use Rattle.dir_records.specs.declared.change.Mark.TheVariants.{Disabled, NotDelegated, TrustedToAuth, Preauth}
use Rattle.dir_records.specs.declared.records.KeyRec.{KeyRec}
use Rattle.dir_records.specs.declared.refusal.DirCause.{DirCause}
use Rattle.dir_records.specs.declared.refusal.DirCause.TheVariants.{BadField}

-- what passes a test
abbrev pub passing : {X : Type 0} → (X → Bool) → X → Result X DirCause
passing test x = if test x then Ok x else Err BadField

-- what was read, whatever the fault where it was not
abbrev pub or_bad : {X E : Type 0} → Result X E → Result X DirCause
or_bad (Ok x) = Ok x
or_bad (Err fault) = Err BadField

-- REALM, PARTNER
unfoldable pub realm_of : List ℕ → Result (List ℕ) DirCause
realm_of text = passing is_name text

-- NAME, other than `krbtgt`
unfoldable pub account_name_of : List ℕ → Result (List ℕ) DirCause
account_name_of text = passing is_account_name text

-- REALM NAME
unfoldable pub account_fields : List ℕ → List ℕ → Result (List ℕ × List ℕ) DirCause
account_fields realm name = do
  r ← realm_of realm
  n ← account_name_of name
  Ok (r, n)

-- REALM PARTNER
unfoldable pub trust_of : List ℕ → List ℕ → Result (List ℕ × List ℕ) DirCause
trust_of realm partner = do
  r ← realm_of realm
  p ← realm_of partner
  Ok (r, p)

-- SPN, of two or three parts, the first other than `krbtgt`
unfoldable pub service_of : List ℕ → Result (List ℕ) DirCause
service_of text = passing is_service_name text

-- SID (MS-DTYP, section 2.4.2.1)
unfoldable pub sid_of : List ℕ → Result SidValue DirCause
sid_of text = or_bad (sid_reading text)

-- decimal digits without sign and without a leading zero, a number from low to high
unfoldable pub number_of : ℕ → ℕ → List ℕ → Result ℕ DirCause
number_of low high text = or_fault BadField (decimal_reading high text) >>= passing (nat_le low)

-- MARK
unfoldable pub mark_of : List ℕ → Result Mark DirCause
mark_of text =
    if same_text text (codes "disabled") then Ok Disabled
    else (if same_text text (codes "not_delegated") then Ok NotDelegated
    else (if same_text text (codes "trusted_to_auth") then Ok TrustedToAuth
    else (if same_text text (codes "preauth") then Ok Preauth
    else Err BadField)))

-- `on` or `off`
unfoldable pub switch_of : List ℕ → Result Bool DirCause
switch_of text =
    if same_text text (codes "on") then Ok true
    else (if same_text text (codes "off") then Ok false
    else Err BadField)

-- ETYPE
unfoldable pub etype_of : List ℕ → Result Etype DirCause
etype_of text =
    if same_text text (codes "17") then Ok Aes128
    else (if same_text text (codes "18") then Ok Aes256
    else Err BadField)

-- HEX, two digits in either case for each octet of a key of the type
unfoldable pub octets_of : Etype → List ℕ → Result (List ℕ) DirCause
octets_of type text = or_bad (decode_of text) >>= passing (λ octets. length octets == key_length type)

-- ETYPE KVNO HEX
unfoldable pub key_of : List ℕ → List ℕ → List ℕ → Result KeyRec DirCause
key_of etype kvno hex = do
  type ← etype_of etype
  version ← number_of 1 4294967295 kvno
  octets ← octets_of type hex
  Ok (record { key = key_with type octets; version = version })

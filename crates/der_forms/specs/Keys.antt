-- EncryptionKey ::= SEQUENCE { keytype [0] Int32, keyvalue [1] OCTET STRING } (RFC 4120, section 5.2.9), of type 17 or 18 (RFC 3962).
use Rattle.std.specs.Prelude.{ℕ, ℤ, pos, negsuc, List, nat_eq, length, if◌then◌else◌}
use Rattle.der_core.specs.declared.refusal.DerCause.TheVariants.{LengthForm}
use Rattle.der_core.specs.Codec.{Codec, element_of, such, mapped}
use Rattle.der_core.specs.Forms.{bytes, int_within}
use Rattle.der_forms.specs.Fields.{Fields, end, depending, field, made, sequence}
use Rattle.krb_names.specs.declared.etype.Etype.{Etype}
use Rattle.krb_names.specs.declared.etype.Etype.TheVariants.{Aes128, Aes256}
use Rattle.krb_names.specs.declared.key.Key.{Key}
use Rattle.krb_names.specs.Etypes.{etype_number, key_length}
use Rattle.krb_names.specs.Keys.{key_bytes, key_of}

abbrev pub etype_of : ℤ → Etype
etype_of (pos n) = if nat_eq n 17 then Aes128 else Aes256
etype_of (negsuc n) = Aes256

abbrev pub etype : Codec Etype
etype = mapped (int_within (pos 17) (pos 18)) etype_of (λ e. pos (etype_number e))

-- as many octets as the type's keys have
abbrev pub key_octets : Etype → Codec (List ℕ)
key_octets e = element_of 4 (such (λ octets. nat_eq (length octets) (key_length e)) LengthForm bytes)

abbrev pub Parts : Type 0
Parts = Etype × (List ℕ × Unit {0})

abbrev pub parts : Fields Parts
parts =
    depending 0 etype (λ e.
    field 1 (key_octets e)
    end)

abbrev pub make : Parts → Key
make (keytype, (keyvalue, _)) = key_of keytype keyvalue

abbrev pub parts_of : Key → Parts
parts_of key = (key.etype, (key_bytes key, tt))

abbrev pub fields : Fields Key
fields = made parts make parts_of

abbrev pub encryption_key : Codec Key
encryption_key = sequence fields

-- Flags and numbers as types of their own.
use Rattle.std.proofs.Common.{◌≡◌, ℤ, pos, negsuc, Option, Some, None, refl}
use Rattle.der_core.specs.Codec.{Codec, mapped}
use Rattle.der_core.specs.CodecLaws.{mapped_lawful}
use Rattle.der_core.specs.Forms.{bits, int_within}
use Rattle.der_core.specs.FormLaws.{bits_lawful, int_within_lawful}
use Rattle.der_core.specs.Laws.{IsCodec}
use Rattle.der_forms.specs.declared.value.Flags.{Flags}
use Rattle.der_forms.specs.declared.value.Micros.{Micros}
use Rattle.der_forms.specs.declared.value.Nonce.{Nonce}

-- KerberosFlags (RFC 4120, section 5.2.8)
abbrev pub flags : Codec Flags
flags = mapped bits (λ n. record { 0 = n }) (λ f. f.0)

pub flags_lawful : IsCodec flags
flags_lawful = mapped_lawful _ _ _ (λ n fits. refl) bits_lawful

-- UInt32 (RFC 4120, section 5.2.4), from -2^31 on, since some clients write a nonce as Int32 (own choice)
abbrev pub nonce : Codec Nonce
nonce = mapped (int_within (negsuc 2147483647) (pos 4294967295)) (λ n. record { 0 = n }) (λ x. x.0)

pub nonce_lawful : IsCodec nonce
nonce_lawful = mapped_lawful _ _ _ (λ n fits. refl) (int_within_lawful (negsuc 2147483647) (pos 4294967295))

-- Microseconds, 0 to 999,999 (RFC 4120, section 5.2.4)
abbrev pub micros : Codec Micros
micros = mapped (int_within (pos 0) (pos 999999)) (λ n. record { 0 = n }) (λ x. x.0)

pub micros_lawful : IsCodec micros
micros_lawful = mapped_lawful _ _ _ (λ n fits. refl) (int_within_lawful (pos 0) (pos 999999))

-- microseconds that may be absent
abbrev pub bare_micros : Option Micros → Option ℤ
bare_micros None = None
bare_micros (Some x) = Some x.0

abbrev pub each_micros : Option ℤ → Option Micros
each_micros None = None
each_micros (Some n) = Some (record { 0 = n })

pub micros_again : (x : Option Micros) → each_micros (bare_micros x) ≡ x
micros_again None = refl
micros_again (Some x) = refl

-- The forms of single values.
use Rattle.std.specs.Prelude.{◌≡◌, ℕ, ◌<◌, ◌^◌, ℤ, pos, negsuc, List, Result, Ok, Bool, true, ◌&&◌, if◌then◌else◌, FitsSigned}
use Rattle.std.specs.Int.{w64}
use Rattle.std.specs.Int.Signed.{le_z}
use Rattle.std.specs.Str.{is_utf8}
use Rattle.der_core.specs.declared.refusal.DerCause.TheVariants.{LengthForm, BadText}
use Rattle.der_core.specs.declared.refusal.DerRefusal.{DerRefusal}
use Rattle.der_core.specs.Place.{refused, ◌>>=◌}
use Rattle.der_core.specs.Integers.{integer, integer_in, IsInteger}
use Rattle.der_core.specs.BitStrings.{bits_in, bit_string, IsBits}
use Rattle.der_core.specs.Codec.{Codec, Content, element_of, such, mapped}

-- ---- contents

abbrev pub integers : Content ℤ
integers = record { IsDer = IsInteger; spelling = integer; reading = λ here. integer_in here.place here.bytes; Fits = FitsSigned w64 }

abbrev pub bit_strings : Content ℕ
bit_strings = record { IsDer = IsBits; spelling = bit_string; reading = λ here. bits_in here.place here.bytes; Fits = λ bits. bits < 2 ^ 32 }

abbrev pub bytes : Content (List ℕ)
bytes = record { IsDer = λ content x. content ≡ x; spelling = λ x. x; reading = λ here. Ok here.bytes; Fits = λ _. Unit {0} }

abbrev pub texts : Content (List ℕ)
texts = such is_utf8 BadText bytes

-- ---- INTEGER

abbrev pub int : Codec ℤ
int = element_of 2 integers

abbrev pub is_between : ℤ → ℤ → ℤ → Bool
is_between low high n = le_z low n && le_z n high

unfoldable pub within_in : ℤ → ℤ → ℕ → List ℕ → Result ℤ DerRefusal
within_in low high place content = do
  n ← integer_in place content
  if is_between low high n then Ok n else refused LengthForm place

-- an integer from low to high; another one is at fault as LengthForm
abbrev pub within : ℤ → ℤ → Content ℤ
within low high = record {
  IsDer = λ content n. IsInteger content n × (is_between low high n ≡ true);
  spelling = integer;
  reading = λ here. within_in low high here.place here.bytes;
  Fits = λ n. FitsSigned w64 n × (is_between low high n ≡ true);
}

abbrev pub int_within : ℤ → ℤ → Codec ℤ
int_within low high = element_of 2 (within low high)

-- Int32 (RFC 4120, section 5.2.4)
abbrev pub int32 : Codec ℤ
int32 = int_within (negsuc 2147483647) (pos 2147483647)

abbrev pub natural : ℤ → ℕ
natural (pos n) = n
natural (negsuc n) = 0

-- UInt32 (RFC 4120, section 5.2.4)
abbrev pub uint32 : Codec ℕ
uint32 = mapped (int_within (pos 0) (pos 4294967295)) natural pos

-- a number that is always the same
abbrev pub number_is : ℤ → Codec (Unit {0})
number_is n = mapped (int_within n n) (λ _. tt) (λ _. n)

-- ---- strings

-- BIT STRING, its first 32 bits (KerberosFlags, RFC 4120, section 5.2.8)
abbrev pub bits : Codec ℕ
bits = element_of 3 bit_strings

abbrev pub octets : Codec (List ℕ)
octets = element_of 4 bytes

-- GeneralString (tag 27), in UTF-8 (own choice: RFC 4120, section 5.2.1, has IA5String's characters alone)
abbrev pub text : Codec (List ℕ)
text = element_of 0x1b texts

-- in UTF-8, and such as the test asks
abbrev pub text_such : (List ℕ → Bool) → Codec (List ℕ)
text_such passes = element_of 0x1b (such passes BadText texts)

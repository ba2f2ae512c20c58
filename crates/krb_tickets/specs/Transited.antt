-- TransitedEncoding ::= SEQUENCE { tr-type [0] Int32, contents [1] OCTET STRING } (RFC 4120, section 5.3), with tr-type 1, DOMAIN-X500-COMPRESS (RFC 4120, section 3.3.3.2); the realms stand uncompressed (own choice).
use Rattle.std.specs.Prelude.{◌≡◌, ℕ, pos, List, [], ◌∷◌, length, Bool, true, ◌&&◌, nat_le, nat_eq, Result, Ok, if◌then◌else◌}
use Rattle.std.specs.List.{list_all, slice_split, join_with_byte}
use Rattle.std.specs.Str.{is_utf8}
use Rattle.der_core.specs.declared.refusal.DerRefusal.{DerRefusal}
use Rattle.der_core.specs.declared.refusal.DerCause.TheVariants.{BadText}
use Rattle.der_core.specs.Place.{refused}
use Rattle.der_core.specs.Codec.{Codec, Content, element_of}
use Rattle.der_core.specs.Forms.{number_is}
use Rattle.der_forms.specs.Fields.{Fields, end, field, made, sequence}
use Rattle.krb_names.specs.Pieces.{is_name}

-- a text that may stand in a name
abbrev pub is_realm : List ℕ → Bool
is_realm name = is_utf8 name && is_name name

-- at most 32 realms (own choice)
abbrev pub are_realms : List (List ℕ) → Bool
are_realms names = nat_le (length names) 32 && list_all is_realm names

-- the texts between the commas; none of no bytes
abbrev pub names_of : List ℕ → List (List ℕ)
names_of [] = []
names_of (b ∷ bytes) = slice_split (λ c. nat_eq c 44) (b ∷ bytes)

unfoldable pub names_in : ℕ → List ℕ → Result (List (List ℕ)) DerRefusal
names_in place bytes = if are_realms (names_of bytes) then Ok (names_of bytes) else refused BadText place

-- realms joined by commas
abbrev pub joined_realms : Content (List (List ℕ))
joined_realms = record {
  IsDer = λ bytes names. (bytes ≡ join_with_byte 44 names) × (are_realms names ≡ true);
  spelling = join_with_byte 44;
  reading = λ here. names_in here.place here.bytes;
  Fits = λ names. are_realms names ≡ true;
}

abbrev pub contents : Codec (List (List ℕ))
contents = element_of 4 joined_realms

abbrev pub Parts : Type 0
Parts = Unit {0} × (List (List ℕ) × Unit {0})

abbrev pub parts : Fields Parts
parts =
    field 0 (number_is (pos 1)) (
    field 1 contents
    end)

abbrev pub make : Parts → List (List ℕ)
make (_, (names, _)) = names

abbrev pub parts_of : List (List ℕ) → Parts
parts_of names = (tt, (names, tt))

abbrev pub transited : Codec (List (List ℕ))
transited = sequence (made parts make parts_of)

-- UTF-16 with the low octet of each unit first (RFC 2781, sections 2 and 4.2).
use Rattle.std.specs.Prelude.{ℕ, ◌+◌, ◌*◌, ◌/◌, ◌%◌, List, [], ◌∷◌, flat_map, if◌then◌else◌, Option, None, Some}
use Rattle.std.specs.Char.Escape.{encode_utf16}
use Rattle.std.specs.Char.Utf16.{utf16_lossy_chars, has_unpaired_surrogate}
use Rattle.std.specs.Str.{chars, encode_utf8_all}
use Rattle.kdc_prelude.specs.Steps.{◌>>=◌, with_front}

-- one unit for a character below U+10000, and a pair of surrogates for another
abbrev pub utf16_units : List ℕ → List ℕ
utf16_units text = flat_map encode_utf16 (chars text)

abbrev pub unit_octets : ℕ → List ℕ
unit_octets unit = (unit % 256) ∷ (unit / 256) ∷ []

abbrev pub utf16le_text : List ℕ → List ℕ
utf16le_text text = flat_map unit_octets (utf16_units text)

-- the units of octets, if none is left alone
abbrev pub units_of_octets : List ℕ → Option (List ℕ)
units_of_octets [] = Some []
units_of_octets (low ∷ []) = None
units_of_octets (low ∷ high ∷ octets) = with_front ((low + high * 256) ∷ []) (units_of_octets octets)

-- the text of the characters that the units spell, if each surrogate has its partner
abbrev pub text_of_units : List ℕ → Option (List ℕ)
text_of_units units = if has_unpaired_surrogate units then None else Some (encode_utf8_all (utf16_lossy_chars units))

abbrev pub utf16le_reading : List ℕ → Option (List ℕ)
utf16le_reading octets = units_of_octets octets >>= λ units. text_of_units units

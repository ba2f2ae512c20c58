-- BIT STRING, by its content (X.690, section 8.6), as far as its first 32 bits.
use Rattle.std.specs.Prelude.{◌≡◌, ℕ, ◌-◌, ◌*◌, ◌/◌, ◌^◌, ◌≤◌, List, [], ◌∷◌, ◌++◌, length, take, Result, Ok, nat_lt, if◌then◌else◌}
use Rattle.std.specs.Int.{w32, to_be_bytes, from_be_bytes}
use Rattle.der_core.specs.declared.refusal.DerRefusal.{DerRefusal}
use Rattle.der_core.specs.declared.refusal.DerCause.TheVariants.{LengthForm}
use Rattle.der_core.specs.Place.{refused}

-- the first four bytes as a number, zeros for those that are missing
abbrev pub first_four : List ℕ → ℕ
first_four bytes = from_be_bytes w32 (take 4 (bytes ++ 0 ∷ 0 ∷ 0 ∷ 0 ∷ []))

-- the first 32 of the bits; the last `unused` ones of the bytes are no bits of the string, and missing bits are zero
abbrev pub bits_of : ℕ → List ℕ → ℕ
bits_of unused bytes =
    let missing = 32 - (8 * length bytes - unused) in
    first_four bytes / 2 ^ missing * 2 ^ missing

-- the bits of a content, which begins with the count of unused bits, 0 to 7
abbrev pub bits_in : ℕ → List ℕ → Result ℕ DerRefusal
bits_in place [] = refused LengthForm place
bits_in place (unused ∷ bytes) = if nat_lt 7 unused then refused LengthForm place else Ok (bits_of unused bytes)

-- the bytes are the content of a bit string that begins with these 32 bits
pub record IsBits (content : List ℕ) (bits : ℕ) : Type 0 where
  pub unused : ℕ
  pub bytes : List ℕ
  pub whole : content ≡ unused ∷ bytes
  pub few : unused ≤ 7
  pub value : bits_of unused bytes ≡ bits

-- the content that is written: 32 bits, all of them used
unfoldable pub bit_string : ℕ → List ℕ
bit_string bits = 0 ∷ to_be_bytes w32 bits

-- INTEGER, by its content (X.690, section 8.3).
use Rattle.std.specs.Prelude.{ℕ, ◌-◌, List, [], ◌∷◌, ◌++◌, length, replicate, Bool, false, Result, Ok, nat_lt, nat_eq, if◌then◌else◌, ℤ, ◌≡◌, ◌≤◌, ◌<◌}
use Rattle.std.specs.Int.{w64, to_be_bytes, from_be_bytes, cast_signed, cast_unsigned}
use Rattle.der_core.specs.declared.refusal.DerRefusal.{DerRefusal}
use Rattle.der_core.specs.declared.refusal.DerCause.TheVariants.{LengthForm, NotMinimal}
use Rattle.der_core.specs.Place.{refused}

-- the byte that may stand before without a change of the number
abbrev pub sign_of : ℕ → ℕ
sign_of b = if nat_lt b 128 then 0 else 255

-- the first byte says nothing that the second doesn't
abbrev pub is_superfluous : ℕ → List ℕ → Bool
is_superfluous b [] = false
is_superfluous b (c ∷ bytes) = nat_eq b (sign_of c)

-- eight bytes of the same number
abbrev pub extended : List ℕ → List ℕ
extended [] = []
extended (b ∷ bytes) = replicate (7 - length bytes) (sign_of b) ++ b ∷ bytes

-- two's complement
abbrev pub integer_of : List ℕ → ℤ
integer_of bytes = cast_signed w64 (from_be_bytes w64 (extended bytes))

-- without superfluous bytes
abbrev pub shortest : List ℕ → List ℕ
shortest [] = []
shortest (b ∷ bytes) = if is_superfluous b bytes then shortest bytes else b ∷ bytes

-- the one content of an integer
unfoldable pub integer : ℤ → List ℕ
integer n = shortest (to_be_bytes w64 (cast_unsigned w64 n))

abbrev pub integer_in : ℕ → List ℕ → Result ℤ DerRefusal
integer_in place [] = refused LengthForm place
integer_in place (b ∷ bytes) =
    if nat_lt 7 (length bytes) then refused LengthForm place
    else if is_superfluous b bytes then refused NotMinimal place
    else Ok (integer_of (b ∷ bytes))

-- the bytes are the content of an integer
pub record IsInteger (content : List ℕ) (n : ℤ) : Type 0 where
  pub few : length content ≤ 8
  pub short : shortest content ≡ content
  pub some : 0 < length content
  pub value : integer_of content ≡ n

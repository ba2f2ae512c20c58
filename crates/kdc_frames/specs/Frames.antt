-- Frames of a byte stream: a length in 4 octets, the high one first, and that many bytes (RFC 4120, section 7.2.2).
use Rattle.std.specs.Prelude.{ℕ, ◌<◌, List, ◌++◌, length, take, drop, flat_map, nat_lt, nat_eq, if◌then◌else◌}
use Rattle.std.specs.Int.{from_be_bytes, to_be_bytes, w32}

-- a message in its frame
unfoldable pub frame : List ℕ → List ℕ
frame message = to_be_bytes w32 (length message) ++ message

abbrev pub frames : List (List ℕ) → List ℕ
frames messages = flat_map frame messages

-- what bytes begin with: nothing more, less than a whole frame, a head that says more than 131,072 bytes, or a whole frame
pub data Front : Type 0 where
  End : Front
  Cut : Front
  TooLong : (rest : List ℕ) → Front
  Whole : (message rest : List ℕ) → Front

-- what follows a head that says this length
abbrev pub body_of : ℕ → List ℕ → Front
body_of said bytes =
    if nat_lt 131072 said then TooLong bytes
    else (if nat_lt (length bytes) said then Cut else Whole (take said bytes) (drop said bytes))

unfoldable pub front_of : List ℕ → Front
front_of bytes =
    if nat_eq (length bytes) 0 then End
    else (if nat_lt (length bytes) 4 then Cut else body_of (from_be_bytes w32 (take 4 bytes)) (drop 4 bytes))

-- less than a whole frame
abbrev pub is_partial : Front → Type 0
is_partial End = Unit {0}
is_partial Cut = Unit {0}
is_partial (TooLong rest) = ⊥
is_partial (Whole message rest) = ⊥

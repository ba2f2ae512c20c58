-- Numbers, bytes and pointers. All numbers are little-endian, and each stands at a multiple of its width.
use Rattle.std.specs.Prelude.{◌≡◌, ℕ, ◌+◌, ◌-◌, ◌*◌, ◌%◌, ◌^◌, ◌<◌, List, ◌++◌, length, take, drop, replicate, Bool, not, ◌&&◌, ◌||◌, nat_lt, nat_le, nat_eq, Result, Ok, if◌then◌else◌}
use Rattle.std.specs.Int.{Width, w32, byte_len, to_le_bytes, from_le_bytes}
use Rattle.ndr_core.specs.declared.refusal.NdrCause.{NdrCause}
use Rattle.ndr_core.specs.declared.refusal.NdrCause.TheVariants.{Truncated, BadCount}
use Rattle.ndr_core.specs.declared.fault.LogonFault.{LogonFault}
use Rattle.ndr_core.specs.Place.{At, past, end_of, refused, ◌>>=◌}
use Rattle.ndr_core.specs.Layout.{Written, Layout, IsMade, such}

-- how far the next multiple of the width is
unfoldable pub gap : ℕ → ℕ → ℕ
gap width place = (width - place % width) % width

-- ---- bytes

-- the next n bytes
unfoldable pub bytes_at : ℕ → At → Result (List ℕ × At) LogonFault
bytes_at n here = if nat_lt (length here.bytes) n then refused Truncated (end_of here) else Ok (take n here.bytes, past n here)

-- n bytes, at any place
abbrev pub raw : ℕ → Layout (List ℕ)
raw n = record {
  IsNdr = λ place bytes x. (bytes ≡ x) × (length x ≡ n);
  written = λ old x. record { bytes = old.bytes ++ x; next = old.next };
  reading = bytes_at n;
  Fits = λ x. length x ≡ n;
}

-- ---- numbers

-- a number behind the bytes that align it, whatever these are
pub record IsNumber (width : Width) (place : ℕ) (bytes : List ℕ) (n : ℕ) : Type 0 where
  pub filler : List ℕ
  pub spelt : bytes ≡ filler ++ to_le_bytes width n
  pub aligned : length filler ≡ gap (byte_len width) place
  pub fits : n < 2 ^ (8 * byte_len width)

-- the next aligned bytes
unfoldable pub aligned_at : ℕ → At → Result (List ℕ × At) LogonFault
aligned_at width here = bytes_at (gap width here.place + width) here >>= λ x. Ok (drop (gap width here.place) x.0, x.1)

abbrev pub put_number : Width → Written → ℕ → Written
put_number width old n = record { bytes = old.bytes ++ (replicate (gap (byte_len width) (length old.bytes)) 0 ++ to_le_bytes width n); next = old.next }

abbrev pub number : Width → Layout ℕ
number width = record {
  IsNdr = IsNumber width;
  written = put_number width;
  reading = λ here. aligned_at (byte_len width) here >>= λ x. Ok (from_le_bytes width x.0, x.1);
  Fits = λ n. n < 2 ^ (8 * byte_len width);
}

abbrev pub is_between : ℕ → ℕ → ℕ → Bool
is_between low high n = nat_le low n && nat_le n high

-- a number within limits
abbrev pub within : Width → ℕ → ℕ → NdrCause → Layout ℕ
within width low high cause = such width (is_between low high) cause (number width)

-- a number that is this one
abbrev pub exactly : Width → ℕ → NdrCause → Layout ℕ
exactly width value cause = such width (nat_eq value) cause (number width)

-- ---- pointers

abbrev pub is_there : ℕ → Bool
is_there n = not (nat_eq n 0)

-- each pointer is written 4 above the one before it, and null as 0
abbrev pub put_pointer : Written → Bool → Written
put_pointer old there =
    if there then record { bytes = (put_number w32 old old.next).bytes; next = (old.next + 4) % 2 ^ 32 }
    else put_number w32 old 0

-- a pointer, and whether it points to something: 0 is null
abbrev pub pointer : Layout Bool
pointer = record {
  IsNdr = IsMade (IsNumber w32) is_there;
  written = put_pointer;
  reading = λ here. (number w32).reading here >>= λ n. Ok (is_there n.0, n.1);
  Fits = λ _. Unit {0};
}

-- a pointer that may be null only where the length or count beside it is 0
abbrev pub pointer_to : ℕ → Layout Bool
pointer_to said = such w32 (λ there. there || nat_eq said 0) BadCount pointer

-- A serialized structure: its header, a pointer to it, and the structure (MS-RPCE, section 2.2.6).
use Rattle.std.specs.Prelude.{◌≡◌, ℕ, ◌+◌, ◌-◌, ◌%◌, ◌≤◌, List, [], ◌∷◌, ◌++◌, length, take, drop, replicate, Bool, true, ◌||◌, nat_lt, nat_eq, Result, Ok, if◌then◌else◌}
use Rattle.std.specs.Int.{w8, w16, w32, to_le_bytes}
use Rattle.ndr_core.specs.declared.refusal.NdrCause.TheVariants.{Truncated, BadHeader, Trailing}
use Rattle.ndr_core.specs.declared.fault.LogonFault.{LogonFault}
use Rattle.ndr_core.specs.Place.{At, start_of, end_of, refused, ◌>>=◌}
use Rattle.ndr_core.specs.Layout.{Written, Layout, field, mapped, such}
use Rattle.ndr_core.specs.Fields.{gap, number, exactly, raw, pointer}

-- version 1, little-endian, a common header of 8 bytes, filler, the object's length, which is a multiple of 8, and four bytes more
abbrev pub header : Layout ℕ
header =
    mapped (
    field (exactly w8 1 BadHeader) (
    field (exactly w8 16 BadHeader) (
    field (exactly w8 8 BadHeader) (
    field (such w16 (nat_eq 0) BadHeader (number w8)) (
    field (raw 4) (
    field (such w32 (λ n. nat_eq (n % 8) 0) BadHeader (number w32))
    (number w32)))))))
    (λ (version, (endianness, (length, (high, (filler, (object, zero)))))). object)
    (λ n. (1, (16, (8, (0, (204 ∷ 204 ∷ 204 ∷ 204 ∷ [], (n, 0)))))))

-- the pointer to the structure
abbrev pub top : Layout Bool
top = such w32 (λ there. there) BadHeader pointer

-- the object behind its header; it is cut short where the input ends before it
unfoldable pub object_of : ℕ → At → Result At LogonFault
object_of n here =
    if nat_lt (length here.bytes) n then refused Truncated (end_of here)
    else Ok (record { place = here.place; bytes = take n here.bytes; behind = length here.bytes - n })

-- the structure, behind the header and the pointer to it
unfoldable pub opened : List ℕ → Result At LogonFault
opened bytes = do
  h ← header.reading (start_of bytes)
  object ← object_of h.0 h.1
  t ← top.reading object
  Ok t.1

-- at most 7 bytes of padding are left, and nothing behind the object
abbrev pub ended : At → Result (Unit {0}) LogonFault
ended here = if nat_lt 7 (length here.bytes) || nat_lt 0 here.behind then refused Trailing here.place else Ok tt

-- all of the bytes, as an object
abbrev pub object : {X : Type 0} → Layout X → List ℕ → Result X LogonFault
object c bytes = opened bytes >>= λ here. c.reading here >>= λ x. ended x.1 >>= λ _. Ok x.0

-- the bytes are an object of the layout
pub record IsObject {X : Type 0} (c : Layout X) (bytes : List ℕ) (x : X) : Type 0 where
  pub head : List ℕ
  pub content : List ℕ
  pub padding : List ℕ
  pub whole : bytes ≡ head ++ (content ++ padding)
  pub header : header.IsNdr 0 head (length content + length padding)
  pub inside : (field top c).IsNdr (length head) content (true, x)
  pub short : length padding ≤ 7

-- ---- writing

abbrev pub header_bytes : ℕ → List ℕ
header_bytes n = 1 ∷ 16 ∷ 8 ∷ 0 ∷ 204 ∷ 204 ∷ 204 ∷ 204 ∷ to_le_bytes w32 n ++ 0 ∷ 0 ∷ 0 ∷ 0 ∷ []

-- a header whose length is still open, and the pointer to the structure, 0x00020000
abbrev pub begun : Written
begun = record { bytes = header_bytes 0 ++ to_le_bytes w32 131072; next = 131076 }

-- zeros up to a multiple of 8
abbrev pub padded : List ℕ → List ℕ
padded bytes = bytes ++ replicate (gap 8 (length bytes)) 0

-- the object with its length
abbrev pub finished : List ℕ → List ℕ
finished bytes = header_bytes (length (padded bytes) - 16) ++ drop 16 (padded bytes)

-- the one spelling of a value
abbrev pub spelling : {X : Type 0} → Layout X → X → List ℕ
spelling c x = finished (c.written begun x).bytes

-- ---- bytes without a header

-- nothing is left
abbrev pub exhausted : At → Result (Unit {0}) LogonFault
exhausted here = if nat_eq (length here.bytes) 0 then Ok tt else refused Trailing here.place

-- all of the bytes, with no header
abbrev pub packed : {X : Type 0} → Layout X → List ℕ → Result X LogonFault
packed c bytes = c.reading (start_of bytes) >>= λ x. exhausted x.1 >>= λ _. Ok x.0

-- nothing is written
abbrev pub blank : Written
blank = record { bytes = []; next = 131072 }

abbrev pub packed_spelling : {X : Type 0} → Layout X → X → List ℕ
packed_spelling c x = (c.written blank x).bytes

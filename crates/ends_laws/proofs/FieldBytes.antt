-- What is written of fields is bytes, field by field.
use Rattle.std.proofs.Common.{ℕ, ◌<◌, ℤ, Bool, true, false, cond, List, [], ◌∷◌, ◌++◌, length, Option, Some, None, arith}
use Rattle.std.specs.Prelude.{IfSome}
use Rattle.std.specs.Int.{w64, to_be_bytes, cast_unsigned}
use Rattle.der_core.specs.Codec.{Codec}
use Rattle.der_core.specs.Elements.{element}
use Rattle.der_core.specs.Integers.{integer, is_superfluous, shortest}
use Rattle.der_core.specs.Laws.{IsBytes}
use Rattle.der_core.specs.Sizes.{size}
use Rattle.der_core.specs.Steps.{IsBytes-append, IsBytes-front, IsBytes-rest}
use Rattle.der_forms.specs.Fields.{Fields, tag_of, end, field, optional, dropped}
use Rattle.ticket_laws.proofs.Bytes.{element_bytes}
use Rattle.pac_laws.proofs.Bytes.{IsBytes-be, IsBytes-nil, IsBytes-tail}

-- ---- numbers

by_test : (test : Bool) (a b : List ℕ) → IsBytes a → IsBytes b → IsBytes (cond test a b)
by_test true a b h k = h
by_test false a b h k = k

shortest_bytes : (bytes : List ℕ) → IsBytes bytes → IsBytes (shortest bytes)
shortest_bytes [] h = h
shortest_bytes (b ∷ bytes) h = by_test (is_superfluous b bytes) (shortest bytes) (b ∷ bytes) (shortest_bytes bytes (IsBytes-tail b bytes h)) h

pub number_bytes : (n : ℤ) → IsBytes (element 2 (integer n))
unfolding integer
number_bytes n = element_bytes 2 (integer n) (omega arith) (shortest_bytes (to_be_bytes w64 (cast_unsigned w64 n)) (IsBytes-be w64 (cast_unsigned w64 n)))

-- ---- fields

pub record OfBytes {X : Type 0} (fields : Fields X) (x : X) : Type 0 where
  pub spelt : IsBytes (fields.content.spelling x)

pub optional_bytes : {X Y : Type 0} (k : ℕ) (c : Codec X) (more : Fields Y) (x : Option X) (y : Y) → tag_of k < 256 → IfSome x (λ x. IsBytes (c.spelling x)) → OfBytes more y → OfBytes (optional k c more) (x, y)
optional_bytes k c more None y small one rest = record { spelt = rest.spelt }
optional_bytes k c more (Some x) y small one rest =
    record { spelt = IsBytes-append (element (tag_of k) (c.spelling x)) (more.content.spelling y) (element_bytes (tag_of k) (c.spelling x) small one) rest.spelt }

pub field_bytes : {X Y : Type 0} (k : ℕ) (c : Codec X) (more : Fields Y) (x : X) (y : Y) → tag_of k < 256 → IsBytes (c.spelling x) → OfBytes more y → OfBytes (field k c more) (x, y)
field_bytes k c more x y small one rest = record { spelt = (optional_bytes k c more (Some x) y small one rest).spelt }

pub dropped_bytes : {X Y : Type 0} (k : ℕ) (c : Codec X) (more : Fields Y) (y : Y) → OfBytes more y → OfBytes (dropped k c more) y
dropped_bytes k c more y rest = record { spelt = rest.spelt }

pub end_bytes : OfBytes end tt
end_bytes = record { spelt = IsBytes-nil }

-- ---- the other way round

pub content_bytes : (tag : ℕ) (content : List ℕ) → IsBytes (element tag content) → IsBytes content
content_bytes tag content h = IsBytes-rest (size (length content)) content (IsBytes-tail tag (size (length content) ++ content) h)

-- the front field, and those behind it
pub front_field : {X Y : Type 0} (k : ℕ) (c : Codec X) (more : Fields Y) (x : X) (y : Y) → OfBytes (field k c more) (x, y) → IsBytes (c.spelling x) × OfBytes more y
front_field k c more x y h =
    let front : List ℕ = element (tag_of k) (c.spelling x) in
    let rest : List ℕ = more.content.spelling y in
    (content_bytes (tag_of k) (c.spelling x) (IsBytes-front front rest h.spelt), record { spelt = IsBytes-rest front rest h.spelt })

-- the same where it is there, and may be absent
pub present_field : {X Y : Type 0} (k : ℕ) (c : Codec X) (more : Fields Y) (x : X) (y : Y) → OfBytes (optional k c more) (Some x, y) → IsBytes (c.spelling x) × OfBytes more y
present_field k c more x y h = front_field k c more x y (record { spelt = h.spelt })

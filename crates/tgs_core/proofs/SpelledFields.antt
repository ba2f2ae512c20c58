-- How much the spelling of a value has of what stands in its fields.
use Rattle.std.proofs.Common.{ℕ, ◌+◌, ◌≤◌, List, length, Option, length-append, arith}
use Rattle.der_core.specs.Codec.{Codec}
use Rattle.der_core.specs.Elements.{element}
use Rattle.der_core.specs.Sizes.{size}
use Rattle.der_forms.specs.Fields.{Fields, dropped, field, optional, optional_spelling, tag_of}

-- an element has its content and a byte at least
pub content_within : (tag : ℕ) (content : List ℕ) → length content + 1 ≤ length (element tag content)
content_within tag content = omega (arith, length-append (size (length content)) content)

-- the fields' spelling has at least n bytes
pub record Holds {X : Type 0} (n : ℕ) (fields : Fields X) (x : X) : Type 0 where
  pub le : n ≤ length (fields.content.spelling x)

pub behind_holds : {X Y : Type 0} (n k : ℕ) (c : Codec X) (more : Fields Y) (x : X) (y : Y) → Holds n more y → Holds n (field k c more) (x, y)
behind_holds n k c more x y rest = let le = rest.le in record { le = omega (arith, le, length-append (element (tag_of k) (c.spelling x)) (more.content.spelling y)) }

pub behind_optional : {X Y : Type 0} (n k : ℕ) (c : Codec X) (more : Fields Y) (x : Option X) (y : Y) → Holds n more y → Holds n (optional k c more) (x, y)
behind_optional n k c more x y rest = let le = rest.le in record { le = omega (arith, le, length-append (optional_spelling k c x) (more.content.spelling y)) }

pub behind_dropped : {X Y : Type 0} (n k : ℕ) (c : Codec X) (more : Fields Y) (y : Y) → Holds n more y → Holds n (dropped k c more) y
behind_dropped n k c more y rest = record { le = rest.le }

pub field_holds : {X Y : Type 0} (k : ℕ) (c : Codec X) (more : Fields Y) (x : X) (y : Y) → Holds (length (c.spelling x)) (field k c more) (x, y)
field_holds k c more x y =
    record { le = omega (arith, content_within (tag_of k) (c.spelling x), length-append (element (tag_of k) (c.spelling x)) (more.content.spelling y)) }

pub optional_holds : {X Y : Type 0} (k : ℕ) (c : Codec X) (more : Fields Y) (x : Option X) (y : Y) → Holds (length (optional_spelling k c x)) (optional k c more) (x, y)
optional_holds k c more x y = record { le = omega (arith, length-append (optional_spelling k c x) (more.content.spelling y)) }

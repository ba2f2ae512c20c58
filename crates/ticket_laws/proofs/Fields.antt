-- How long the fields of a SEQUENCE are.
use Rattle.std.proofs.Common.{ℕ, ◌+◌, ◌≤◌, length, Option, Some, None, arith}
use Rattle.std.specs.Prelude.{IfSome}
use Rattle.der_core.specs.Codec.{Codec}
use Rattle.der_core.specs.Elements.{element}
use Rattle.der_forms.specs.Fields.{Fields, tag_of, end, field, optional, dropped}
use Rattle.ticket_laws.proofs.Sizes.{element_within, append_within}

-- the fields' spelling has at most n bytes
pub record Within {X : Type 0} (fields : Fields X) (x : X) (n : ℕ) : Type 0 where
  pub le : length (fields.content.spelling x) ≤ n

pub end_within : Within end tt 0
end_within = record { le = omega arith }

pub optional_within : {X Y : Type 0} (k : ℕ) (c : Codec X) (more : Fields Y) (x : Option X) (y : Y) (m n : ℕ) → IfSome x (λ x. length (c.spelling x) ≤ m) → Within more y n → Within (optional k c more) (x, y) (6 + m + n)
optional_within k c more None y m n one rest = let le = rest.le in record { le = omega (arith, le) }
optional_within k c more (Some x) y m n one rest =
    record { le = append_within (6 + m) n (element (tag_of k) (c.spelling x)) (more.content.spelling y) (element_within (tag_of k) m (c.spelling x) one) rest.le }

pub field_within : {X Y : Type 0} (k : ℕ) (c : Codec X) (more : Fields Y) (x : X) (y : Y) (m n : ℕ) → length (c.spelling x) ≤ m → Within more y n → Within (field k c more) (x, y) (6 + m + n)
field_within k c more x y m n one rest = record { le = (optional_within k c more (Some x) y m n one rest).le }

pub dropped_within : {X Y : Type 0} (k : ℕ) (c : Codec X) (more : Fields Y) (y : Y) (n : ℕ) → Within more y n → Within (dropped k c more) y n
dropped_within k c more y n rest = record { le = rest.le }

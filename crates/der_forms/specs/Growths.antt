-- How many bytes more than it was read from a value is written in.
use Rattle.std.specs.Prelude.{ℕ, ◌+◌, ◌≤◌, List, length}
use Rattle.der_core.specs.Codec.{Codec, Content}
use Rattle.der_core.specs.Laws.{IsBytes}
use Rattle.der_forms.specs.Fields.{Fields}

-- what is of the form is written in at most k bytes more
pub record Grows {X : Type 0} (k : ℕ) (c : Codec X) : Type 0 where
  pub at_most : (bytes : List ℕ) (x : X) → IsBytes bytes → c.IsDer bytes x → length (c.spelling x) ≤ length bytes + k

-- the same for contents
pub record ContentGrows {X : Type 0} (k : ℕ) (c : Content X) : Type 0 where
  pub at_most : (bytes : List ℕ) (x : X) → IsBytes bytes → c.IsDer bytes x → length (c.spelling x) ≤ length bytes + k

-- the same for fields
pub record FieldsGrow {X : Type 0} (k : ℕ) (f : Fields X) : Type 0 where
  pub at_most : (bytes : List ℕ) (x : X) → IsBytes bytes → f.content.IsDer bytes x → length (f.content.spelling x) ≤ length bytes + k

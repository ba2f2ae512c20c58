-- What holds of the fields of each form.
use Rattle.std.specs.Prelude.{◌≡◌, ℕ, ◌≤◌, List, [], ◌∷◌, ◌++◌}
use Rattle.der_core.specs.Laws.{IsContent}
use Rattle.der_forms.specs.Fields.{Fields}

abbrev pub IsFrom : ℕ → List ℕ → Type 0
IsFrom low [] = Unit {0}
IsFrom low (b ∷ bytes) = low ≤ b

-- the content is lawful, begins with a tag that is not below low, and is what is written field by field
pub record AreFields {X : Type 0} (f : Fields X) : Type 0 where
  pub content : IsContent f.content
  pub begins : (bytes : List ℕ) (x : X) → f.content.IsDer bytes x → IsFrom f.low bytes
  pub appends : (old : List ℕ) (x : X) → f.appended old x ≡ old ++ f.content.spelling x

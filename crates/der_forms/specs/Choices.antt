-- A type that stands within one of two tags.
use Rattle.std.specs.Prelude.{ℕ, Bool, if◌then◌else◌}
use Rattle.der_core.specs.Codec.{Codec, explicit}
use Rattle.der_forms.specs.Fields.{begins}

-- the first of two tags, or the second
abbrev pub tag_in : ℕ → ℕ → Bool → ℕ
tag_in first second is_first = if is_first then first else second

-- one of two forms, each within its tag; the value tells which
abbrev pub choice : {X : Type 0} → ℕ → ℕ → (X → Bool) → (Bool → Codec X) → Codec X
choice first second is_first c = record {
  IsDer = λ bytes x. (explicit (tag_in first second (is_first x)) (c (is_first x))).IsDer bytes x;
  spelling = λ x. (explicit (tag_in first second (is_first x)) (c (is_first x))).spelling x;
  reading = λ here. (explicit (tag_in first second (begins first here.bytes)) (c (begins first here.bytes))).reading here;
  Fits = λ x. (c (is_first x)).Fits x;
}

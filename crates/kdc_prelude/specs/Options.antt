-- Tests of what may be absent.
use Rattle.std.specs.Prelude.{Bool, false, Option, None, Some}

-- it is there, and passes the test
abbrev pub holds_of : {X : Type 0} → (X → Bool) → Option X → Bool
holds_of test None = false
holds_of test (Some x) = test x

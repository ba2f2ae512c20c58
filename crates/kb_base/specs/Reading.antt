-- What reading to the end does to known bytes.
use Rattle.std.specs.Prelude.{◌≡◌, ℕ, ◌<◌, ◌≤◌, List, length, Option, IfSome, Result, Ok, Err}
use Rattle.std.specs.Io.KnownBytes.{Consumes, IsAtEnd}
use Rattle.kb_base.specs.declared.fault.DeviceFault.{DeviceFault}
use Rattle.kb_base.specs.declared.whole.ReadEnd.{ReadEnd}
use Rattle.kb_base.specs.declared.whole.ReadEnd.TheVariants.{Whole, TooLong}

-- all that was left was read, and what was read is within the limit; or more was left than the limit
abbrev pub ReadsWhole : Option (List ℕ) → ℕ → ReadEnd → Type 0
ReadsWhole left limit (Whole bytes) = (length bytes.items ≤ limit) × IfSome left (λ all. bytes.items ≡ all)
ReadsWhole left limit TooLong = IfSome left (λ all. limit < length all)

-- a front was taken of what was left
abbrev pub TakesFront : Option (List ℕ) → Option (List ℕ) → Type 0
TakesFront old new = (front : List ℕ) × Consumes old new front

-- what is left afterwards: nothing where all was read, else what follows a front, longer than the limit where that stopped it
abbrev pub Leaves : Option (List ℕ) → Option (List ℕ) → ℕ → Result ReadEnd DeviceFault → Type 0
Leaves old new limit (Ok (Whole bytes)) = IsAtEnd new
Leaves old new limit (Ok TooLong) = (front : List ℕ) × (limit < length front) × Consumes old new front
Leaves old new limit (Err fault) = TakesFront old new

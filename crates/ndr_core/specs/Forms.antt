-- What holds of the bytes of a whole structure.
use Rattle.std.specs.Prelude.{◌≡◌, ℕ, ◌<◌, ◌^◌, List, [], ◌++◌, length, Result, Ok}
use Rattle.ndr_core.specs.declared.fault.LogonFault.{LogonFault}
use Rattle.ndr_core.specs.Layout.{Layout}
use Rattle.ndr_core.specs.Object.{object, spelling, IsObject, packed, packed_spelling}

-- bytes have at most one reading
abbrev pub HasOneReading : {X : Type 0} → (List ℕ → X → Type 0) → Type 0
HasOneReading {X} Is = (bytes : List ℕ) (x y : X) → Is bytes x → Is bytes y → x ≡ y

-- no bytes of the form are a proper prefix of others
abbrev pub IsPrefixFree : {X : Type 0} → (List ℕ → X → Type 0) → Type 0
IsPrefixFree {X} Is = (front rest : List ℕ) (x y : X) → Is front x → Is (front ++ rest) y → rest ≡ []

-- what is written is of the form, and is read again; bytes have at most one reading; none are a proper prefix of others
pub record IsForm {X : Type 0} (Fits : X → Type 0) (spelling : X → List ℕ) (Is : List ℕ → X → Type 0) (reading : List ℕ → Result X LogonFault) : Type 0 where
  pub spelt : (x : X) → Fits x → length (spelling x) < 2 ^ 31 → Is (spelling x) x
  pub again : (x : X) → Fits x → length (spelling x) < 2 ^ 31 → reading (spelling x) ≡ Ok x
  pub once : HasOneReading Is
  pub prefix_free : IsPrefixFree Is

-- of an object with its header
abbrev pub IsObjectForm : {X : Type 0} → Layout X → Type 0
IsObjectForm c = IsForm c.Fits (spelling c) (IsObject c) (object c)

-- of bytes without a header
abbrev pub IsPackedForm : {X : Type 0} → Layout X → Type 0
IsPackedForm c = IsForm c.Fits (packed_spelling c) (λ bytes x. c.IsNdr 0 bytes x) (packed c)

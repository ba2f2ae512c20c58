-- What holds of each form.
use Rattle.std.specs.Prelude.{◌≡◌, ℕ, ◌+◌, ◌*◌, ◌<◌, ◌≤◌, ◌^◌, List, ◌++◌, length, slice_index, Ok}
use Rattle.der_core.specs.Place.{At}
use Rattle.der_core.specs.Codec.{Codec, Content}

abbrev pub IsBytes : List ℕ → Type 0
IsBytes bytes = (i : ℕ) → slice_index bytes i < 256

-- front was read
pub record Passes (old : At) (front : List ℕ) (new : At) : Type 0 where
  pub bytes : old.bytes ≡ front ++ new.bytes
  pub place : new.place ≡ old.place + length front

-- a value was read, and what it was read from is of the form
pub record Finds {X : Type 0} (c : Codec X) (old : At) (x : X) (new : At) : Type 0 where
  pub front : List ℕ
  pub passes : Passes old front new
  pub is_der : c.IsDer front x

-- what is read is of the form; what is of the form is read, whatever is behind it; what is written is of the form;
-- what is of the form can be written, in at most three times as many bytes (a short bit string is written longer)
pub record IsCodec {X : Type 0} (c : Codec X) : Type 0 where
  pub found : (old new : At) (x : X) → IsBytes old.bytes → c.reading old ≡ Ok (x, new) → Finds c old x new
  pub only : (place : ℕ) (front rest : List ℕ) (x : X) → c.IsDer front x
      → c.reading (record { place = place; bytes = front ++ rest }) ≡ Ok (x, record { place = place + length front; bytes = rest })
  pub spelt : (x : X) → c.Fits x → length (c.spelling x) < 2 ^ 32 → c.IsDer (c.spelling x) x
  pub fits : (bytes : List ℕ) (x : X) → IsBytes bytes → c.IsDer bytes x → c.Fits x
  pub no_longer : (bytes : List ℕ) (x : X) → IsBytes bytes → c.IsDer bytes x → length (c.spelling x) ≤ 3 * length bytes
  pub some : (bytes : List ℕ) (x : X) → c.IsDer bytes x → 0 < length bytes

-- the same for contents; the bound leaves room for the header's growth
pub record IsContent {X : Type 0} (c : Content X) : Type 0 where
  pub found : (here : At) (x : X) → IsBytes here.bytes → c.reading here ≡ Ok x → c.IsDer here.bytes x
  pub only : (here : At) (x : X) → c.IsDer here.bytes x → c.reading here ≡ Ok x
  pub spelt : (x : X) → c.Fits x → length (c.spelling x) < 2 ^ 32 → c.IsDer (c.spelling x) x
  pub fits : (bytes : List ℕ) (x : X) → IsBytes bytes → c.IsDer bytes x → c.Fits x
  pub no_longer : (bytes : List ℕ) (x : X) → IsBytes bytes → c.IsDer bytes x → length (c.spelling x) ≤ 3 * length bytes + 2

-- What holds of each layout.
use Rattle.std.specs.Prelude.{◌≡◌, ℕ, ◌+◌, ◌<◌, ◌≤◌, ◌^◌, List, ◌++◌, length, slice_index, Ok}
use Rattle.ndr_core.specs.Place.{At}
use Rattle.ndr_core.specs.Layout.{Written, Layout}

abbrev pub IsBytes : List ℕ → Type 0
IsBytes bytes = (i : ℕ) → slice_index bytes i < 256

-- front was read
pub record Passes (old : At) (front : List ℕ) (new : At) : Type 0 where
  pub bytes : old.bytes ≡ front ++ new.bytes
  pub place : new.place ≡ old.place + length front
  pub behind : new.behind ≡ old.behind

-- a value was read, and what it was read from is of the layout
pub record Finds {X : Type 0} (c : Layout X) (old : At) (x : X) (new : At) : Type 0 where
  pub front : List ℕ
  pub passes : Passes old front new
  pub is_ndr : c.IsNdr old.place front x

-- the next pointer is not written as null
pub record IsSound (w : Written) : Type 0 where
  pub some : 0 < w.next
  pub few : w.next ≤ 131072 + length w.bytes

-- a value was written, and what was written is of the layout
pub record Writes {X : Type 0} (c : Layout X) (old : Written) (x : X) (new : Written) : Type 0 where
  pub front : List ℕ
  pub bytes : new.bytes ≡ old.bytes ++ front
  pub is_ndr : c.IsNdr (length old.bytes) front x
  pub sound : IsSound new

pub record IsLayout {X : Type 0} (c : Layout X) : Type 0 where
  pub found : (old new : At) (x : X) → IsBytes old.bytes → c.reading old ≡ Ok (x, new) → Finds c old x new
  pub only : (place behind : ℕ) (front rest : List ℕ) (x : X) → c.IsNdr place front x
      → c.reading (record { place = place; bytes = front ++ rest; behind = behind }) ≡ Ok (x, record { place = place + length front; bytes = rest; behind = behind })
  pub spelt : (old : Written) (x : X) → c.Fits x → IsSound old → length (c.written old x).bytes < 2 ^ 31 → Writes c old x (c.written old x)
  pub grows : (old : Written) (x : X) → length old.bytes ≤ length (c.written old x).bytes

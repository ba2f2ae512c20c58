-- Batches of whole lines, cut from the bytes of a file.
use Rattle.std.specs.Prelude.{◌≡◌, ◌≢◌, ℕ, ◌+◌, ◌-◌, ◌^◌, ◌≤◌, min, List, length, take, drop, All, Option, None, Some, Result, Ok, Err}
use Rattle.std.specs.Io.{IsEmptyOrEndsWith}

-- a batch has at most 1,048,576 bytes, and ends where a line does
pub record HasWholeLines (batch : List ℕ) : Type 0 where
  pub within : length batch ≤ 1048576
  pub ends : IsEmptyOrEndsWith batch 10

-- so many bytes have the lines that end in these: they end with a newline, and none follows
pub record EndsLines (bytes : List ℕ) (count : ℕ) : Type 0 where
  pub within : count ≤ length bytes
  pub ends : IsEmptyOrEndsWith (take count bytes) 10
  pub later : All (λ byte. byte ≢ 10) (drop count bytes)

-- the lines that end in the next bytes, at most 1,048,576; none where these are so many and no line ends in them
abbrev pub IsBatchOf : List ℕ → Option (List ℕ) → Type 0
IsBatchOf next None = (length next ≡ 1048576) × EndsLines next 0
IsBatchOf next (Some batch) = EndsLines next (length batch) × (batch ≡ take (length batch) next) × (length batch ≡ 0 → length next ≢ 1048576)

-- the place in the file once a batch was taken, kept in 64 bits; an error takes none
abbrev pub place_after : {E : Type 0} → ℕ → Result (List ℕ) E → ℕ
place_after at (Ok batch) = min (at + length batch) (2 ^ 64 - 1)
place_after at (Err fault) = at

-- The number that bytes stand for.
use Rattle.std.specs.Prelude.{ℕ, ◌+◌, ◌*◌, ◌^◌, List, [], ◌∷◌, length}

-- the first byte is the highest
abbrev pub bytes_value : List ℕ → ℕ
bytes_value [] = 0
bytes_value (x ∷ xs) = x * 256 ^ length xs + bytes_value xs

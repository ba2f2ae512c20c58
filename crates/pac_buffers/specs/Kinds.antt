-- The types of a list, in ascending order.
use Rattle.std.specs.Prelude.{ℕ, ◌+◌, ◌*◌, ◌^◌, ◌<◌, List, [], ◌∷◌, All}
use Rattle.std.specs.List.Sorted.{IsPermutation, IsNonDecreasingBy}
use Rattle.pac_buffers.specs.InfoBuffers.{info_buffer}

-- the types of the entries, each with the entry's number, from this one on
abbrev pub numbered : ℕ → List (List ℕ) → List (ℕ × ℕ)
numbered i [] = []
numbered i (raw ∷ raws) = ((info_buffer raw).kind, i) ∷ numbered (i + 1) raws

-- the order: types first, then numbers below 2^32
abbrev pub rank : ℕ × ℕ → ℕ
rank x = x.0 * 2 ^ 32 + x.1

-- types with numbers, in this order
pub record IsAscending (kinds : List (ℕ × ℕ)) : Type 0 where
  pub small : All (λ x. x.1 < 2 ^ 32) kinds
  pub ascending : IsNonDecreasingBy rank kinds

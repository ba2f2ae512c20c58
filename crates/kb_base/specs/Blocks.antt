-- Blocks of 64 random octets, where a device tells them.
use Rattle.std.specs.Prelude.{◌≡◌, ℕ, ◌-◌, ◌%◌, List, map, slice_get, slice_index, unwrap_or, Option, None, Some, Result, MatchResult}
use Rattle.std.specs.List.{range_with_len}
use Rattle.std.specs.Int.{to_be_bytes, w64}
use Rattle.kb_base.specs.Counts.{one_more}

-- the blocks that are listed, and how many were drawn
pub record BlocksValue : Type 0 where
  pub list : List (List ℕ)
  pub drawn : ℕ

-- a number in 8 octets, the high one first, eight times
unfoldable pub numbered_block : ℕ → List ℕ
numbered_block number = map (λ i. slice_index (to_be_bytes w64 number) (i % 8)) (range_with_len 0 64)

-- the block with this number, counted from 1 over all blocks: that of the list, past its end its number
abbrev pub block_at : List (List ℕ) → ℕ → List ℕ
block_at list number = unwrap_or (slice_get list (number - 1)) (numbered_block number)

-- one more was drawn
abbrev pub drawn_one : BlocksValue → BlocksValue
drawn_one blocks = record { list = blocks.list; drawn = one_more blocks.drawn }

-- the next block was drawn; an error draws none
abbrev pub DrawsBlock : {T E : Type 0} → Option BlocksValue → Option BlocksValue → Result T E → List ℕ → Type 0
DrawsBlock None new result block = Unit {0}
DrawsBlock (Some old) None result block = ⊥
DrawsBlock (Some old) (Some new) result block = MatchResult result (λ _. (new ≡ drawn_one old) × (block ≡ block_at old.list new.drawn)) (λ _. new ≡ old)

use Rattle.std.proofs.Common.{◌≡◌, ◌-◌, ◌*◌, length, map, take, drop}
use Rattle.std.specs.List.{range_with_len}
use Rattle.std.specs.Int.{w32, to_le_bytes}
use Rattle.aes_core.specs.KeyExpansion.{expanded}
use Rattle.aes_core.proofs.key_expansion.expand.Given as goal

abbrev pub invariant-key : goal.invariant-key
invariant-key l = (length l.keys ≡ 60) × (map (to_le_bytes w32) (take l.i l.keys) ≡ map (λ j. take 4 (drop (4 * j) l.raw)) (range_with_len 0 l.i))

abbrev pub invariant-more : goal.invariant-more
invariant-more l = (length l.keys ≡ 60) × (map (to_le_bytes w32) (take l.i l.keys) ≡ expanded l.nk l.raw (l.i - l.nk))

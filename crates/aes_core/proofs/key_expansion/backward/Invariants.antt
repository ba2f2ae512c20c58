use Rattle.std.proofs.Common.{◌≡◌, ℕ, ◌<◌, length, get_or}
use Rattle.std.specs.Int.{w32, to_le_bytes}
use Rattle.aes_core.proofs.Backward.{backward_word}
use Rattle.aes_core.proofs.key_expansion.backward.Given as goal

abbrev pub invariant-words : goal.invariant-words
invariant-words l = (length l.keys ≡ 60) × ((k : ℕ) → k < l.i → to_le_bytes w32 (get_or l.keys k 0) ≡ backward_word l.rounds l.forward k)

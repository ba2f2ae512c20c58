use Rattle.std.proofs.Common.{◌≡◌, ◌-◌, ◌*◌}
use Rattle.aes_core.specs.Aes.{after_rounds}
use Rattle.aes_core.specs.StateOf.{state_of, key_at}
use Rattle.aes_core.proofs.block.encrypt_block.Given as goal

abbrev pub invariant-pairs : goal.invariant-pairs
invariant-pairs l = state_of l.s ≡ after_rounds (key_at l.k-inside.forward) l.fn.block (2 * l.pair - 2)

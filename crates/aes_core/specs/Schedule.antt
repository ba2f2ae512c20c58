-- What the fields of a key schedule stand for.
use Rattle.std.specs.Prelude.{◌≡◌, ℕ, ◌+◌, ◌*◌, ◌%◌, ◌≤◌, List, map, take}
use Rattle.std.specs.Int.{w32, to_le_bytes}
use Rattle.aes_core.specs.RoundKeys.{IsPaired}
use Rattle.aes_core.specs.declared.key_schedule.KeySchedule.TheInside.{Inside}

-- the words of the key expansion, each as four bytes
abbrev pub words_of : Inside → List (List ℕ)
words_of k = map (to_le_bytes w32) (take (4 * (k.rounds + 1)) k.forward)

-- an even number of rounds, from 4 to 14, and the keys of both directions
pub record IsSchedule (k : Inside) : Type 0 where
  pub even : k.rounds % 2 ≡ 0
  pub some : 4 ≤ k.rounds
  pub few : k.rounds ≤ 14
  pub paired : IsPaired k.rounds k.forward k.backward

-- The round keys in the order of either direction.
use Rattle.std.specs.Prelude.{◌≡◌, ℕ, ◌-◌, ◌≤◌, ◌==◌, List, if◌then◌else◌}
use Rattle.aes_core.specs.Aes.{times_columns, inv_mix}
use Rattle.aes_core.specs.StateOf.{key_at}

-- the key of round r of the inverse cipher of n rounds
abbrev pub backward_key : ℕ → (ℕ → List ℕ) → ℕ → List ℕ
backward_key n key r = if r == 0 then key n else if r == n then key 0 else times_columns inv_mix (key (n - r))

abbrev pub IsPaired : ℕ → List ℕ → List ℕ → Type 0
IsPaired n forward backward = (r : ℕ) → r ≤ n → key_at backward r ≡ backward_key n (key_at forward) r

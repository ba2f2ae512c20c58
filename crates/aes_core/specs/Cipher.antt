-- Cipher and InvCipher (FIPS 197, sections 5.1 and 5.3) with a key schedule, which is the list of its words.
use Rattle.std.specs.Prelude.{ℕ, ◌-◌, ◌/◌, List, length}
use Rattle.aes_core.specs.Aes.{cipher_rounds, inv_cipher_rounds}
use Rattle.aes_core.specs.KeyExpansion.{round_key}

-- Nr: a schedule has 4 (Nr + 1) words (5.2)
abbrev pub round_count : List (List ℕ) → ℕ
round_count w = length w / 4 - 1

-- the block that Cipher gives (5.1)
abbrev pub cipher : List (List ℕ) → List ℕ → List ℕ
cipher w block = cipher_rounds (round_count w) (round_key w) block

-- the block that InvCipher gives (5.3)
abbrev pub inv_cipher : List (List ℕ) → List ℕ → List ℕ
inv_cipher w block = inv_cipher_rounds (round_count w) (round_key w) block

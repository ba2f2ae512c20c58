-- AES under a Kerberos key (RFC 3962, section 6).
use Rattle.std.specs.Prelude.{◌≡◌, ℕ, ◌/◌, List, length}
use Rattle.krb_names.specs.declared.key.Key.{Key}
use Rattle.krb_names.specs.Etypes.{key_length}
use Rattle.aes_core.specs.Cipher.{cipher, inv_cipher}
use Rattle.aes_core.specs.KeyExpansion.{key_expansion}
use Rattle.aes_core.specs.Inverses.{AreBytes}

-- the key's schedule: its words are four bytes each
abbrev pub schedule_of : Key → List (List ℕ)
schedule_of key = key_expansion (key_length key.etype / 4) key.raw

-- one block, in either direction
abbrev pub encrypt : Key → List ℕ → List ℕ
encrypt key = cipher (schedule_of key)

abbrev pub decrypt : Key → List ℕ → List ℕ
decrypt key = inv_cipher (schedule_of key)

-- a value of the type of src/
abbrev pub IsKey : Key → Type 0
IsKey key = (length key.raw ≡ 32) × AreBytes key.raw

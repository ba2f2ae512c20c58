-- What holds of sealing and opening, whatever the key.
use Rattle.std.specs.Prelude.{◌≡◌, ◌↔◌, Some, ℕ, ◌≤◌, List, length}
use Rattle.krb_names.specs.declared.key.Key.{Key}
use Rattle.aes_core.specs.Inverses.{AreBytes}
use Rattle.krb_crypto.specs.BlockCipher.{encrypt, decrypt, IsKey}
use Rattle.krb_crypto.specs.CiphertextStealing.{cts_encrypt, cts_decrypt}
use Rattle.krb_crypto.specs.Encryption.{Opens, opened}

-- decryption gives back what was encrypted, at every length from 16
abbrev pub CtsUndoes : Type 0
CtsUndoes = (key : Key) (p : List ℕ) → IsKey key → AreBytes p → 16 ≤ length p → cts_decrypt (decrypt key) (cts_encrypt (encrypt key) p) ≡ p

-- and encryption what was decrypted
abbrev pub CtsRedoes : Type 0
CtsRedoes = (key : Key) (q : List ℕ) → IsKey key → AreBytes q → 16 ≤ length q → cts_encrypt (encrypt key) (cts_decrypt (decrypt key) q) ≡ q

-- the length stays
abbrev pub CtsKeepsLength : Type 0
CtsKeepsLength = (key : Key) (p : List ℕ) → IsKey key → AreBytes p → 16 ≤ length p → length (cts_encrypt (encrypt key) p) ≡ length p

-- no bytes open to two messages
abbrev pub OpensOnce : Type 0
OpensOnce = (key : Key) (usage : ℕ) (bytes m n : List ℕ) → IsKey key → Opens key usage bytes m → Opens key usage bytes n → m ≡ n

-- the message that bytes open to is the one that they are the sealing of
abbrev pub OpenedOpens : Type 0
OpenedOpens = (key : Key) (usage : ℕ) (bytes message : List ℕ) → IsKey key → AreBytes bytes → (opened key usage bytes ≡ Some message) ↔ Opens key usage bytes message

-- Sealing a message and opening it (RFC 3961, section 5.3; RFC 3962, section 6).
use Rattle.std.specs.Prelude.{◌≡◌, ℕ, ◌-◌, nat_le, ◌&&◌, List, ◌++◌, length, take, drop, Option, Some, None, if◌then◌else◌}
use Rattle.krb_names.specs.declared.key.Key.{Key}
use Rattle.krb_names.specs.Keys.{key_bytes}
use Rattle.aes_core.specs.Inverses.{IsBlock, AreBytes}
use Rattle.kdc_prelude.specs.Texts.{same_text}
use Rattle.krb_crypto.specs.BlockCipher.{encrypt, decrypt}
use Rattle.krb_crypto.specs.CiphertextStealing.{cts_encrypt, cts_decrypt}
use Rattle.krb_crypto.specs.Derivation.{encryption_key, integrity_key}
use Rattle.krb_crypto.specs.KeyedHash.{hmac_sha1}

-- the first 12 bytes of HMAC-SHA1 under a Kerberos key
abbrev pub short_hmac : Key → List ℕ → List ℕ
short_hmac key text = take 12 (hmac_sha1 (key_bytes key) text)

-- confounder and message, encrypted, and the checksum of both
abbrev pub sealed : Key → ℕ → List ℕ → List ℕ
sealed key usage text = cts_encrypt (encrypt (encryption_key key usage)) text ++ short_hmac (integrity_key key usage) text

abbrev pub seal : Key → ℕ → List ℕ → List ℕ → List ℕ
seal key usage conf message = sealed key usage (conf ++ message)

-- the bytes are the message, sealed with some confounder
abbrev pub Opens : Key → ℕ → List ℕ → List ℕ → Type 0
Opens key usage bytes message = (conf : List ℕ) × (IsBlock conf × AreBytes message × (bytes ≡ seal key usage conf message))

-- the message that the bytes open to, if there is one: what stands before the last 12 bytes is decrypted,
-- and they are its checksum
unfoldable pub opened : Key → ℕ → List ℕ → Option (List ℕ)
opened key usage bytes =
    let front = length bytes - 12 in
    let text = cts_decrypt (decrypt (encryption_key key usage)) (take front bytes) in
    if nat_le 28 (length bytes) && same_text (drop front bytes) (short_hmac (integrity_key key usage) text) then Some (drop 16 text) else None

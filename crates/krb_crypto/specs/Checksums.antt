-- Checksums: of the AES types (RFC 3961, section 5.4), and of type -138 (RFC 4757, section 4).
use Rattle.std.specs.Prelude.{ℕ, ◌-◌, List, [], ◌∷◌, ◌++◌, take, drop, replicate, codes}
use Rattle.std.specs.Int.{w32, to_le_bytes}
use Rattle.krb_names.specs.declared.key.Key.{Key}
use Rattle.md5.specs.Md5.{md5}
use Rattle.krb_crypto.specs.Derivation.{checksum_key}
use Rattle.krb_crypto.specs.Encryption.{short_hmac}
use Rattle.krb_crypto.specs.KeyedHash.{hmac_md5}

abbrev pub mac : Key → ℕ → List ℕ → List ℕ
mac key usage text = short_hmac (checksum_key key usage) text

-- a text with zeros from one index up to another
abbrev pub zeroed : ℕ → ℕ → List ℕ → List ℕ
zeroed from to text = take from text ++ replicate (to - from) 0 ++ drop to text

abbrev pub rc4_mac : List ℕ → ℕ → List ℕ → List ℕ
rc4_mac key usage text = hmac_md5 (hmac_md5 key (codes "signaturekey" ++ 0 ∷ [])) (md5 (to_le_bytes w32 usage ++ text))

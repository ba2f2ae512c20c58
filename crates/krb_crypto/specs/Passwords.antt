-- Keys of passwords: PBKDF2 (RFC 2898, section 5.2) with HMAC-SHA1, and RFC 3962, section 4.
use Rattle.std.specs.Prelude.{ℕ, zero, suc, ◌-◌, List, ◌++◌, take, codes}
use Rattle.std.specs.Int.{w32, to_be_bytes}
use Rattle.krb_names.specs.declared.etype.Etype.{Etype}
use Rattle.krb_names.specs.declared.key.Key.{Key}
use Rattle.krb_names.specs.Etypes.{key_length}
use Rattle.krb_names.specs.Keys.{key_of}
use Rattle.aes_core.specs.Aes.{add}
use Rattle.krb_crypto.specs.Derivation.{dk}
use Rattle.krb_crypto.specs.KeyedHash.{hmac_sha1}

-- U_(n + 1), where U_1 is `first` and each later one is the HMAC of the one before it
unfoldable pub nth_hash : List ℕ → List ℕ → ℕ → List ℕ
nth_hash password first zero = first
nth_hash password first (suc n) = hmac_sha1 password (nth_hash password first n)

-- the sum of U_1 to U_(n + 1)
unfoldable pub sum_of_hashes : List ℕ → List ℕ → ℕ → List ℕ
sum_of_hashes password first zero = first
sum_of_hashes password first (suc n) = add (sum_of_hashes password first n) (nth_hash password first (suc n))

-- T_i, for a number of rounds from 1 on
abbrev pub pbkdf2_block : List ℕ → List ℕ → ℕ → ℕ → List ℕ
pbkdf2_block password salt rounds i = sum_of_hashes password (hmac_sha1 password (salt ++ to_be_bytes w32 i)) (rounds - 1)

-- the first n bytes, n at most 40
abbrev pub pbkdf2 : List ℕ → List ℕ → ℕ → ℕ → List ℕ
pbkdf2 password salt rounds n = take n (pbkdf2_block password salt rounds 1 ++ pbkdf2_block password salt rounds 2)

-- the key of a password
abbrev pub string_to_key : Etype → List ℕ → List ℕ → ℕ → Key
string_to_key etype password salt rounds = dk (key_of etype (pbkdf2 password salt rounds (key_length etype))) (codes "kerberos")

-- Key derivation (RFC 3961, section 5.1; RFC 3962, section 4).
use Rattle.std.specs.Prelude.{ℕ, zero, suc, List, [], ◌∷◌, ◌++◌, take}
use Rattle.std.specs.Int.{w32, to_be_bytes}
use Rattle.krb_names.specs.declared.key.Key.{Key}
use Rattle.krb_names.specs.Etypes.{key_length}
use Rattle.krb_names.specs.Keys.{key_of}
use Rattle.krb_crypto.specs.BlockCipher.{encrypt}
use Rattle.krb_crypto.specs.Folding.{nfold}

-- the block encrypted, the result encrypted, and so on: n results, one after the other
abbrev pub results : (List ℕ → List ℕ) → ℕ → List ℕ → List ℕ
results e zero block = []
results e (suc n) block = e block ++ results e n (e block)

-- DK: as many bytes of the results as the type has
abbrev pub dk : Key → List ℕ → Key
dk base constant = key_of base.etype (take (key_length base.etype) (results (encrypt base) 2 (nfold 16 constant)))

-- the key of a usage: the constant is the usage, highest byte first, and the byte that tells the purpose
abbrev pub derived : Key → ℕ → ℕ → Key
derived base usage tail = dk base (to_be_bytes w32 usage ++ tail ∷ [])

-- Ke, Ki and Kc: to encrypt, for the integrity of what is encrypted, and for checksums
abbrev pub encryption_key : Key → ℕ → Key
encryption_key base usage = derived base usage 0xaa

abbrev pub integrity_key : Key → ℕ → Key
integrity_key base usage = derived base usage 0x55

abbrev pub checksum_key : Key → ℕ → Key
checksum_key base usage = derived base usage 0x99

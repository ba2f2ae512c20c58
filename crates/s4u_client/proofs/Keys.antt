-- Keys of type 18 have no padding; checksums are short.
use Rattle.std.proofs.Common.{◌≡◌, ℕ, ◌-◌, ◌≤◌, true, List, [], ◌∷◌, length, take, drop, replicate, pos, refl, ap, length-append, length-drop, length-take, arith}
use Rattle.std.specs.Prelude.{FitsSigned}
use Rattle.std.specs.Int.{w32}
use Rattle.std.proofs.lemmas.List.{length-replicate}
use Rattle.kdc_prelude.specs.Texts.{same_text}
use Rattle.krb_names.specs.declared.etype.Etype.{Etype}
use Rattle.krb_names.specs.declared.etype.Etype.TheVariants.{Aes128, Aes256}
use Rattle.krb_names.specs.declared.key.Key.{Key}
use Rattle.krb_names.specs.Keys.{is_padded, key_bytes}
use Rattle.krb_crypto.specs.Checksums.{mac}
use Rattle.krb_crypto.specs.Derivation.{checksum_key}
use Rattle.krb_crypto.specs.KeyedHash.{hmac_sha1}
use Rattle.pac_sign.specs.Sums.{sum_type}
use Rattle.s4u_client.specs.Requests.{subkey_of}
use Rattle.s4u_client.specs.Writable.{IsWhole}

none_left : (xs : List ℕ) → length xs ≡ 0 → xs ≡ []
none_left [] h = refl
none_left (x ∷ xs) h = absurd (omega (arith, h))

raw_length : (block : List ℕ) → length block ≡ 64 → length (subkey_of block).raw ≡ 32
raw_length block long =
    omega (arith, long, length-append (take 32 block) (replicate (32 - length (take 32 block)) 0), length-take 32 block, length-replicate {A = ℕ} (32 - length (take 32 block)) 0)

pub whole_key : (block : List ℕ) → length block ≡ 64 → is_padded (subkey_of block) ≡ true
whole_key block long =
    let raw : List ℕ = (subkey_of block).raw in
    let size : length raw ≡ 32 = raw_length block long in
    ap (λ (rest : List ℕ). same_text rest []) (none_left (drop 32 raw) (omega (arith, size, length-drop 32 raw)))

pub sum_type_fits : (e : Etype) → FitsSigned w32 (pos (sum_type e))
sum_type_fits Aes128 = record { sfits = omega arith }
sum_type_fits Aes256 = record { sfits = omega arith }

pub mac_short : (key : Key) (usage : ℕ) (text : List ℕ) → length (mac key usage text) ≤ 12
mac_short key usage text = omega (arith, length-take 12 (hmac_sha1 (key_bytes (checksum_key key usage)) text))

pub whole_subkey : (block : List ℕ) → length block ≡ 64 → IsWhole (subkey_of block)
whole_subkey block long = record { long = raw_length block long; padded = whole_key block long }

-- What is sealed has at most 28 bytes more than the text, whatever the key is.
use Rattle.std.proofs.Common.{◌≡◌, ℕ, zero, suc, ◌+◌, ◌-◌, ◌*◌, ◌%◌, ◌≤◌, ◌≢◌, List, [], ◌∷◌, ◌++◌, length, take, drop, replicate, inl, inr, arith, length-append, length-drop, length-take}
use Rattle.std.specs.Prelude.{map, slice_index}
use Rattle.std.proofs.lemmas.Bool.Decides.{eqb_tells}
use Rattle.std.proofs.lemmas.List.FromFn.{length-map-range_with_len}
use Rattle.aes_core.specs.Aes.{add, after_rounds, cipher_rounds, last_round, shift_rows}
use Rattle.aes_core.specs.Cipher.{round_count}
use Rattle.aes_core.specs.Field.{sbox}
use Rattle.aes_core.specs.KeyExpansion.{round_key}
use Rattle.krb_names.specs.declared.key.Key.{Key}
use Rattle.krb_names.specs.Keys.{key_bytes}
use Rattle.krb_crypto.specs.BlockCipher.{encrypt, schedule_of}
use Rattle.krb_crypto.specs.CiphertextStealing.{cts_encrypt, encrypt_chain, encrypt_last, front_blocks, padded}
use Rattle.krb_crypto.specs.Derivation.{encryption_key, integrity_key}
use Rattle.krb_crypto.specs.Encryption.{seal, short_hmac}
use Rattle.krb_crypto.specs.KeyedHash.{hmac_sha1}

abbrev IsShort : (List ℕ → List ℕ) → Type 0
IsShort e = (b : List ℕ) → length (e b) ≤ 16

add_within : (a b : List ℕ) → length (add a b) ≤ length a
add_within [] b = omega arith
add_within (x ∷ a) [] = omega arith
add_within (x ∷ a) (y ∷ b) = omega (arith, add_within a b)

round_within : (key s : List ℕ) → length (last_round key s) ≤ 16
unfolding last_round
round_within key s =
    let bytes : List ℕ = map sbox s in
    omega (arith, add_within (shift_rows bytes) key, length-map-range_with_len (λ i. slice_index bytes ((i + 4 * (i % 4)) % 16)) 0 16)

encrypt_within : (key : Key) → IsShort (encrypt key)
unfolding cipher_rounds
encrypt_within key b =
    let words : List (List ℕ) = schedule_of key in
    let n : ℕ = round_count words in
    round_within (round_key words n) (after_rounds (round_key words) b (n - 1))

last_within : (e : List ℕ → List ℕ) (before p : List ℕ) → IsShort e → 16 ≤ length p → length (encrypt_last e before p) ≤ length p
unfolding encrypt_last
last_within e before p short low =
    let rest : List ℕ = drop 16 p in
    let c : List ℕ = e (add (take 16 p) before) in
    let last : List ℕ = e (add (padded rest) c) in
    omega (arith, short (add (padded rest) c), length-append last (take (length rest) c), length-take (length rest) c, length-drop 16 p)

chain_within : (e : List ℕ → List ℕ) (n : ℕ) (before p : List ℕ) → IsShort e → 16 * n + 16 ≤ length p → length (encrypt_chain e n before p) ≤ length p
unfolding encrypt_chain
chain_within e zero before p short low = last_within e before p short (omega arith)
chain_within e (suc n) before p short low =
    let c : List ℕ = e (add (take 16 p) before) in
    let rest : List ℕ = drop 16 p in
    let len : length rest ≡ length p - 16 = length-drop 16 p in
    omega (arith, short (add (take 16 p) before), length-append c (encrypt_chain e n c rest), chain_within e n c rest short (omega arith))

cts_within : (e : List ℕ → List ℕ) (p : List ℕ) → IsShort e → 16 ≤ length p → length (cts_encrypt e p) ≤ length p
unfolding cts_encrypt
cts_within e p short low = elim (eqb_tells (length p) 16) [
  | inl same ↦ rw same.0 (omega (arith, short p, same.1))
  | inr other ↦
      let more : length p ≢ 16 = other.1 in
      rw other.0 (chain_within e (front_blocks (length p)) (replicate 16 0) p short (omega arith))
]

pub seal_within : (key : Key) (usage : ℕ) (conf message : List ℕ) → length conf ≡ 16 → length (seal key usage conf message) ≤ length message + 28
seal_within key usage conf message long =
    let text : List ℕ = conf ++ message in
    let both : length text ≡ length conf + length message = length-append conf message in
    let own : Key = encryption_key key usage in
    let front : List ℕ = cts_encrypt (encrypt own) text in
    let sum : List ℕ = short_hmac (integrity_key key usage) text in
    let short : length front ≤ length text = cts_within (encrypt own) text (encrypt_within own) (omega arith) in
    let few : length sum ≤ 12 = omega (arith, length-take 12 (hmac_sha1 (key_bytes (integrity_key key usage)) text)) in
    omega (arith, length-append front sum, short, few, both)

-- What is sealed is bytes, and at most 28 more than the text.
use Rattle.std.proofs.Common.{◌≡◌, ℕ, zero, suc, ◌+◌, ◌-◌, ◌*◌, ◌%◌, ◌≤◌, ◌≢◌, List, [], ◌∷◌, ◌++◌, length, take, drop, replicate, get_or, inl, inr, refl, arith, length-append, length-drop, length-take}
use Rattle.std.specs.Prelude.{map, slice_index}
use Rattle.std.specs.Int.{w32, to_be_bytes}
use Rattle.std.proofs.lemmas.Bool.Decides.{eqb_tells}
use Rattle.std.proofs.lemmas.List.{length-replicate}
use Rattle.std.proofs.lemmas.List.FromFn.{length-map-range_with_len}
use Rattle.aes_core.specs.Aes.{add, after_rounds, cipher_rounds, last_round, shift_rows}
use Rattle.aes_core.specs.Cipher.{round_count}
use Rattle.aes_core.specs.Field.{sbox}
use Rattle.aes_core.specs.Inverses.{AreBytes, IsBlock}
use Rattle.aes_core.specs.KeyExpansion.{round_key}
use Rattle.aes_core.proofs.Inverse.{IsBlock-add, byte_in, bytes-append}
use Rattle.der_core.specs.Laws.{IsBytes}
use Rattle.krb_names.specs.declared.key.Key.{Key}
use Rattle.krb_names.specs.Keys.{key_bytes}
use Rattle.krb_crypto.specs.BlockCipher.{IsKey, encrypt, schedule_of}
use Rattle.krb_crypto.specs.CiphertextStealing.{cts_encrypt, encrypt_chain, encrypt_last, front_blocks, padded}
use Rattle.krb_crypto.specs.Derivation.{encryption_key, integrity_key}
use Rattle.krb_crypto.specs.Encryption.{seal, short_hmac}
use Rattle.krb_crypto.specs.KeyedHash.{hmac_sha1}
use Rattle.krb_crypto.proofs.CtsInverse.{IsBlock-take, bytes-drop, bytes-take, bytes-zeros}
use Rattle.krb_crypto.proofs.DerivedKeys.{IsKey-dk}
use Rattle.krb_crypto.proofs.KeyBlocks.{undoes_key}
use Rattle.pac_laws.proofs.Bytes.{IsBytes-append, IsBytes-be, IsBytes-nil}
use Rattle.sha1.specs.Sha1.{digest_bytes, sha1}
use Rattle.ticket_parts.proofs.Bytes.{IsBytes-take}

-- ---- how long it is, whatever the key is

abbrev IsShort : (List ℕ → List ℕ) → Type 0
IsShort e = (b : List ℕ) → length (e b) ≤ 16

add_within : (a b : List ℕ) → length (add a b) ≤ length a
add_within [] b = omega arith
add_within (x ∷ a) [] = omega arith
add_within (x ∷ a) (y ∷ b) = omega (arith, add_within a b)

round_within : (key s : List ℕ) → length (last_round key s) ≤ 16
unfolding last_round
round_within key s =
    let bytes : List ℕ = map sbox s in
    omega (arith, add_within (shift_rows bytes) key, length-map-range_with_len (λ i. slice_index bytes ((i + 4 * (i % 4)) % 16)) 0 16)

encrypt_within : (key : Key) → IsShort (encrypt key)
unfolding cipher_rounds
encrypt_within key b =
    let words : List (List ℕ) = schedule_of key in
    let n : ℕ = round_count words in
    round_within (round_key words n) (after_rounds (round_key words) b (n - 1))

last_within : (e : List ℕ → List ℕ) (before p : List ℕ) → IsShort e → 16 ≤ length p → length (encrypt_last e before p) ≤ length p
unfolding encrypt_last
last_within e before p short low =
    let rest : List ℕ = drop 16 p in
    let c : List ℕ = e (add (take 16 p) before) in
    let last : List ℕ = e (add (padded rest) c) in
    omega (arith, short (add (padded rest) c), length-append last (take (length rest) c), length-take (length rest) c, length-drop 16 p)

chain_within : (e : List ℕ → List ℕ) (n : ℕ) (before p : List ℕ) → IsShort e → 16 * n + 16 ≤ length p → length (encrypt_chain e n before p) ≤ length p
unfolding encrypt_chain
chain_within e zero before p short low = last_within e before p short (omega arith)
chain_within e (suc n) before p short low =
    let c : List ℕ = e (add (take 16 p) before) in
    let rest : List ℕ = drop 16 p in
    let len : length rest ≡ length p - 16 = length-drop 16 p in
    omega (arith, short (add (take 16 p) before), length-append c (encrypt_chain e n c rest), chain_within e n c rest short (omega arith))

cts_within : (e : List ℕ → List ℕ) (p : List ℕ) → IsShort e → 16 ≤ length p → length (cts_encrypt e p) ≤ length p
unfolding cts_encrypt
cts_within e p short low = elim (eqb_tells (length p) 16) [
  | inl same ↦ rw same.0 (omega (arith, short p, same.1))
  | inr other ↦
      let more : length p ≢ 16 = other.1 in
      rw other.0 (chain_within e (front_blocks (length p)) (replicate 16 0) p short (omega arith))
]

pub seal_within : (key : Key) (usage : ℕ) (conf message : List ℕ) → length conf ≡ 16 → length (seal key usage conf message) ≤ length message + 28
seal_within key usage conf message long =
    let text : List ℕ = conf ++ message in
    let both : length text ≡ length conf + length message = length-append conf message in
    let own : Key = encryption_key key usage in
    let front : List ℕ = cts_encrypt (encrypt own) text in
    let sum : List ℕ = short_hmac (integrity_key key usage) text in
    let short : length front ≤ length text = cts_within (encrypt own) text (encrypt_within own) (omega arith) in
    let few : length sum ≤ 12 = omega (arith, length-take 12 (hmac_sha1 (key_bytes (integrity_key key usage)) text)) in
    omega (arith, length-append front sum, short, few, both)

-- ---- its bytes

abbrev GivesBlocks : (List ℕ → List ℕ) → Type 0
GivesBlocks e = (b : List ℕ) → IsBlock b → IsBlock (e b)

padded_is : (p : List ℕ) → length p ≤ 16 → AreBytes p → IsBlock (padded p)
padded_is p low h =
    let zeros : List ℕ = replicate (16 - length p) 0 in
    (omega (arith, length-append p zeros, length-replicate {A = ℕ} (16 - length p) 0), bytes-append p zeros h (bytes-zeros (16 - length p)))

last_bytes : (e : List ℕ → List ℕ) (before p : List ℕ) → GivesBlocks e → IsBlock before → AreBytes p → 16 ≤ length p → length p ≤ 32 → AreBytes (encrypt_last e before p)
unfolding encrypt_last
last_bytes e before p block is h low high =
    let rest : List ℕ = drop 16 p in
    let len : length rest ≡ length p - 16 = length-drop 16 p in
    let c : List ℕ = e (add (take 16 p) before) in
    let made : IsBlock c = block (add (take 16 p) before) (IsBlock-add (take 16 p) before (IsBlock-take p low h) is) in
    let filled : IsBlock (padded rest) = padded_is rest (omega arith) (bytes-drop 16 p h) in
    bytes-append (e (add (padded rest) c)) (take (length rest) c) (block (add (padded rest) c) (IsBlock-add (padded rest) c filled made)).1 (bytes-take (length rest) c made.1)

chain_bytes : (e : List ℕ → List ℕ) (n : ℕ) (before p : List ℕ) → GivesBlocks e → IsBlock before → AreBytes p → 16 * n + 16 ≤ length p → length p ≤ 16 * n + 32
    → AreBytes (encrypt_chain e n before p)
unfolding encrypt_chain
chain_bytes e zero before p block is h low high = last_bytes e before p block is h (omega arith) (omega arith)
chain_bytes e (suc n) before p block is h low high =
    let rest : List ℕ = drop 16 p in
    let len : length rest ≡ length p - 16 = length-drop 16 p in
    let c : List ℕ = e (add (take 16 p) before) in
    let made : IsBlock c = block (add (take 16 p) before) (IsBlock-add (take 16 p) before (IsBlock-take p (omega arith) h) is) in
    bytes-append c (encrypt_chain e n c rest) made.1 (chain_bytes e n c rest block made (bytes-drop 16 p h) (omega arith) (omega arith))

cts_bytes : (e : List ℕ → List ℕ) (p : List ℕ) → GivesBlocks e → AreBytes p → 16 ≤ length p → AreBytes (cts_encrypt e p)
unfolding cts_encrypt
cts_bytes e p block h low = elim (eqb_tells (length p) 16) [
  | inl same ↦ rw same.0 ((block p (same.1, h)).1)
  | inr other ↦
      let zeros : IsBlock (replicate 16 0) = (refl, bytes-zeros 16) in
      let more : length p ≢ 16 = other.1 in
      rw other.0 (chain_bytes e (front_blocks (length p)) (replicate 16 0) p block zeros h (omega arith) (omega arith))
]

digest_is_bytes : (h : List ℕ) (n : ℕ) → IsBytes (digest_bytes h n)
unfolding digest_bytes
digest_is_bytes h zero = IsBytes-nil
digest_is_bytes h (suc n) = IsBytes-append (digest_bytes h n) (to_be_bytes w32 (get_or h n 0)) (digest_is_bytes h n) (IsBytes-be w32 (get_or h n 0))

sha1_is_bytes : (m : List ℕ) → IsBytes (sha1 m)
unfolding sha1
sha1_is_bytes m = digest_is_bytes _ 5

pub seal_bytes : (key : Key) (usage : ℕ) (conf message : List ℕ) → IsKey key → IsBlock conf → AreBytes message → IsBytes (seal key usage conf message)
seal_bytes key usage conf message own block h =
    let text : List ℕ = conf ++ message in
    let ke : Key = encryption_key key usage in
    let front : List ℕ = cts_encrypt (encrypt ke) text in
    let sum : List ℕ = short_hmac (integrity_key key usage) text in
    let long : length conf ≡ 16 = block.0 in
    let some : 16 ≤ length text = omega (arith, length-append conf message) in
    let are : AreBytes front = cts_bytes (encrypt ke) text (undoes_key ke (IsKey-dk key _ own)).block (bytes-append conf message block.1 h) some in
    IsBytes-append front sum (λ i. byte_in front i are) (IsBytes-take 12 (hmac_sha1 (key_bytes (integrity_key key usage)) text) (sha1_is_bytes _))

-- The two directions of AES under a Kerberos key.
use Rattle.std.proofs.Common.{◌≡◌, ℕ, ◌⊎◌, ◌*◌, ◌/◌, ◌≤◌, List, length, inl, inr, refl, arith}
use Rattle.aes_core.specs.Cipher.{round_count}
use Rattle.aes_core.specs.Inverses.{Undoes}
use Rattle.aes_core.specs.KeyExpansion.{round_key}
use Rattle.aes_core.proofs.Inverse.{AreKeys, inv_cipher-cipher, IsBlock-cipher}
use Rattle.aes_core.proofs.InverseBack.{cipher-inv_cipher, IsBlock-inv_cipher}
use Rattle.aes_core.proofs.ScheduleWords.{keys-expansion, rounds-some}
use Rattle.krb_names.specs.declared.etype.Etype.{Etype}
use Rattle.krb_names.specs.declared.etype.Etype.TheVariants.{Aes128, Aes256}
use Rattle.krb_names.specs.declared.key.Key.{Key}
use Rattle.krb_names.specs.Etypes.{key_length}
use Rattle.krb_crypto.specs.BlockCipher.{encrypt, decrypt, schedule_of, IsKey}

-- the words of a key
words : (etype : Etype) → (key_length etype / 4 ≡ 4) ⊎ (key_length etype / 4 ≡ 8)
words Aes128 = inl refl
words Aes256 = inr refl

enough : (etype : Etype) (n : ℕ) → n ≡ 32 → 4 * (key_length etype / 4) ≤ n
enough Aes128 n e = omega arith
enough Aes256 n e = omega arith

pub undoes_key : (key : Key) → IsKey key → Undoes (encrypt key) (decrypt key)
undoes_key key h =
    let w : List (List ℕ) = schedule_of key in
    let n : ℕ = round_count w in
    let long = enough key.etype (length key.raw) h.0 in
    let keys : AreKeys n (round_key w) = keys-expansion (key_length key.etype / 4) key.raw (words key.etype) long h.1 in
    record {
      block = λ b hb. IsBlock-cipher n (round_key w) b keys hb;
      undo = λ b hb. inv_cipher-cipher n (round_key w) b (rounds-some (key_length key.etype / 4) key.raw (words key.etype) long h.1) keys hb;
    }

pub redoes_key : (key : Key) → IsKey key → Undoes (decrypt key) (encrypt key)
redoes_key key h =
    let w : List (List ℕ) = schedule_of key in
    let n : ℕ = round_count w in
    let long = enough key.etype (length key.raw) h.0 in
    let keys : AreKeys n (round_key w) = keys-expansion (key_length key.etype / 4) key.raw (words key.etype) long h.1 in
    record {
      block = λ b hb. IsBlock-inv_cipher n (round_key w) b keys hb;
      undo = λ b hb. cipher-inv_cipher n (round_key w) b (rounds-some (key_length key.etype / 4) key.raw (words key.etype) long h.1) keys hb;
    }

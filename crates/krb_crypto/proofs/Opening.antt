-- What sealed bytes open to.
use Rattle.std.proofs.Common.{◌≡◌, ℕ, ◌+◌, ◌-◌, ◌<◌, ◌≤◌, List, ◌++◌, length, take, drop, refl, ap, sym, ◌∙◌, arith}
use Rattle.std.proofs.lemmas.List.{take_at, drop_at, length-append, length-take-le, take-append-drop}
use Rattle.krb_names.specs.declared.key.Key.{Key}
use Rattle.aes_core.specs.Inverses.{AreBytes, Undoes}
use Rattle.aes_core.proofs.Inverse.{bytes-append}
use Rattle.krb_crypto.specs.BlockCipher.{encrypt, decrypt, IsKey}
use Rattle.krb_crypto.specs.CiphertextStealing.{cts_encrypt, cts_decrypt}
use Rattle.krb_crypto.specs.Derivation.{encryption_key, integrity_key}
use Rattle.krb_crypto.specs.Encryption.{sealed, short_hmac, Opens}
use Rattle.krb_crypto.proofs.CtsInverse.{cts_undo, length_cts, bytes-take, bytes-drop}
use Rattle.krb_crypto.proofs.CtsBack.{cts_redo, bytes_cts_decrypt}
use Rattle.krb_crypto.proofs.KeyBlocks.{undoes_key, redoes_key}
use Rattle.krb_crypto.specs.KeyedHash.{pad, hmac_sha1}
use Rattle.krb_names.specs.Keys.{key_bytes}
use Rattle.sha1.specs.Sha1.{sha1, digest_bytes}

-- the front of what is sealed decrypts to the sealed text
pub sealed_front : (key : Key) (usage : ℕ) (text : List ℕ) → IsKey (encryption_key key usage) → AreBytes text → 16 ≤ length text
    → cts_decrypt (decrypt (encryption_key key usage)) (take (length text) (sealed key usage text)) ≡ text
sealed_front key usage text hk h l =
    let ke : Key = encryption_key key usage in
    let undoes : Undoes (encrypt ke) (decrypt ke) = undoes_key ke hk in
    ap (cts_decrypt (decrypt ke)) (take_at (cts_encrypt (encrypt ke) text) (short_hmac (integrity_key key usage) text) (length text) (length_cts (encrypt ke) (decrypt ke) text undoes h l))
    ∙ cts_undo (encrypt ke) (decrypt ke) text undoes h l

pub sealed_back : (key : Key) (usage : ℕ) (text : List ℕ) → IsKey (encryption_key key usage) → AreBytes text → 16 ≤ length text
    → drop (length text) (sealed key usage text) ≡ short_hmac (integrity_key key usage) text
sealed_back key usage text hk h l =
    let ke : Key = encryption_key key usage in
    drop_at (cts_encrypt (encrypt ke) text) (short_hmac (integrity_key key usage) text) (length text) (length_cts (encrypt ke) (decrypt ke) text (undoes_key ke hk) h l)

pub length-sha1 : (m : List ℕ) → length (sha1 m) ≡ 20
unfolding sha1 digest_bytes
length-sha1 m = refl

length-short_hmac : (key : Key) (text : List ℕ) → length (short_hmac key text) ≡ 12
length-short_hmac key text = length-take-le 12 (hmac_sha1 (key_bytes key) text) (omega (arith, length-sha1 (pad sha1 0x5c (key_bytes key) ++ sha1 (pad sha1 0x36 (key_bytes key) ++ text))))

length-sealed : (key : Key) (usage : ℕ) (text : List ℕ) → IsKey (encryption_key key usage) → AreBytes text → 16 ≤ length text → length (sealed key usage text) ≡ length text + 12
length-sealed key usage text hk h l =
    let ke : Key = encryption_key key usage in
    let kept : length (cts_encrypt (encrypt ke) text) ≡ length text = length_cts (encrypt ke) (decrypt ke) text (undoes_key ke hk) h l in
    length-append (cts_encrypt (encrypt ke) text) (short_hmac (integrity_key key usage) text) ∙ omega (arith, length-short_hmac (integrity_key key usage) text)

-- what opens is the sealing of a text of the message and 16 bytes more
pub record IsSealed (key : Key) (usage : ℕ) (bytes text message : List ℕ) : Type 0 where
  pub all : AreBytes text
  pub long : 16 ≤ length text
  pub made : bytes ≡ sealed key usage text
  pub size : length bytes ≡ length text + 12
  pub rest : drop 16 text ≡ message

pub sealed_text : (key : Key) (usage : ℕ) (bytes message : List ℕ) → IsKey (encryption_key key usage) → Opens key usage bytes message → (text : List ℕ) × IsSealed key usage bytes text message
sealed_text key usage bytes message hk (conf, h) =
    let text : List ℕ = conf ++ message in
    let all : AreBytes text = bytes-append conf message h.0.1 h.1 in
    let lc : length conf ≡ 16 = h.0.0 in
    let long : 16 ≤ length text = omega (arith, length-append conf message) in
    (text, record { all = all; long = long; made = h.2; size = ap length h.2 ∙ length-sealed key usage text hk all long; rest = drop_at conf message 16 lc })

-- the text that was sealed, from the bytes
pub text_of : (key : Key) (usage : ℕ) (bytes text message : List ℕ) → IsKey (encryption_key key usage) → IsSealed key usage bytes text message
    → cts_decrypt (decrypt (encryption_key key usage)) (take (length bytes - 12) bytes) ≡ text
text_of key usage bytes text message hk s =
    let size : length bytes ≡ length text + 12 = s.size in
    let n : length bytes - 12 ≡ length text = omega arith in
    (λ i. cts_decrypt (decrypt (encryption_key key usage)) (take (n i) (s.made i)))
    ∙ sealed_front key usage text hk s.all s.long

pub opens_once : (key : Key) (usage : ℕ) (bytes m n : List ℕ) → IsKey (encryption_key key usage) → Opens key usage bytes m → Opens key usage bytes n → m ≡ n
opens_once key usage bytes m n hk om on =
    let a = sealed_text key usage bytes m hk om in
    let b = sealed_text key usage bytes n hk on in
    sym a.1.rest ∙ ap (drop 16) (sym (text_of key usage bytes a.0 m hk a.1) ∙ text_of key usage bytes b.0 n hk b.1) ∙ b.1.rest

pub opens_long : (key : Key) (usage : ℕ) (bytes m : List ℕ) → IsKey (encryption_key key usage) → length bytes < 28 → Opens key usage bytes m → ⊥
opens_long key usage bytes m hk l o =
    let a = sealed_text key usage bytes m hk o in
    let size : length bytes ≡ length a.0 + 12 = a.1.size in
    let long : 16 ≤ length a.0 = a.1.long in
    omega arith

-- the last 12 bytes of what opens are the sum of what is decrypted
pub opens_sum : (key : Key) (usage : ℕ) (bytes m : List ℕ) → IsKey (encryption_key key usage) → Opens key usage bytes m
    → drop (length bytes - 12) bytes ≡ short_hmac (integrity_key key usage) (cts_decrypt (decrypt (encryption_key key usage)) (take (length bytes - 12) bytes))
opens_sum key usage bytes m hk o =
    let a = sealed_text key usage bytes m hk o in
    let size : length bytes ≡ length a.0 + 12 = a.1.size in
    let n : length bytes - 12 ≡ length a.0 = omega arith in
    (λ i. drop (n i) (a.1.made i))
    ∙ sealed_back key usage a.0 hk a.1.all a.1.long
    ∙ ap (short_hmac (integrity_key key usage)) (sym (text_of key usage bytes a.0 m hk a.1))

-- what was decrypted encrypts to what was there
pub restored : (key : Key) (usage : ℕ) (bytes : List ℕ) → IsKey (encryption_key key usage) → AreBytes bytes → 28 ≤ length bytes
    → cts_encrypt (encrypt (encryption_key key usage)) (cts_decrypt (decrypt (encryption_key key usage)) (take (length bytes - 12) bytes)) ≡ take (length bytes - 12) bytes
restored key usage bytes hk h l =
    let ke : Key = encryption_key key usage in
    let front : List ℕ = take (length bytes - 12) bytes in
    cts_redo (encrypt ke) (decrypt ke) front (redoes_key ke hk) (bytes-take (length bytes - 12) bytes h) (omega (arith, length-take-le (length bytes - 12) bytes (omega arith)))

-- bytes whose last 12 are the sum open to what is decrypted, but for its first 16 bytes
pub opens_found : (key : Key) (usage : ℕ) (bytes text : List ℕ) → IsKey (encryption_key key usage) → AreBytes bytes → 28 ≤ length bytes → AreBytes text → length text ≡ length bytes - 12
    → text ≡ cts_decrypt (decrypt (encryption_key key usage)) (take (length bytes - 12) bytes)
    → drop (length bytes - 12) bytes ≡ short_hmac (integrity_key key usage) text → Opens key usage bytes (drop 16 text)
opens_found key usage bytes text hk hb l ht lt et es =
    let ke : Key = encryption_key key usage in
    let n : ℕ = length bytes - 12 in
    let conf : List ℕ = take 16 text in
    let whole : conf ++ drop 16 text ≡ text = take-append-drop 16 text in
    let made : bytes ≡ sealed key usage text =
    sym (take-append-drop n bytes) ∙ (λ i. (sym (restored key usage bytes hk hb l) ∙ ap (cts_encrypt (encrypt ke)) (sym et)) i ++ es i) in
    (conf, ((length-take-le 16 text (omega arith), bytes-take 16 text ht), bytes-drop 16 text ht, made ∙ ap (sealed key usage) (sym whole)))

pub bytes_decrypted : (key : Key) (usage : ℕ) (bytes : List ℕ) → IsKey (encryption_key key usage) → AreBytes bytes → 28 ≤ length bytes
    → AreBytes (cts_decrypt (decrypt (encryption_key key usage)) (take (length bytes - 12) bytes))
bytes_decrypted key usage bytes hk h l =
    let ke : Key = encryption_key key usage in
    bytes_cts_decrypt (encrypt ke) (decrypt ke) (take (length bytes - 12) bytes) (redoes_key ke hk) (bytes-take (length bytes - 12) bytes h) (omega (arith, length-take-le (length bytes - 12) bytes (omega arith)))

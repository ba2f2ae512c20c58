-- What was sealed opens.
use Rattle.std.proofs.Common.{◌≡◌, ℕ, ◌+◌, ◌-◌, ◌≤◌, List, length, take, drop, refl, ap, ◌∙◌, length-drop, arith, Some}
use Rattle.aes_core.specs.Inverses.{AreBytes, IsBlock}
use Rattle.krb_names.specs.declared.key.Key.{Key}
use Rattle.krb_crypto.specs.BlockCipher.{decrypt, IsKey}
use Rattle.krb_crypto.specs.CiphertextStealing.{cts_decrypt}
use Rattle.krb_crypto.specs.Derivation.{encryption_key}
use Rattle.krb_crypto.specs.Encryption.{opened, Opens, seal}
use Rattle.krb_crypto.proofs.DerivedKeys.{IsKey-dk}
use Rattle.krb_crypto.proofs.Opened.{opened_some}
use Rattle.krb_crypto.proofs.Opening.{opens_sum, sealed_text, text_of}

seal_opens : (key : Key) (usage : ℕ) (conf message : List ℕ) → IsBlock conf → AreBytes message → Opens key usage (seal key usage conf message) message
seal_opens key usage conf message hc hm = (conf, (hc, hm, refl))

pub length_sealed : (key : Key) (usage : ℕ) (conf message : List ℕ) → IsKey key → IsBlock conf → AreBytes message → length (seal key usage conf message) ≡ length message + 28
length_sealed key usage conf message hk hc hm =
    let s = sealed_text key usage (seal key usage conf message) message (IsKey-dk key _ hk) (seal_opens key usage conf message hc hm) in
    let text : List ℕ = s.0 in
    let size : length (seal key usage conf message) ≡ length text + 12 = s.1.size in
    let long : 16 ≤ length text = s.1.long in
    let rest : length (drop 16 text) ≡ length message = ap length s.1.rest in
    omega (arith, size, long, rest, length-drop 16 text)

pub opened_sealed : (key : Key) (usage : ℕ) (conf message : List ℕ) → IsKey key → IsBlock conf → AreBytes message → opened key usage (seal key usage conf message) ≡ Some message
opened_sealed key usage conf message hk hc hm =
    let bytes : List ℕ = seal key usage conf message in
    let own : IsKey (encryption_key key usage) = IsKey-dk key _ hk in
    let opens : Opens key usage bytes message = seal_opens key usage conf message hc hm in
    let s = sealed_text key usage bytes message own opens in
    let size : length bytes ≡ length s.0 + 12 = s.1.size in
    let long : 16 ≤ length s.0 = s.1.long in
    opened_some key usage bytes (cts_decrypt (decrypt (encryption_key key usage)) (take (length bytes - 12) bytes)) (omega arith) refl (opens_sum key usage bytes message own opens)
    ∙ (λ i. Some ((ap (drop 16) (text_of key usage bytes s.0 message own s.1) ∙ s.1.rest) i))

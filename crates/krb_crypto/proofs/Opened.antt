-- The message that bytes open to, as a function, is the one that they are the sealing of.
use Rattle.std.proofs.Common.{◌≡◌, ℕ, ◌+◌, ◌-◌, ◌<◌, ◌≤◌, ◌↔◌, List, [], ◌∷◌, length, take, drop, refl, ap, sym, ◌∙◌, arith, subst, Bool, true, false, ◌&&◌, cond, nat_eq, nat_le, Some, None}
use Rattle.std.proofs.lemmas.Bool.{false≢true}
use Rattle.std.proofs.lemmas.Bool.Decides.{nat_tests}
use Rattle.std.proofs.lemmas.List.{length-take-le}
use Rattle.kdc_prelude.proofs.Bools.{both}
use Rattle.kdc_prelude.specs.Texts.{same_text}
use Rattle.krb_names.specs.declared.key.Key.{Key}
use Rattle.aes_core.specs.Inverses.{AreBytes}
use Rattle.krb_crypto.specs.BlockCipher.{encrypt, decrypt, IsKey}
use Rattle.krb_crypto.specs.CiphertextStealing.{cts_decrypt}
use Rattle.krb_crypto.specs.Derivation.{encryption_key, integrity_key}
use Rattle.krb_crypto.specs.Encryption.{short_hmac, Opens, opened}
use Rattle.krb_crypto.proofs.CtsBack.{length_cts_decrypt}
use Rattle.krb_crypto.proofs.CtsInverse.{bytes-take}
use Rattle.krb_crypto.proofs.KeyBlocks.{redoes_key}
use Rattle.krb_crypto.proofs.Opening.{opens_found, opens_sum, bytes_decrypted, sealed_text, text_of}

same_number : (x y : ℕ) → nat_eq x y ≡ true → x ≡ y
same_number x y h = grind (arith, nat_tests)

itself : (x : ℕ) → nat_eq x x ≡ true
itself x = grind (arith, nat_tests)

text_itself : (a : List ℕ) → same_text a a ≡ true
text_itself [] = refl
text_itself (x ∷ a) = rw (itself x) (text_itself a)

text_true : (a b : List ℕ) → same_text a b ≡ true → a ≡ b
text_true [] [] h = refl
text_true [] (y ∷ b) h = absurd (false≢true h)
text_true (x ∷ a) [] h = absurd (false≢true h)
text_true (x ∷ a) (y ∷ b) h =
    let parts : (nat_eq x y ≡ true) × (same_text a b ≡ true) = both (nat_eq x y) (same_text a b) h in
    λ i. same_number x y parts.0 i ∷ text_true a b parts.1 i

text_false : (a b : List ℕ) → (a ≡ b → ⊥) → same_text a b ≡ false
text_false a b h = by_test (same_text a b) refl
  where
    by_test : (t : Bool) → same_text a b ≡ t → same_text a b ≡ false
    by_test true e = absurd (h (text_true a b e))
    by_test false e = e

-- what is decrypted of sealed bytes
abbrev pub text_in : Key → ℕ → List ℕ → List ℕ
text_in key usage bytes = cts_decrypt (decrypt (encryption_key key usage)) (take (length bytes - 12) bytes)

pub opened_short : (key : Key) (usage : ℕ) (bytes : List ℕ) → length bytes < 28 → opened key usage bytes ≡ None
unfolding opened
opened_short key usage bytes h =
    let short : nat_le 28 (length bytes) ≡ false = grind (arith, nat_tests) in
    rw short refl

pub opened_some : (key : Key) (usage : ℕ) (bytes text : List ℕ) → 28 ≤ length bytes → text ≡ text_in key usage bytes
    → drop (length bytes - 12) bytes ≡ short_hmac (integrity_key key usage) text → opened key usage bytes ≡ Some (drop 16 text)
unfolding opened
opened_some key usage bytes text h et es =
    let long : nat_le 28 (length bytes) ≡ true = grind (arith, nat_tests) in
    let shown : List ℕ = drop (length bytes - 12) bytes in
    let same : same_text shown (short_hmac (integrity_key key usage) (text_in key usage bytes)) ≡ true =
    (λ i. same_text shown ((sym (ap (short_hmac (integrity_key key usage)) et) ∙ sym es) i)) ∙ text_itself shown in
    rw (long, same) (λ i. Some (drop 16 (sym et i)))

pub opened_none : (key : Key) (usage : ℕ) (bytes text : List ℕ) → 28 ≤ length bytes → text ≡ text_in key usage bytes
    → (drop (length bytes - 12) bytes ≡ short_hmac (integrity_key key usage) text → ⊥) → opened key usage bytes ≡ None
unfolding opened
opened_none key usage bytes text h et es =
    let long : nat_le 28 (length bytes) ≡ true = grind (arith, nat_tests) in
    let shown : List ℕ = drop (length bytes - 12) bytes in
    let differs : same_text shown (short_hmac (integrity_key key usage) (text_in key usage bytes)) ≡ false =
    text_false shown (short_hmac (integrity_key key usage) (text_in key usage bytes)) (λ e. es (e ∙ ap (short_hmac (integrity_key key usage)) (sym et))) in
    rw (long, differs) refl

by_tests : (p q : Bool) (x m : List ℕ) → cond (p && q) (Some x) None ≡ Some m → (p ≡ true) × (q ≡ true) × (x ≡ m)
by_tests true true x m h = (refl, refl, cc)
by_tests true false x m h = absurd (cc)
by_tests false q x m h = absurd (cc)

from_opened : (key : Key) (usage : ℕ) (bytes m : List ℕ) → IsKey (encryption_key key usage) → AreBytes bytes → opened key usage bytes ≡ Some m → Opens key usage bytes m
unfolding opened
from_opened key usage bytes m hk hb e =
    let text : List ℕ = text_in key usage bytes in
    let shown : List ℕ = drop (length bytes - 12) bytes in
    let tests = by_tests (nat_le 28 (length bytes)) (same_text shown (short_hmac (integrity_key key usage) text)) (drop 16 text) m e in
    let long : 28 ≤ length bytes = at_least (length bytes) tests.0 in
    let ke : Key = encryption_key key usage in
    let front : length (take (length bytes - 12) bytes) ≡ length bytes - 12 = length-take-le (length bytes - 12) bytes (omega arith) in
    let len : length text ≡ length bytes - 12 =
    length_cts_decrypt (encrypt ke) (decrypt ke) (take (length bytes - 12) bytes) (redoes_key ke hk) (bytes-take (length bytes - 12) bytes hb) (omega arith) ∙ front in
    subst (λ x. Opens key usage bytes x) tests.2
    (opens_found key usage bytes text hk hb long (bytes_decrypted key usage bytes hk hb long) len refl (text_true shown (short_hmac (integrity_key key usage) text) tests.1))
  where
    at_least : (n : ℕ) → nat_le 28 n ≡ true → 28 ≤ n
    at_least n h = grind (arith, nat_tests)

to_opened : (key : Key) (usage : ℕ) (bytes m : List ℕ) → IsKey (encryption_key key usage) → Opens key usage bytes m → opened key usage bytes ≡ Some m
to_opened key usage bytes m hk o =
    let s = sealed_text key usage bytes m hk o in
    let size : length bytes ≡ length s.0 + 12 = s.1.size in
    let long : 16 ≤ length s.0 = s.1.long in
    opened_some key usage bytes (text_in key usage bytes) (omega arith) refl (opens_sum key usage bytes m hk o)
    ∙ (λ i. Some ((ap (drop 16) (text_of key usage bytes s.0 m hk s.1) ∙ s.1.rest) i))

pub opened_opens : (key : Key) (usage : ℕ) (bytes m : List ℕ) → IsKey (encryption_key key usage) → AreBytes bytes → (opened key usage bytes ≡ Some m) ↔ Opens key usage bytes m
opened_opens key usage bytes m hk hb = (from_opened key usage bytes m hk hb, to_opened key usage bytes m hk)

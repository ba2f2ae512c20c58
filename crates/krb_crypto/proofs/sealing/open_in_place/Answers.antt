use Rattle.std.proofs.Common.{◌≡◌, ℕ, ◌-◌, ◌≤◌, List, ◌++◌, ◌∙◌, ap, sym, length, take, drop, arith, subst, refl, slice_range, Some}
use Rattle.std.proofs.lemmas.Bool.{false≢true}
use Rattle.std.proofs.lemmas.List.{take_at, drop_at, take-append-drop, drop-append-le, length-take-le, length-drop}
use Rattle.aes_core.specs.Cipher.{cipher, inv_cipher}
use Rattle.aes_core.specs.Inverses.{AreBytes}
use Rattle.krb_crypto.specs.CiphertextStealing.{cts_encrypt, cts_decrypt}
use Rattle.krb_crypto.specs.Encryption.{short_hmac, Opens}
use Rattle.krb_names.specs.declared.key.Key.{Key}
use Rattle.krb_crypto.specs.BlockCipher.{IsKey, encrypt, decrypt, schedule_of}
use Rattle.krb_crypto.specs.Derivation.{encryption_key, integrity_key}
use Rattle.krb_crypto.proofs.Opening.{opens_found, opens_sum, opens_long, restored, bytes_decrypted}
use Rattle.krb_crypto.proofs.Opened.{opened_short, opened_some, opened_none}
use Rattle.krb_crypto.proofs.sealing.open_in_place.Goals as goal

-- the derived key is a key
is_key : (key found : Key) (usage : ℕ) → found ≡ encryption_key key usage → IsKey found → IsKey (encryption_key key usage)
is_key key found usage e h = subst IsKey e h

pub returns-then-cipher-lt28-clause-cause : goal.returns-then-cipher-lt28-clause-cause
returns-then-cipher-lt28-clause-cause c =
    λ message o. opens_long c.args.key.now c.args.usage c.args.cipher.now message
    (is_key c.args.key.now c.derive-encryption_key.result c.args.usage c.derive-encryption_key.ensures.value c.derive-encryption_key.ensures.padded) c.if-cipher-lt28.true o

-- what stands in the buffer once its front is decrypted
decrypted : (key : Key) (usage : ℕ) (b text : List ℕ) (found : Key) (schedule : List (List ℕ)) → found ≡ encryption_key key usage → schedule ≡ schedule_of found
    → text ≡ cts_decrypt (inv_cipher schedule) (take (length b - 12) b) → text ≡ cts_decrypt (decrypt (encryption_key key usage)) (take (length b - 12) b)
decrypted key usage b text found schedule ef es et = et ∙ (λ i. cts_decrypt (inv_cipher ((es ∙ ap schedule_of ef) i)) (take (length b - 12) b))

-- the sum that was made of it
summed : (key : Key) (usage n : ℕ) (text rest sum : List ℕ) (found : Key) → found ≡ integrity_key key usage → length text ≡ n → sum ≡ short_hmac found (take n (text ++ rest))
    → sum ≡ short_hmac (integrity_key key usage) text
summed key usage n text rest sum found ef lt es = es ∙ (λ i. short_hmac (ef i) (take_at text rest n lt i))

-- the message in the buffer
message_at : (text rest : List ℕ) (n : ℕ) → length text ≡ n → 16 ≤ n → slice_range (text ++ rest) 16 n ≡ drop 16 text
message_at text rest n lt l =
    ap (take (n - 16)) (drop-append-le 16 text rest (omega arith)) ∙ take_at (drop 16 text) rest (n - 16) (omega (arith, length-drop 16 text))

pub returns-then-is_same_sum-clause-found : goal.returns-then-is_same_sum-clause-found
returns-then-is_same_sum-clause-found c =
    let key : Key = c.args.key.now in
    let b : List ℕ = c.args.cipher.now in
    let n : ℕ = length b - 12 in
    let text : List ℕ = c.decrypt_text.new.bytes in
    let rest : List ℕ = drop n b in
    let long : 28 ≤ length b = c.if-cipher-lt28.false in
    let lt : length text ≡ n = omega (arith, length-take-le n b (omega arith)) in
    let hk : IsKey (encryption_key key c.args.usage) = is_key key c.derive-encryption_key.result c.args.usage c.derive-encryption_key.ensures.value c.derive-encryption_key.ensures.padded in
    let hb : AreBytes b = c.sum_at-shown.ensures.exact in
    let et = decrypted key c.args.usage b text c.derive-encryption_key.result c.schedule_of-schedule.result c.derive-encryption_key.ensures.value c.schedule_of-schedule.ensures c.decrypt_text.ensures in
    let sum = summed key c.args.usage n text rest c.short_hmac-sum.result c.derive.result c.derive.ensures.value lt c.short_hmac-sum.ensures in
    let same : c.sum_at-shown.result ≡ c.short_hmac-sum.result = c.if-is_same_sum.ensures.found.0 refl in
    subst (λ m. Opens key c.args.usage b m) (sym (message_at text rest n lt (omega arith)))
    (opens_found key c.args.usage b text hk hb long (subst AreBytes (sym et) (bytes_decrypted key c.args.usage b hk hb long)) lt et (sym c.sum_at-shown.ensures.value ∙ same ∙ sum))

pub returns-clause-cause : goal.returns-clause-cause
returns-clause-cause c = λ message o.
    let key : Key = c.args.key.now in
    let b : List ℕ = c.args.cipher.now in
    let n : ℕ = length b - 12 in
    let text : List ℕ = c.decrypt_text.new.bytes in
    let lt : length text ≡ n = omega (arith, length-take-le n b (omega arith)) in
    let hk : IsKey (encryption_key key c.args.usage) = is_key key c.derive-encryption_key.result c.args.usage c.derive-encryption_key.ensures.value c.derive-encryption_key.ensures.padded in
    let et = decrypted key c.args.usage b text c.derive-encryption_key.result c.schedule_of-schedule.result c.derive-encryption_key.ensures.value c.schedule_of-schedule.ensures c.decrypt_text.ensures in
    let sum = summed key c.args.usage n text (drop n b) c.short_hmac-sum.result c.derive.result c.derive.ensures.value lt c.short_hmac-sum.ensures in
    let same : c.sum_at-shown.result ≡ c.short_hmac-sum.result =
    c.sum_at-shown.ensures.value ∙ opens_sum key c.args.usage b message hk o ∙ ap (short_hmac (integrity_key key c.args.usage)) (sym et) ∙ sym sum in
    let different = c.if-is_same_sum.ensures.found.1 same in
    absurd (false≢true different)

pub returns-clause-unchanged : goal.returns-clause-unchanged
returns-clause-unchanged c =
    let key : Key = c.args.key.now in
    let b : List ℕ = c.args.cipher.now in
    let n : ℕ = length b - 12 in
    let text : List ℕ = c.decrypt_text.new.bytes in
    let rest : List ℕ = drop n b in
    let lt : length text ≡ n = omega (arith, length-take-le n b (omega arith)) in
    let hk : IsKey (encryption_key key c.args.usage) = is_key key c.derive-encryption_key.result c.args.usage c.derive-encryption_key.ensures.value c.derive-encryption_key.ensures.padded in
    let et = decrypted key c.args.usage b text c.derive-encryption_key.result c.schedule_of-schedule.result c.derive-encryption_key.ensures.value c.schedule_of-schedule.ensures c.decrypt_text.ensures in
    let again : schedule_of c.derive-encryption_key.result ≡ schedule_of (encryption_key key c.args.usage) = ap schedule_of c.derive-encryption_key.ensures.value in
    (λ i. c.encrypt_text.ensures i ++ drop_at text rest n lt i)
    ∙ (λ i. cts_encrypt (cipher ((c.schedule_of-schedule.ensures ∙ again) i)) (take_at text rest n lt i) ++ rest)
    ∙ (λ i. cts_encrypt (encrypt (encryption_key key c.args.usage)) (et i) ++ rest)
    ∙ (λ i. restored key c.args.usage b hk c.sum_at-shown.ensures.exact c.if-cipher-lt28.false i ++ rest)
    ∙ take-append-drop n b

pub returns-then-cipher-lt28-clause-exact : goal.returns-then-cipher-lt28-clause-exact
returns-then-cipher-lt28-clause-exact c = sym (opened_short c.args.key.now c.args.usage c.args.cipher.now c.if-cipher-lt28.true)

pub returns-then-is_same_sum-clause-exact : goal.returns-then-is_same_sum-clause-exact
returns-then-is_same_sum-clause-exact c =
    let key : Key = c.args.key.now in
    let b : List ℕ = c.args.cipher.now in
    let n : ℕ = length b - 12 in
    let text : List ℕ = c.decrypt_text.new.bytes in
    let long : 28 ≤ length b = c.if-cipher-lt28.false in
    let lt : length text ≡ n = omega (arith, length-take-le n b (omega arith)) in
    let et = decrypted key c.args.usage b text c.derive-encryption_key.result c.schedule_of-schedule.result c.derive-encryption_key.ensures.value c.schedule_of-schedule.ensures c.decrypt_text.ensures in
    let sum = summed key c.args.usage n text (drop n b) c.short_hmac-sum.result c.derive.result c.derive.ensures.value lt c.short_hmac-sum.ensures in
    let same : c.sum_at-shown.result ≡ c.short_hmac-sum.result = c.if-is_same_sum.ensures.found.0 refl in
    (λ i. Some (message_at text (drop n b) n lt (omega arith) i)) ∙ sym (opened_some key c.args.usage b text long et (sym c.sum_at-shown.ensures.value ∙ same ∙ sum))

pub returns-clause-exact : goal.returns-clause-exact
returns-clause-exact c =
    let key : Key = c.args.key.now in
    let b : List ℕ = c.args.cipher.now in
    let n : ℕ = length b - 12 in
    let text : List ℕ = c.decrypt_text.new.bytes in
    let long : 28 ≤ length b = c.if-cipher-lt28.false in
    let lt : length text ≡ n = omega (arith, length-take-le n b (omega arith)) in
    let et = decrypted key c.args.usage b text c.derive-encryption_key.result c.schedule_of-schedule.result c.derive-encryption_key.ensures.value c.schedule_of-schedule.ensures c.decrypt_text.ensures in
    let sum = summed key c.args.usage n text (drop n b) c.short_hmac-sum.result c.derive.result c.derive.ensures.value lt c.short_hmac-sum.ensures in
    sym (opened_none key c.args.usage b text long et (λ e. false≢true (c.if-is_same_sum.ensures.found.1 (c.sum_at-shown.ensures.value ∙ e ∙ sym sum))))

-- What one block adds to a text that is encrypted or decrypted in place.
use Rattle.std.proofs.Common.{◌≡◌, ℕ, zero, suc, ◌+◌, ◌-◌, ◌*◌, ◌<◌, ◌≤◌, List, [], ◌∷◌, ◌++◌, length, take, drop, replicate, refl, ap, sym, ◌∙◌, arith, bit_xor, append_assoc, nat_eq, true, false, ◌≢◌}
use Rattle.std.proofs.lemmas.List.{take_at, drop_at, drop-drop, length-append, length-drop, length-take-le, append-nil, take_all, drop_all, take_rest}
use lib.Bits.{xor_zero_r}
use Rattle.aes_core.specs.Aes.{add}
use Rattle.krb_crypto.specs.CiphertextStealing.{padded, encrypt_last, encrypt_chain, decrypt_last, decrypt_chain, front_blocks, cts_encrypt, cts_decrypt}
use borrow.Rule.Slice.PartMut.{put_mid}
use Rattle.krb_crypto.proofs.Parts.{put_end}
use Rattle.std.proofs.lemmas.Bool.Decides.{nat_tests}

-- a text whose front of n blocks and one more block are done
front : (text block : List ℕ) (i : ℕ) → length block ≡ 16 → 16 * i + 16 ≤ length text → length (take (16 * i) text ++ block) ≡ 16 * (i + 1)
front text block i lb l =
    length-append (take (16 * i) text) block ∙ omega (arith, length-take-le (16 * i) text (omega arith))

pub encrypt_step : (e : List ℕ → List ℕ) (n i : ℕ) (before text block done : List ℕ) → i < n → 16 * i + 16 ≤ length text → length block ≡ 16
    → block ≡ e (add (take 16 (drop (16 * i) text)) before) → done ≡ take (16 * i) text ++ block ++ drop (16 * i + 16) text
    → take (16 * (i + 1)) done ++ encrypt_chain e (n - (i + 1)) block (drop (16 * (i + 1)) done) ≡ take (16 * i) text ++ encrypt_chain e (n - i) before (drop (16 * i) text)
unfolding encrypt_chain
encrypt_step e n i before text block done h l lb eb ed =
    let r : ℕ = n - (i + 1) in
    let more : suc r ≡ n - i = omega arith in
    let head : List ℕ = take (16 * i) text ++ block in
    let tail : List ℕ = drop (16 * i + 16) text in
    let lh : length head ≡ 16 * (i + 1) = front text block i lb l in
    let rest : tail ≡ drop 16 (drop (16 * i) text) = sym (drop-drop 16 (16 * i) text) in
    (λ t. take (16 * (i + 1)) (ed t) ++ encrypt_chain e r block (drop (16 * (i + 1)) (ed t)))
    ∙ (λ t. take_at head tail (16 * (i + 1)) lh t ++ encrypt_chain e r block (drop_at head tail (16 * (i + 1)) lh t))
    ∙ append_assoc (take (16 * i) text) block (encrypt_chain e r block tail)
    ∙ (λ t. take (16 * i) text ++ (eb t ++ encrypt_chain e r (eb t) (rest t)))
    ∙ (λ t. take (16 * i) text ++ encrypt_chain e (more t) before (drop (16 * i) text))

pub decrypt_step : (d : List ℕ → List ℕ) (n i : ℕ) (before text block next done : List ℕ) → i < n → 16 * i + 16 ≤ length text → length block ≡ 16
    → next ≡ take 16 (drop (16 * i) text) → block ≡ add (d next) before → done ≡ take (16 * i) text ++ block ++ drop (16 * i + 16) text
    → take (16 * (i + 1)) done ++ decrypt_chain d (n - (i + 1)) next (drop (16 * (i + 1)) done) ≡ take (16 * i) text ++ decrypt_chain d (n - i) before (drop (16 * i) text)
unfolding decrypt_chain
decrypt_step d n i before text block next done h l lb en eb ed =
    let r : ℕ = n - (i + 1) in
    let more : suc r ≡ n - i = omega arith in
    let head : List ℕ = take (16 * i) text ++ block in
    let tail : List ℕ = drop (16 * i + 16) text in
    let lh : length head ≡ 16 * (i + 1) = front text block i lb l in
    let rest : tail ≡ drop 16 (drop (16 * i) text) = sym (drop-drop 16 (16 * i) text) in
    (λ t. take (16 * (i + 1)) (ed t) ++ decrypt_chain d r next (drop (16 * (i + 1)) (ed t)))
    ∙ (λ t. take_at head tail (16 * (i + 1)) lh t ++ decrypt_chain d r next (drop_at head tail (16 * (i + 1)) lh t))
    ∙ append_assoc (take (16 * i) text) block (decrypt_chain d r next tail)
    ∙ (λ t. take (16 * i) text ++ (eb t ++ decrypt_chain d r next (rest t)))
    ∙ (λ t. take (16 * i) text ++ (add (d (en t)) before ++ decrypt_chain d r (en t) (drop 16 (drop (16 * i) text))))
    ∙ (λ t. take (16 * i) text ++ decrypt_chain d (more t) before (drop (16 * i) text))

-- zeros add nothing
pub add_zeros : (a : List ℕ) (n : ℕ) → length a ≡ n → add a (replicate n 0) ≡ a
add_zeros [] n l = refl
add_zeros (x ∷ a) zero l = absurd (omega arith)
add_zeros (x ∷ a) (suc n) l = λ i. xor_zero_r x i ∷ add_zeros a n (omega arith) i

pub encrypt_last_is : (e : List ℕ → List ℕ) (before p stolen block rest : List ℕ) → 16 ≤ length p → stolen ≡ e (add (take 16 p) before) → block ≡ e (add (padded (drop 16 p)) stolen)
    → rest ≡ take (length p - 16) stolen → block ++ rest ≡ encrypt_last e before p
unfolding encrypt_last
encrypt_last_is e before p stolen block rest l es eb er =
    let len : length p - 16 ≡ length (drop 16 p) = sym (length-drop 16 p) in
    (λ i. eb i ++ er i)
    ∙ (λ i. e (add (padded (drop 16 p)) (es i)) ++ take (len i) (es i))

-- a sum with zeros behind the second list, cut to it
take_add : (y t z : List ℕ) → length t ≤ length y → take (length t) (add y (t ++ z)) ≡ add y t
take_add [] [] z l = refl
take_add [] (x ∷ t) z l = absurd (omega arith)
take_add (y ∷ ys) [] z l = refl
take_add (y ∷ ys) (x ∷ t) z l = λ i. bit_xor y x ∷ take_add ys t z (omega arith) i

pub decrypt_last_is : (d : List ℕ → List ℕ) (before q y stolen block rest : List ℕ) → 16 ≤ length q → length q ≤ 32 → length y ≡ 16 → y ≡ d (take 16 q)
    → stolen ≡ d (drop 16 q ++ drop (length q - 16) y) → block ≡ add stolen before → rest ≡ take (length q - 16) (add y (padded (drop 16 q)))
    → block ++ rest ≡ decrypt_last d before q
unfolding decrypt_last
decrypt_last_is d before q y stolen block rest l h ly ey es eb er =
    let t : List ℕ = drop 16 q in
    let len : length q - 16 ≡ length t = sym (length-drop 16 q) in
    (λ i. eb i ++ er i)
    ∙ (λ i. add (es i) before ++ take (len i) (add y (padded t)))
    ∙ (λ i. add (d (t ++ drop (len i) y)) before ++ take_add y t (replicate (16 - length t) 0) (omega arith) i)
    ∙ (λ i. add (d (t ++ drop (length t) (ey i))) before ++ add (ey i) t)

pub encrypt_end : (e : List ℕ → List ℕ) (n i : ℕ) (before text last whole : List ℕ) → i ≡ n → 16 * n ≤ length text
    → last ≡ encrypt_last e before (take (length text - 16 * n) (drop (16 * n) text))
    → take (16 * i) text ++ encrypt_chain e (n - i) before (drop (16 * i) text) ≡ whole → put_mid (16 * n) (length text - 16 * n) text last ≡ whole
unfolding encrypt_chain
encrypt_end e n i before text last whole at l el held =
    let none : 0 ≡ n - i = omega arith in
    let here : n ≡ i = sym at in
    put_end text last (16 * n) l
    ∙ (λ t. take (16 * n) text ++ (el ∙ ap (encrypt_last e before) (take_rest text (16 * n))) t)
    ∙ (λ t. take (16 * here t) text ++ encrypt_chain e (none t) before (drop (16 * here t) text))
    ∙ held

pub decrypt_end : (d : List ℕ → List ℕ) (n i : ℕ) (before text last whole : List ℕ) → i ≡ n → 16 * n ≤ length text
    → last ≡ decrypt_last d before (take (length text - 16 * n) (drop (16 * n) text))
    → take (16 * i) text ++ decrypt_chain d (n - i) before (drop (16 * i) text) ≡ whole → put_mid (16 * n) (length text - 16 * n) text last ≡ whole
unfolding decrypt_chain
decrypt_end d n i before text last whole at l el held =
    let none : 0 ≡ n - i = omega arith in
    let here : n ≡ i = sym at in
    put_end text last (16 * n) l
    ∙ (λ t. take (16 * n) text ++ (el ∙ ap (decrypt_last d before) (take_rest text (16 * n))) t)
    ∙ (λ t. take (16 * here t) text ++ decrypt_chain d (none t) before (drop (16 * here t) text))
    ∙ held

-- a text of one block
pub encrypt_one : (e : List ℕ → List ℕ) (p block done : List ℕ) → length p ≡ 16 → block ≡ e (add (take 16 p) (replicate 16 0)) → done ≡ block ++ drop 16 p
    → done ≡ cts_encrypt e p
unfolding cts_encrypt
encrypt_one e p block done l eb ed =
    let one : nat_eq (length p) 16 ≡ true = ap (λ n. nat_eq n 16) l in
    let whole : take 16 p ≡ p = take_all 16 p (omega arith) in
    rw one (ed ∙ ap (λ s. block ++ s) (drop_all 16 p (omega arith)) ∙ append-nil block ∙ eb ∙ ap e ((λ i. add (whole i) (replicate 16 0)) ∙ add_zeros p 16 l))

pub decrypt_one : (d : List ℕ → List ℕ) (q next block done : List ℕ) → length q ≡ 16 → length block ≡ 16 → next ≡ take 16 q → block ≡ add (d next) (replicate 16 0)
    → length (d next) ≡ 16 → done ≡ block ++ drop 16 q → done ≡ cts_decrypt d q
unfolding cts_decrypt
decrypt_one d q next block done l lb en eb ld ed =
    let one : nat_eq (length q) 16 ≡ true = ap (λ n. nat_eq n 16) l in
    let whole : next ≡ q = en ∙ take_all 16 q (omega arith) in
    rw one (ed ∙ ap (λ s. block ++ s) (drop_all 16 q (omega arith)) ∙ append-nil block ∙ eb ∙ add_zeros (d next) 16 ld ∙ ap d whole)

-- a longer text
pub encrypt_more : (e : List ℕ → List ℕ) (p done : List ℕ) → length p ≢ 16 → done ≡ encrypt_chain e (front_blocks (length p)) (replicate 16 0) p → done ≡ cts_encrypt e p
unfolding cts_encrypt
encrypt_more e p done l ed =
    let more : nat_eq (length p) 16 ≡ false = grind (arith, nat_tests) in
    rw more ed

pub decrypt_more : (d : List ℕ → List ℕ) (q done : List ℕ) → length q ≢ 16 → done ≡ decrypt_chain d (front_blocks (length q)) (replicate 16 0) q → done ≡ cts_decrypt d q
unfolding cts_decrypt
decrypt_more d q done l ed =
    let more : nat_eq (length q) 16 ≡ false = grind (arith, nat_tests) in
    rw more ed

pub encrypt_start : (e : List ℕ → List ℕ) (n : ℕ) (before p : List ℕ) → encrypt_chain e (n - 0) before p ≡ encrypt_chain e n before p
encrypt_start e n before p =
    let all : n - 0 ≡ n = omega arith in
    λ i. encrypt_chain e (all i) before p

pub decrypt_start : (d : List ℕ → List ℕ) (n : ℕ) (before q : List ℕ) → decrypt_chain d (n - 0) before q ≡ decrypt_chain d n before q
decrypt_start d n before q =
    let all : n - 0 ≡ n = omega arith in
    λ i. decrypt_chain d (all i) before q

-- Encryption undoes decryption, at every length.
use Rattle.std.proofs.Common.{◌≡◌, ℕ, zero, suc, ◌+◌, ◌-◌, ◌*◌, ◌≤◌, List, [], ◌∷◌, ◌++◌, length, take, drop, replicate, refl, ap, sym, ◌∙◌, arith, bit_xor, inl, inr, nat_eq, true, ◌≢◌}
use Rattle.std.proofs.lemmas.List.{take_at, drop_at, take-append-drop, length-drop, length-append}
use Rattle.std.proofs.lemmas.Bool.Decides.{eqb_tells}
use Rattle.std.specs.Simd.Lanes.{Each1}
use lib.Bits.{xor_assoc, xor_zero_r, xor_self}
use Rattle.aes_core.specs.Aes.{add}
use Rattle.aes_core.proofs.Inverse.{IsBlock-add, add_twice, bytes-append, bytes-add}
use Rattle.aes_core.specs.Inverses.{IsByte, IsBlock, Undoes}
use Rattle.krb_crypto.specs.CiphertextStealing.{padded, encrypt_last, encrypt_chain, front_blocks, cts_encrypt, decrypt_last, decrypt_chain, cts_decrypt}
use Rattle.krb_crypto.proofs.CtsInverse.{bytes-drop, bytes-zeros, IsBlock-take}

length-add : (y t : List ℕ) → length t ≤ length y → length (add y t) ≡ length t
length-add [] [] h = refl
length-add [] (x ∷ t) h = absurd (omega arith)
length-add (y ∷ ys) [] h = refl
length-add (y ∷ ys) (x ∷ t) h = ap suc (length-add ys t (omega arith))

zeros_add : (y : List ℕ) (n : ℕ) → length y ≡ n → add (replicate n 0) y ≡ y
zeros_add [] zero l = refl
zeros_add [] (suc n) l = absurd (omega arith)
zeros_add (y ∷ ys) zero l = absurd (omega arith)
zeros_add (y ∷ ys) (suc n) l = λ i. y ∷ zeros_add ys n (omega arith) i

-- the padded text and the stolen block add to what was decrypted
stolen : (y t : List ℕ) (n : ℕ) → length y ≡ length t + n → add (add y t ++ replicate n 0) (t ++ drop (length t) y) ≡ y
stolen [] [] zero l = refl
stolen (y ∷ ys) [] zero l = absurd (omega arith)
stolen [] [] (suc n) l = absurd (omega arith)
stolen (y ∷ ys) [] (suc n) l = λ i. y ∷ zeros_add ys n (omega arith) i
stolen [] (x ∷ t) n l = absurd (omega arith)
stolen (y ∷ ys) (x ∷ t) n l = λ i. (xor_assoc y x x ∙ ap (bit_xor y) (xor_self x) ∙ xor_zero_r y) i ∷ stolen ys t n (omega arith) i

redo_last : (e d : List ℕ → List ℕ) (before q : List ℕ) → Undoes d e → IsBlock before → Each1 IsByte q → 16 ≤ length q → length q ≤ 32
    → encrypt_last e before (decrypt_last d before q) ≡ q
unfolding decrypt_last encrypt_last
redo_last e d before q undoes hb hq low high =
    let f : List ℕ = take 16 q in
    let t : List ℕ = drop 16 q in
    let len : length t ≡ length q - 16 = length-drop 16 q in
    let hf : IsBlock f = IsBlock-take q low hq in
    let ht : Each1 IsByte t = bytes-drop 16 q hq in
    let y : List ℕ = d f in
    let hy : IsBlock y = undoes.block f hf in
    let ly : length y ≡ 16 = hy.0 in
    let whole : length y ≡ length t + (16 - length t) = omega arith in
    let c : List ℕ = t ++ drop (length t) y in
    let lc : length c ≡ 16 = length-append t (drop (length t) y) ∙ omega (arith, length-drop (length t) y) in
    let hc : IsBlock c = (lc, bytes-append t (drop (length t) y) ht (bytes-drop (length t) y hy.1)) in
    let hdc : IsBlock (d c) = undoes.block c hc in
    let a : List ℕ = add (d c) before in
    let ha : IsBlock a = IsBlock-add (d c) before hdc hb in
    let b : List ℕ = add y t in
    let lb : length b ≡ length t = length-add y t (omega arith) in
    let front : take 16 (a ++ b) ≡ a = take_at a b 16 ha.0 in
    let back : drop 16 (a ++ b) ≡ b = drop_at a b 16 ha.0 in
    let first : e (add (take 16 (a ++ b)) before) ≡ c =
    (λ i. e (add (front i) before)) ∙ ap e (add_twice (d c) before (hdc.0 ∙ sym hb.0)) ∙ undoes.undo c hc in
    let whole_again : add (padded b) c ≡ y = (λ i. add (b ++ replicate (16 - lb i) 0) c) ∙ stolen y t (16 - length t) whole in
    (λ i. e (add (padded (back i)) (first i)) ++ take (length (back i)) (first i))
    ∙ (λ i. e (whole_again i) ++ take (lb i) c)
    ∙ (λ i. undoes.undo f hf i ++ take_at t (drop (length t) y) (length t) refl i)
    ∙ take-append-drop 16 q

pub redo_chain : (e d : List ℕ → List ℕ) (n : ℕ) (before q : List ℕ) → Undoes d e → IsBlock before → Each1 IsByte q → 16 * n + 16 ≤ length q → length q ≤ 16 * n + 32
    → encrypt_chain e n before (decrypt_chain d n before q) ≡ q
unfolding decrypt_chain encrypt_chain
redo_chain e d zero before q undoes hb hq low high = redo_last e d before q undoes hb hq (omega arith) (omega arith)
redo_chain e d (suc n) before q undoes hb hq low high =
    let f : List ℕ = take 16 q in
    let rest : List ℕ = drop 16 q in
    let len : length rest ≡ length q - 16 = length-drop 16 q in
    let hf : IsBlock f = IsBlock-take q (omega arith) hq in
    let hd : IsBlock (d f) = undoes.block f hf in
    let a : List ℕ = add (d f) before in
    let ha : IsBlock a = IsBlock-add (d f) before hd hb in
    let t : List ℕ = decrypt_chain d n f rest in
    let front : take 16 (a ++ t) ≡ a = take_at a t 16 ha.0 in
    let back : drop 16 (a ++ t) ≡ t = drop_at a t 16 ha.0 in
    let first : e (add (take 16 (a ++ t)) before) ≡ f =
    (λ i. e (add (front i) before)) ∙ ap e (add_twice (d f) before (hd.0 ∙ sym hb.0)) ∙ undoes.undo f hf in
    (λ i. first i ++ encrypt_chain e n (first i) (back i))
    ∙ ap (λ s. f ++ s) (redo_chain e d n f rest undoes hf (bytes-drop 16 q hq) (omega arith) (omega arith))
    ∙ take-append-drop 16 q

length_last : (d : List ℕ → List ℕ) (before q : List ℕ) → ((b : List ℕ) → IsBlock b → IsBlock (d b)) → IsBlock before → Each1 IsByte q → 16 ≤ length q → length q ≤ 32
    → length (decrypt_last d before q) ≡ length q
unfolding decrypt_last
length_last d before q block hb hq low high =
    let f : List ℕ = take 16 q in
    let t : List ℕ = drop 16 q in
    let len : length t ≡ length q - 16 = length-drop 16 q in
    let hy : IsBlock (d f) = block f (IsBlock-take q low hq) in
    let ly : length (d f) ≡ 16 = hy.0 in
    let c : List ℕ = t ++ drop (length t) (d f) in
    let lc : length c ≡ 16 = length-append t (drop (length t) (d f)) ∙ omega (arith, length-drop (length t) (d f)) in
    let hc : IsBlock c = (lc, bytes-append t (drop (length t) (d f)) (bytes-drop 16 q hq) (bytes-drop (length t) (d f) hy.1)) in
    let la : length (add (d c) before) ≡ 16 = (IsBlock-add (d c) before (block c hc) hb).0 in
    let lb : length (add (d f) t) ≡ length t = length-add (d f) t (omega arith) in
    length-append (add (d c) before) (add (d f) t) ∙ omega arith

length_chain : (d : List ℕ → List ℕ) (n : ℕ) (before q : List ℕ) → ((b : List ℕ) → IsBlock b → IsBlock (d b)) → IsBlock before → Each1 IsByte q → 16 * n + 16 ≤ length q → length q ≤ 16 * n + 32
    → length (decrypt_chain d n before q) ≡ length q
unfolding decrypt_chain
length_chain d zero before q block hb hq low high = length_last d before q block hb hq (omega arith) (omega arith)
length_chain d (suc n) before q block hb hq low high =
    let len : length (drop 16 q) ≡ length q - 16 = length-drop 16 q in
    let hf : IsBlock (take 16 q) = IsBlock-take q (omega arith) hq in
    let la : length (add (d (take 16 q)) before) ≡ 16 = (IsBlock-add (d (take 16 q)) before (block (take 16 q) hf) hb).0 in
    let rest : length (decrypt_chain d n (take 16 q) (drop 16 q)) ≡ length (drop 16 q) =
    length_chain d n (take 16 q) (drop 16 q) block hf (bytes-drop 16 q hq) (omega arith) (omega arith) in
    length-append (add (d (take 16 q)) before) (decrypt_chain d n (take 16 q) (drop 16 q)) ∙ omega arith

pub cts_redo : (e d : List ℕ → List ℕ) (q : List ℕ) → Undoes d e → Each1 IsByte q → 16 ≤ length q → cts_encrypt e (cts_decrypt d q) ≡ q
unfolding cts_decrypt cts_encrypt
cts_redo e d q undoes hq low = elim (eqb_tells (length q) 16) [
  | inl same ↦
      let here : IsBlock q = (same.1, hq) in
      let one : nat_eq (length (d q)) 16 ≡ true = ap (λ n. nat_eq n 16) (undoes.block q here).0 in
      rw same.0 (rw one (undoes.undo q here))
  | inr other ↦
      let zeros : IsBlock (replicate 16 0) = (refl, bytes-zeros 16) in
      let n : ℕ = front_blocks (length q) in
      let more : length q ≢ 16 = other.1 in
      let len : length (decrypt_chain d n (replicate 16 0) q) ≡ length q = length_chain d n (replicate 16 0) q undoes.block zeros hq (omega arith) (omega arith) in
      rw other.0 (rw (len, other.0) (redo_chain e d n (replicate 16 0) q undoes zeros hq (omega arith) (omega arith)))
]

-- what is decrypted is bytes
bytes_last : (d : List ℕ → List ℕ) (before q : List ℕ) → ((b : List ℕ) → IsBlock b → IsBlock (d b)) → IsBlock before → Each1 IsByte q → 16 ≤ length q → length q ≤ 32
    → Each1 IsByte (decrypt_last d before q)
unfolding decrypt_last
bytes_last d before q block hb hq low high =
    let f : List ℕ = take 16 q in
    let t : List ℕ = drop 16 q in
    let len : length t ≡ length q - 16 = length-drop 16 q in
    let hy : IsBlock (d f) = block f (IsBlock-take q low hq) in
    let ly : length (d f) ≡ 16 = hy.0 in
    let c : List ℕ = t ++ drop (length t) (d f) in
    let lc : length c ≡ 16 = length-append t (drop (length t) (d f)) ∙ omega (arith, length-drop (length t) (d f)) in
    let hc : IsBlock c = (lc, bytes-append t (drop (length t) (d f)) (bytes-drop 16 q hq) (bytes-drop (length t) (d f) hy.1)) in
    bytes-append (add (d c) before) (add (d f) t) (IsBlock-add (d c) before (block c hc) hb).1 (bytes-add (d f) t hy.1 (bytes-drop 16 q hq))

bytes_chain : (d : List ℕ → List ℕ) (n : ℕ) (before q : List ℕ) → ((b : List ℕ) → IsBlock b → IsBlock (d b)) → IsBlock before → Each1 IsByte q → 16 * n + 16 ≤ length q → length q ≤ 16 * n + 32
    → Each1 IsByte (decrypt_chain d n before q)
unfolding decrypt_chain
bytes_chain d zero before q block hb hq low high = bytes_last d before q block hb hq (omega arith) (omega arith)
bytes_chain d (suc n) before q block hb hq low high =
    let len : length (drop 16 q) ≡ length q - 16 = length-drop 16 q in
    let hf : IsBlock (take 16 q) = IsBlock-take q (omega arith) hq in
    bytes-append (add (d (take 16 q)) before) (decrypt_chain d n (take 16 q) (drop 16 q)) (IsBlock-add (d (take 16 q)) before (block (take 16 q) hf) hb).1
    (bytes_chain d n (take 16 q) (drop 16 q) block hf (bytes-drop 16 q hq) (omega arith) (omega arith))

pub bytes_cts_decrypt : (e d : List ℕ → List ℕ) (q : List ℕ) → Undoes d e → Each1 IsByte q → 16 ≤ length q → Each1 IsByte (cts_decrypt d q)
unfolding cts_decrypt
bytes_cts_decrypt e d q undoes hq low = elim (eqb_tells (length q) 16) [
  | inl same ↦
      let here : IsBlock q = (same.1, hq) in
      rw same.0 (undoes.block q here).1
  | inr other ↦
      let zeros : IsBlock (replicate 16 0) = (refl, bytes-zeros 16) in
      let n : ℕ = front_blocks (length q) in
      let more : length q ≢ 16 = other.1 in
      rw other.0 (bytes_chain d n (replicate 16 0) q undoes.block zeros hq (omega arith) (omega arith))
]

pub length_cts_decrypt : (e d : List ℕ → List ℕ) (q : List ℕ) → Undoes d e → Each1 IsByte q → 16 ≤ length q → length (cts_decrypt d q) ≡ length q
unfolding cts_decrypt
length_cts_decrypt e d q undoes hq low = elim (eqb_tells (length q) 16) [
  | inl same ↦
      let here : IsBlock q = (same.1, hq) in
      rw same.0 ((undoes.block q here).0 ∙ sym same.1)
  | inr other ↦
      let zeros : IsBlock (replicate 16 0) = (refl, bytes-zeros 16) in
      let n : ℕ = front_blocks (length q) in
      let more : length q ≢ 16 = other.1 in
      rw other.0 (length_chain d n (replicate 16 0) q undoes.block zeros hq (omega arith) (omega arith))
]

-- Decryption undoes encryption, at every length.
use Rattle.std.proofs.Common.{◌≡◌, ℕ, zero, suc, ◌+◌, ◌-◌, ◌*◌, ◌≤◌, List, [], ◌∷◌, ◌++◌, length, take, drop, replicate, refl, ap, sym, ◌∙◌, arith, bit_xor, lit<, inl, inr, nat_eq, true, ◌≢◌}
use Rattle.std.proofs.lemmas.List.{take_at, drop_at, take-append-drop, length-drop, length-append, length-take-le, length-replicate}
use Rattle.std.proofs.lemmas.Bool.Decides.{eqb_tells}
use Rattle.std.specs.Simd.Lanes.{Each1}
use lib.Bits.{xor_assoc, xor_zero_r, xor_self}
use Rattle.aes_core.specs.Aes.{add}
use Rattle.aes_core.proofs.Inverse.{IsBlock-add, add_twice, bytes-append}
use Rattle.aes_core.specs.Inverses.{IsByte, IsBlock, Undoes}
use Rattle.krb_crypto.specs.CiphertextStealing.{padded, encrypt_last, encrypt_chain, front_blocks, cts_encrypt, decrypt_last, decrypt_chain, cts_decrypt}

pub bytes-take : (n : ℕ) (s : List ℕ) → Each1 IsByte s → Each1 IsByte (take n s)
bytes-take zero s h = tt
bytes-take (suc n) [] h = tt
bytes-take (suc n) (x ∷ s) h = (h.0, bytes-take n s h.1)

pub bytes-drop : (n : ℕ) (s : List ℕ) → Each1 IsByte s → Each1 IsByte (drop n s)
bytes-drop zero s h = h
bytes-drop (suc n) [] h = tt
bytes-drop (suc n) (x ∷ s) h = bytes-drop n s h.1

pub bytes-zeros : (n : ℕ) → Each1 IsByte (replicate n 0)
bytes-zeros zero = tt
bytes-zeros (suc n) = (lit< tt, bytes-zeros n)

pub IsBlock-take : (p : List ℕ) → 16 ≤ length p → Each1 IsByte p → IsBlock (take 16 p)
IsBlock-take p l h = (length-take-le 16 p l, bytes-take 16 p h)

IsBlock-padded : (p : List ℕ) → length p ≤ 16 → Each1 IsByte p → IsBlock (padded p)
IsBlock-padded p l h =
    (length-append p (replicate (16 - length p) 0) ∙ ap (λ n. length p + n) (length-replicate (16 - length p) 0) ∙ omega arith, bytes-append p (replicate (16 - length p) 0) h (bytes-zeros (16 - length p)))

-- past p, the sum of p with zeros and c is c
past_padded : (p c : List ℕ) (n : ℕ) → length c ≡ length p + n → drop (length p) (add (p ++ replicate n 0) c) ≡ drop (length p) c
past_padded [] [] zero l = refl
past_padded [] (y ∷ c) zero l = absurd (omega arith)
past_padded [] [] (suc n) l = absurd (omega arith)
past_padded [] (y ∷ c) (suc n) l = λ i. y ∷ past_padded [] c n (omega arith) i
past_padded (x ∷ p) [] n l = absurd (omega arith)
past_padded (x ∷ p) (y ∷ c) n l = past_padded p c n (omega arith)

-- and before its end, adding c once more gives p
before_padded : (p c : List ℕ) (n : ℕ) → length c ≡ length p + n → add (add (p ++ replicate n 0) c) (take (length p) c) ≡ p
before_padded [] [] zero l = refl
before_padded [] (y ∷ c) zero l = absurd (omega arith)
before_padded [] [] (suc n) l = absurd (omega arith)
before_padded [] (y ∷ c) (suc n) l = refl
before_padded (x ∷ p) [] n l = absurd (omega arith)
before_padded (x ∷ p) (y ∷ c) n l = λ i. (xor_assoc x y y ∙ ap (bit_xor x) (xor_self y) ∙ xor_zero_r x) i ∷ before_padded p c n (omega arith) i

undo_last : (e d : List ℕ → List ℕ) (before p : List ℕ) → Undoes e d → IsBlock before → Each1 IsByte p → 16 ≤ length p → length p ≤ 32
    → decrypt_last d before (encrypt_last e before p) ≡ p
unfolding decrypt_last encrypt_last
undo_last e d before p undoes hb hp low high =
    let a : List ℕ = take 16 p in
    let b : List ℕ = drop 16 p in
    let len : length b ≡ length p - 16 = length-drop 16 p in
    let ha : IsBlock a = IsBlock-take p low hp in
    let sum : IsBlock (add a before) = IsBlock-add a before ha hb in
    let c : List ℕ = e (add a before) in
    let hc : IsBlock c = undoes.block (add a before) sum in
    let hpad : IsBlock (padded b) = IsBlock-padded b (omega arith) (bytes-drop 16 p hp) in
    let y : List ℕ = add (padded b) c in
    let hy : IsBlock y = IsBlock-add (padded b) c hpad hc in
    let f : List ℕ = e y in
    let t : List ℕ = take (length b) c in
    let hf : length f ≡ 16 = (undoes.block y hy).0 in
    let lt : length t ≡ length b = length-take-le (length b) c (omega arith) in
    let whole : length c ≡ length b + (16 - length b) = omega arith in
    let front : take 16 (f ++ t) ≡ f = take_at f t 16 hf in
    let back : drop 16 (f ++ t) ≡ t = drop_at f t 16 hf in
    let last : d (take 16 (f ++ t)) ≡ y = ap d front ∙ undoes.undo y hy in
    let joined : t ++ drop (length t) y ≡ c =
    (λ i. t ++ drop (lt i) y) ∙ ap (λ s. t ++ s) (past_padded b c (16 - length b) whole) ∙ take-append-drop (length b) c in
    (λ i. add (d (back i ++ drop (length (back i)) (last i))) before ++ add (last i) (back i))
    ∙ (λ i. add (d (joined i)) before ++ before_padded b c (16 - length b) whole i)
    ∙ (λ i. add (undoes.undo (add a before) sum i) before ++ b)
    ∙ (λ i. add_twice a before (ha.0 ∙ sym hb.0) i ++ b)
    ∙ take-append-drop 16 p

pub undo_chain : (e d : List ℕ → List ℕ) (n : ℕ) (before p : List ℕ) → Undoes e d → IsBlock before → Each1 IsByte p → 16 * n + 16 ≤ length p → length p ≤ 16 * n + 32
    → decrypt_chain d n before (encrypt_chain e n before p) ≡ p
unfolding decrypt_chain encrypt_chain
undo_chain e d zero before p undoes hb hp low high = undo_last e d before p undoes hb hp (omega arith) (omega arith)
undo_chain e d (suc n) before p undoes hb hp low high =
    let a : List ℕ = take 16 p in
    let rest : List ℕ = drop 16 p in
    let len : length rest ≡ length p - 16 = length-drop 16 p in
    let ha : IsBlock a = IsBlock-take p (omega arith) hp in
    let sum : IsBlock (add a before) = IsBlock-add a before ha hb in
    let c : List ℕ = e (add a before) in
    let hc : IsBlock c = undoes.block (add a before) sum in
    let t : List ℕ = encrypt_chain e n c rest in
    let front : take 16 (c ++ t) ≡ c = take_at c t 16 hc.0 in
    let back : drop 16 (c ++ t) ≡ t = drop_at c t 16 hc.0 in
    (λ i. add (d (front i)) before ++ decrypt_chain d n (front i) (back i))
    ∙ (λ i. add (undoes.undo (add a before) sum i) before ++ undo_chain e d n c rest undoes hc (bytes-drop 16 p hp) (omega arith) (omega arith) i)
    ∙ (λ i. add_twice a before (ha.0 ∙ sym hb.0) i ++ rest)
    ∙ take-append-drop 16 p

length_last : (e : List ℕ → List ℕ) (before p : List ℕ) → ((b : List ℕ) → IsBlock b → IsBlock (e b)) → IsBlock before → Each1 IsByte p → 16 ≤ length p → length p ≤ 32
    → length (encrypt_last e before p) ≡ length p
unfolding encrypt_last
length_last e before p block hb hp low high =
    let b : List ℕ = drop 16 p in
    let len : length b ≡ length p - 16 = length-drop 16 p in
    let sum : IsBlock (add (take 16 p) before) = IsBlock-add (take 16 p) before (IsBlock-take p low hp) hb in
    let c : List ℕ = e (add (take 16 p) before) in
    let hc : IsBlock c = block (add (take 16 p) before) sum in
    let hpad : IsBlock (padded b) = IsBlock-padded b (omega arith) (bytes-drop 16 p hp) in
    let hf : IsBlock (e (add (padded b) c)) = block (add (padded b) c) (IsBlock-add (padded b) c hpad hc) in
    let lt : length (take (length b) c) ≡ length b = length-take-le (length b) c (omega arith) in
    length-append (e (add (padded b) c)) (take (length b) c) ∙ omega arith

pub length_chain : (e : List ℕ → List ℕ) (n : ℕ) (before p : List ℕ) → ((b : List ℕ) → IsBlock b → IsBlock (e b)) → IsBlock before → Each1 IsByte p → 16 * n + 16 ≤ length p → length p ≤ 16 * n + 32
    → length (encrypt_chain e n before p) ≡ length p
unfolding encrypt_chain
length_chain e zero before p block hb hp low high = length_last e before p block hb hp (omega arith) (omega arith)
length_chain e (suc n) before p block hb hp low high =
    let len : length (drop 16 p) ≡ length p - 16 = length-drop 16 p in
    let sum : IsBlock (add (take 16 p) before) = IsBlock-add (take 16 p) before (IsBlock-take p (omega arith) hp) hb in
    let hc : IsBlock (e (add (take 16 p) before)) = block (add (take 16 p) before) sum in
    let rest : length (encrypt_chain e n (e (add (take 16 p) before)) (drop 16 p)) ≡ length (drop 16 p) =
    length_chain e n (e (add (take 16 p) before)) (drop 16 p) block hc (bytes-drop 16 p hp) (omega arith) (omega arith) in
    let hl : length (e (add (take 16 p) before)) ≡ 16 = hc.0 in
    length-append (e (add (take 16 p) before)) (encrypt_chain e n (e (add (take 16 p) before)) (drop 16 p)) ∙ omega arith

-- the law, at every length from 16
pub cts_undo : (e d : List ℕ → List ℕ) (p : List ℕ) → Undoes e d → Each1 IsByte p → 16 ≤ length p → cts_decrypt d (cts_encrypt e p) ≡ p
unfolding cts_decrypt cts_encrypt
cts_undo e d p undoes hp low = elim (eqb_tells (length p) 16) [
  | inl same ↦
      let here : IsBlock p = (same.1, hp) in
      let one : nat_eq (length (e p)) 16 ≡ true = ap (λ n. nat_eq n 16) (undoes.block p here).0 in
      rw same.0 (rw one (undoes.undo p here))
  | inr other ↦
      let zeros : IsBlock (replicate 16 0) = (refl, bytes-zeros 16) in
      let n : ℕ = front_blocks (length p) in
      let more : length p ≢ 16 = other.1 in
      let len : length (encrypt_chain e n (replicate 16 0) p) ≡ length p = length_chain e n (replicate 16 0) p undoes.block zeros hp (omega arith) (omega arith) in
      rw other.0 (rw (len, other.0) (undo_chain e d n (replicate 16 0) p undoes zeros hp (omega arith) (omega arith)))
]

-- the length stays
pub length_cts : (e d : List ℕ → List ℕ) (p : List ℕ) → Undoes e d → Each1 IsByte p → 16 ≤ length p → length (cts_encrypt e p) ≡ length p
unfolding cts_encrypt
length_cts e d p undoes hp low = elim (eqb_tells (length p) 16) [
  | inl same ↦
      let here : IsBlock p = (same.1, hp) in
      rw same.0 ((undoes.block p here).0 ∙ sym same.1)
  | inr other ↦
      let zeros : IsBlock (replicate 16 0) = (refl, bytes-zeros 16) in
      let n : ℕ = front_blocks (length p) in
      let more : length p ≢ 16 = other.1 in
      rw other.0 (length_chain e n (replicate 16 0) p undoes.block zeros hp (omega arith) (omega arith))
]

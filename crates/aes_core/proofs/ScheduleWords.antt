-- The words of a key expansion are four bytes each, so that the round keys are blocks.
use Rattle.std.proofs.Common.{◌≡◌, ℕ, zero, suc, ◌+◌, ◌-◌, ◌*◌, ◌/◌, ◌%◌, ◌<◌, ◌≤◌, ◌⊎◌, inl, inr, List, [], ◌∷◌, ◌++◌, map, length, take, drop, get_or, refl, sym, ◌∙◌, arith, lit<, nat_eq, nat_lt, true, false, ◌&&◌, cond, Bool, subst}
use Rattle.std.proofs.lemmas.List.{length-append, length-map, length-take-le, length-drop}
use Rattle.std.proofs.lemmas.List.FromFn.{length-map-range_with_len}
use Rattle.std.proofs.lemmas.Simd.{length-zip2}
use Rattle.std.specs.List.{range_with_len}
use borrow.Author.Tests.{ltb-true}
use Rattle.std.specs.Simd.Lanes.{Each1}
use Rattle.aes_core.specs.Field.{product, remainder, times, sbox}
use Rattle.aes_core.specs.Aes.{add}
use Rattle.aes_core.specs.Cipher.{round_count}
use Rattle.aes_core.specs.KeyExpansion.{rot_word, power_of_x, round_constant, word_mask, expanded, key_expansion, round_key}
use Rattle.aes_core.specs.Inverses.{AreBytes, IsBlock}
use Rattle.aes_core.proofs.Inverse.{at_each, byte_in, bytes-add, bytes-append, bytes-sbox, AreKeys}

-- four bytes
abbrev pub IsWord : List ℕ → Type 0
IsWord w = (length w ≡ 4) × AreBytes w

bytes-take : (n : ℕ) (s : List ℕ) → AreBytes s → AreBytes (take n s)
bytes-take zero s h = tt
bytes-take (suc n) [] h = tt
bytes-take (suc n) (x ∷ s) h = (h.0, bytes-take n s h.1)

bytes-drop : (n : ℕ) (s : List ℕ) → AreBytes s → AreBytes (drop n s)
bytes-drop zero s h = h
bytes-drop (suc n) [] h = tt
bytes-drop (suc n) (x ∷ s) h = bytes-drop n s h.1

IsWord-add : (v w : List ℕ) → IsWord v → IsWord w → IsWord (add v w)
IsWord-add v w hv hw = (length-zip2 _ v w (hv.0 ∙ sym hw.0) ∙ hv.0, bytes-add v w hv.1 hw.1)

IsWord-sbox : (w : List ℕ) → IsWord w → IsWord (map sbox w)
IsWord-sbox w h = (length-map w sbox ∙ h.0, bytes-sbox w h.1)

IsWord-rot : (w : List ℕ) → IsWord w → IsWord (rot_word w)
IsWord-rot w h = (refl, (byte_in w 1 h.1, (byte_in w 2 h.1, (byte_in w 3 h.1, (byte_in w 0 h.1, tt)))))

get_or-each : (ws : List (List ℕ)) (k : ℕ) → Each1 IsWord ws → k < length ws → IsWord (get_or ws k [])
get_or-each [] k h l = absurd (omega arith)
get_or-each (w ∷ ws) zero h l = h.0
get_or-each (w ∷ ws) (suc k) h l = get_or-each ws k h.1 (omega arith)

each-push : (ws : List (List ℕ)) (w : List ℕ) → Each1 IsWord ws → IsWord w → Each1 IsWord (ws ++ w ∷ [])
each-push [] w h hw = (hw, tt)
each-push (v ∷ ws) w h hw = (h.0, each-push ws w h.1 hw)

constant_bytes : map (λ n. nat_lt (power_of_x n) 256) (range_with_len 0 10) ≡ map (λ n. true) (range_with_len 0 10)
unfolding product remainder times power_of_x
constant_bytes = refl

IsWord-constant : (n : ℕ) → n < 10 → IsWord (round_constant (n + 1))
IsWord-constant n h =
    let same : n + 1 - 1 ≡ n = omega arith in
    let small : power_of_x n < 256 = ltb-true (power_of_x n) 256 (at_each (λ k. nat_lt (power_of_x k) 256) (λ k. true) 10 constant_bytes n h) in
    let small_here : power_of_x (n + 1 - 1) < 256 = subst (λ k. power_of_x k < 256) (sym same) small in
    (refl, (small_here, (lit< tt, (lit< tt, (lit< tt, tt)))))

IsWord-if : (b : Bool) (v w : List ℕ) → IsWord v → IsWord w → IsWord (cond b v w)
IsWord-if true v w hv hw = hv
IsWord-if false v w hv hw = hw

IsWord-mask : (nk i : ℕ) (before : List ℕ) → (nk ≡ 4) ⊎ (nk ≡ 8) → nk ≤ i → i < 4 * (nk + 7) → IsWord before → IsWord (word_mask nk i before)
unfolding word_mask
IsWord-mask nk i before key low high h =
    let n : ℕ = i / nk - 1 in
    let place : n + 1 ≡ i / nk = elim key [ inl e ↦ (rw e (omega arith)) | inr e ↦ (rw e (omega arith)) ] in
    let within : n < 10 = elim key [ inl e ↦ (rw e (omega arith)) | inr e ↦ (rw e (omega arith)) ] in
    let constant : IsWord (round_constant (i / nk)) = subst (λ k. IsWord (round_constant k)) place (IsWord-constant n within) in
    IsWord-if (nat_eq (i % nk) 0) (add (map sbox (rot_word before)) (round_constant (i / nk))) (cond (nat_lt 6 nk && nat_eq (i % nk) 4) (map sbox before) before)
    (IsWord-add (map sbox (rot_word before)) (round_constant (i / nk)) (IsWord-sbox (rot_word before) (IsWord-rot before h)) constant)
    (IsWord-if (nat_lt 6 nk && nat_eq (i % nk) 4) (map sbox before) before (IsWord-sbox before h) h)

each-range : (f : ℕ → List ℕ) (from n : ℕ) → ((k : ℕ) → k < from + n → IsWord (f k)) → Each1 IsWord (map f (range_with_len from n))
each-range f from zero h = tt
each-range f from (suc n) h = (h from (omega arith), each-range f (from + 1) n (λ k l. h k (omega arith)))

IsWord-key : (key : List ℕ) (nk k : ℕ) → 4 * nk ≤ length key → AreBytes key → k < nk → IsWord (take 4 (drop (4 * k) key))
IsWord-key key nk k long h l =
    let rest : length (drop (4 * k) key) ≡ length key - 4 * k = length-drop (4 * k) key in
    (length-take-le 4 (drop (4 * k) key) (omega arith), bytes-take 4 (drop (4 * k) key) (bytes-drop (4 * k) key h))

-- nk + n words of four bytes
abbrev pub AreWords : ℕ → List (List ℕ) → Type 0
AreWords n w = (length w ≡ n) × Each1 IsWord w

words-expanded : (nk : ℕ) (key : List ℕ) (n : ℕ) → (nk ≡ 4) ⊎ (nk ≡ 8) → 4 * nk ≤ length key → AreBytes key → n ≤ 3 * nk + 28 → AreWords (nk + n) (expanded nk key n)
unfolding expanded
words-expanded nk key zero hk long h l =
    (length-map-range_with_len (λ i. take 4 (drop (4 * i) key)) 0 nk ∙ omega arith, each-range (λ i. take 4 (drop (4 * i) key)) 0 nk (λ k lk. IsWord-key key nk k long h (omega arith)))
words-expanded nk key (suc n) hk long h l =
    let w : List (List ℕ) = expanded nk key n in
    let before : AreWords (nk + n) w = words-expanded nk key n hk long h (omega arith) in
    let count : length w ≡ nk + n = before.0 in
    let pos : 0 < nk = elim hk [ inl e ↦ omega arith | inr e ↦ omega arith ] in
    let back : IsWord (get_or w n []) = get_or-each w n before.1 (omega arith) in
    let last : IsWord (get_or w (nk + n - 1) []) = get_or-each w (nk + n - 1) before.1 (omega arith) in
    let mask : IsWord (word_mask nk (nk + n) (get_or w (nk + n - 1) [])) = IsWord-mask nk (nk + n) (get_or w (nk + n - 1) []) hk (omega arith) (omega arith) last in
    let next : List ℕ = add (get_or w n []) (word_mask nk (nk + n) (get_or w (nk + n - 1) [])) in
    (length-append w (next ∷ []) ∙ omega arith, each-push w next before.1 (IsWord-add (get_or w n []) (word_mask nk (nk + n) (get_or w (nk + n - 1) [])) back mask))

IsBlock-words : (a b c d : List ℕ) → IsWord a → IsWord b → IsWord c → IsWord d → IsBlock (a ++ b ++ c ++ d)
IsBlock-words a b c d ha hb hc hd =
    let la : length a ≡ 4 = ha.0 in
    let lb : length b ≡ 4 = hb.0 in
    let lc : length c ≡ 4 = hc.0 in
    let ld : length d ≡ 4 = hd.0 in
    (length-append (a ++ b ++ c) d ∙ omega (arith, length-append (a ++ b) c, length-append a b), bytes-append (a ++ b ++ c) d (bytes-append (a ++ b) c (bytes-append a b ha.1 hb.1) hc.1) hd.1)

-- the round keys of a whole schedule are blocks
pub keys-expansion : (nk : ℕ) (key : List ℕ) → (nk ≡ 4) ⊎ (nk ≡ 8) → 4 * nk ≤ length key → AreBytes key → AreKeys (round_count (key_expansion nk key)) (round_key (key_expansion nk key))
keys-expansion nk key hk long h = λ r l.
    let w : List (List ℕ) = key_expansion nk key in
    let all : AreWords (nk + (3 * nk + 28)) w = words-expanded nk key (3 * nk + 28) hk long h (omega arith) in
    let count : length w ≡ nk + (3 * nk + 28) = all.0 in
    let one : (k : ℕ) → k < 4 * r + 4 → IsWord (get_or w k []) = λ k lk. get_or-each w k all.1 (omega arith) in
    IsBlock-words (get_or w (4 * r) []) (get_or w (4 * r + 1) []) (get_or w (4 * r + 2) []) (get_or w (4 * r + 3) []) (one (4 * r) (omega arith)) (one (4 * r + 1) (omega arith)) (one (4 * r + 2) (omega arith)) (one (4 * r + 3) (omega arith))

pub rounds-some : (nk : ℕ) (key : List ℕ) → (nk ≡ 4) ⊎ (nk ≡ 8) → 4 * nk ≤ length key → AreBytes key → 0 < round_count (key_expansion nk key)
rounds-some nk key hk long h =
    let count : length (key_expansion nk key) ≡ nk + (3 * nk + 28) = (words-expanded nk key (3 * nk + 28) hk long h (omega arith)).0 in
    omega arith

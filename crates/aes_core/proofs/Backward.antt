-- The keys of the inverse cipher, word by word.
use Rattle.std.proofs.Common.{◌≡◌, ℕ, zero, suc, ◌+◌, ◌-◌, ◌*◌, ◌/◌, ◌%◌, ◌<◌, ◌≤◌, List, ◌++◌, get_or, cond, ltb, true, false, refl, ap, sym, ◌∙◌, arith, inl, inr}
use Rattle.std.proofs.lemmas.Bool.{lt-ltb, le-ltb}
use Rattle.std.specs.Int.{w32, to_le_bytes}
use Rattle.std.proofs.lemmas.Bool.{cases_lt}
use Rattle.aes_core.specs.Aes.{times_column, inv_mix}
use Rattle.aes_core.specs.RoundKeys.{IsPaired, backward_key}
use Rattle.aes_core.specs.StateOf.{key_at}
use Rattle.aes_core.proofs.Rounds.{backward_inside, backward_last}

-- word k of the inverse cipher of n rounds
abbrev pub backward_word : ℕ → List ℕ → ℕ → List ℕ
backward_word n forward k =
    let w = to_le_bytes w32 (get_or forward (4 * (n - k / 4) + k % 4) 0) in
    cond (ltb k 4) w (cond (ltb k (4 * n)) (times_column inv_mix w) w)

backward_first : (n k : ℕ) (forward : List ℕ) → k < 4 → backward_word n forward k ≡ to_le_bytes w32 (get_or forward (4 * n + k) 0)
backward_first n k forward h =
    let e : ltb k 4 ≡ true = lt-ltb k 4 h in
    let at : 4 * (n - k / 4) + k % 4 ≡ 4 * n + k = omega arith in
    rw (e, at) refl

backward_end : (n k : ℕ) (forward : List ℕ) → 4 ≤ n → 4 * n ≤ k → k < 4 * n + 4 → backward_word n forward k ≡ to_le_bytes w32 (get_or forward (k - 4 * n) 0)
backward_end n k forward long low high =
    let e : ltb k 4 ≡ false = le-ltb k 4 (omega arith) in
    let g : ltb k (4 * n) ≡ false = le-ltb k (4 * n) low in
    let at : 4 * (n - k / 4) + k % 4 ≡ k - 4 * n = omega arith in
    rw (e, g, at) refl

backward_inner : (n r j : ℕ) (forward : List ℕ) → 0 < r → r < n → j < 4
    → backward_word n forward (4 * r + j) ≡ times_column inv_mix (to_le_bytes w32 (get_or forward (4 * (n - r) + j) 0))
backward_inner n r j forward pos l h =
    let e : ltb (4 * r + j) 4 ≡ false = le-ltb (4 * r + j) 4 (omega arith) in
    let g : ltb (4 * r + j) (4 * n) ≡ true = lt-ltb (4 * r + j) (4 * n) (omega arith) in
    let at : 4 * (n - (4 * r + j) / 4) + (4 * r + j) % 4 ≡ 4 * (n - r) + j = omega arith in
    rw (e, g, at) refl

-- a round's key from its four words
key_from : (keys : List ℕ) (r : ℕ) (a b c d : List ℕ) → to_le_bytes w32 (get_or keys (4 * r + 0) 0) ≡ a → to_le_bytes w32 (get_or keys (4 * r + 1) 0) ≡ b
    → to_le_bytes w32 (get_or keys (4 * r + 2) 0) ≡ c → to_le_bytes w32 (get_or keys (4 * r + 3) 0) ≡ d → key_at keys r ≡ a ++ b ++ c ++ d
key_from keys r a b c d ea eb ec ed =
    let z : 4 * r ≡ 4 * r + 0 = omega arith in
    let first : to_le_bytes w32 (get_or keys (4 * r) 0) ≡ a = ap (λ k. to_le_bytes w32 (get_or keys k 0)) z ∙ ea in
    λ t. first t ++ eb t ++ ec t ++ ed t

pub paired_from : (n : ℕ) (forward keys : List ℕ) → 4 ≤ n → ((k : ℕ) → k < 4 * (n + 1) → to_le_bytes w32 (get_or keys k 0) ≡ backward_word n forward k) → IsPaired n forward keys
paired_from n forward keys long h zero within =
    let w = λ (j : ℕ) (l : j < 4). h j (omega arith) ∙ backward_first n j forward l in
    key_from keys 0 _ _ _ _ (w 0 (omega arith)) (w 1 (omega arith)) (w 2 (omega arith)) (w 3 (omega arith)) ∙ sym (key_from forward n _ _ _ _ refl refl refl refl)
paired_from n forward keys long h (suc q) within =
    let r : ℕ = suc q in
    elim (cases_lt r n) [
      | inl l ↦
          let w = λ (j : ℕ) (lj : j < 4). h (4 * r + j) (omega arith) ∙ backward_inner n r j forward (omega arith) l lj in
          let m = λ (a b c d : List ℕ). times_column inv_mix a ++ times_column inv_mix b ++ times_column inv_mix c ++ times_column inv_mix d in
          let z : 4 * (n - r) + 0 ≡ 4 * (n - r) = omega arith in
          key_from keys r _ _ _ _ (w 0 (omega arith)) (w 1 (omega arith)) (w 2 (omega arith)) (w 3 (omega arith))
          ∙ (λ t. m (to_le_bytes w32 (get_or forward (z t) 0)) (to_le_bytes w32 (get_or forward (4 * (n - r) + 1) 0)) (to_le_bytes w32 (get_or forward (4 * (n - r) + 2) 0)) (to_le_bytes w32 (get_or forward (4 * (n - r) + 3) 0)))
          ∙ sym (backward_inside n r (key_at forward) (omega arith) l)
      | inr g ↦
          let same : n ≡ r = omega arith in
          let w = λ (j : ℕ) (lj : j < 4).
          let e : 4 * r + j - 4 * n ≡ j = omega arith in
          h (4 * r + j) (omega arith) ∙ backward_end n (4 * r + j) forward long (omega arith) (omega arith) ∙ ap (λ k. to_le_bytes w32 (get_or forward k 0)) e in
          key_from keys r _ _ _ _ (w 0 (omega arith)) (w 1 (omega arith)) (w 2 (omega arith)) (w 3 (omega arith))
          ∙ sym (backward_last n (key_at forward) (omega arith)) ∙ (λ t. backward_key n (key_at forward) (same t))
    ]

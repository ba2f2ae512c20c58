-- Cipher undoes InvCipher.
use Rattle.std.proofs.Common.{◌≡◌, ℕ, zero, suc, ◌+◌, ◌-◌, ◌*◌, ◌/◌, ◌%◌, ◌<◌, ◌≤◌, List, [], ◌∷◌, map, slice_index, refl, ap, sym, ◌∙◌, arith, true, ltb}
use Rattle.std.specs.List.{range_with_len}
use Rattle.std.specs.Simd.Lanes.{Each1}
use borrow.Author.Tests.{ltb-true}
use Rattle.aes_core.specs.Field.{product, remainder, times, sbox, inv_sbox, all_bytes, inverse, affine, affine_inverse}
use Rattle.aes_core.specs.Aes.{add, share, mix, inv_mix, times_column, times_columns, shift_rows, inv_shift_rows, full_round, last_round, inv_round, inv_last_round, after_rounds, after_inv_rounds, cipher_rounds, inv_cipher_rounds}
use Rattle.aes_core.proofs.Linear.{mixed_shares, lone}
use Rattle.aes_core.proofs.Inverse.{state_is, at_each, undo_columns, gives_bytes, bytes-columns, bytes-map, byte_in, IsBlock-add, add_twice, AreKeys}
use Rattle.aes_core.specs.Inverses.{IsByte, IsBlock}

sub_table : map (λ x. sbox (inv_sbox x)) (range_with_len 0 256) ≡ map (λ x. x) (range_with_len 0 256)
unfolding product remainder times all_bytes inverse affine affine_inverse sbox inv_sbox
sub_table = refl

sub_unsub : (x : ℕ) → x < 256 → sbox (inv_sbox x) ≡ x
sub_unsub = at_each (λ x. sbox (inv_sbox x)) (λ x. x) 256 sub_table

inverse_bytes : map (λ x. ltb (inv_sbox x) 256) (range_with_len 0 256) ≡ map (λ x. true) (range_with_len 0 256)
unfolding product remainder times all_bytes inverse affine_inverse inv_sbox
inverse_bytes = refl

bytes-unsub : (s : List ℕ) → Each1 IsByte s → Each1 IsByte (map inv_sbox s)
bytes-unsub [] h = tt
bytes-unsub (x ∷ s) h = (ltb-true (inv_sbox x) 256 (at_each (λ y. ltb (inv_sbox y) 256) (λ y. true) 256 inverse_bytes x h.0), bytes-unsub s h.1)

unmix_bytes : map (λ i. ltb (times (slice_index inv_mix (i / 256)) (i % 256)) 256) (range_with_len 0 1024) ≡ map (λ i. true) (range_with_len 0 1024)
unfolding product remainder times
unmix_bytes = refl

mixed_share : (j a : ℕ) → j < 4 → a < 256 → times_column mix (share inv_mix j a) ≡ lone j a
mixed_share j a hj ha =
    let row : (256 * j + a) / 256 ≡ j = omega arith in
    let place : (256 * j + a) % 256 ≡ a = omega arith in
    (λ i. times_column mix (share inv_mix (sym row i) (sym place i)))
    ∙ at_each (λ i. times_column mix (share inv_mix (i / 256) (i % 256))) (λ i. lone (i / 256) (i % 256)) 1024 mixed_shares (256 * j + a) (omega arith)
    ∙ (λ i. lone (row i) (place i))

map_sub : (s : List ℕ) → Each1 IsByte s → map sbox (map inv_sbox s) ≡ s
map_sub [] h = refl
map_sub (x ∷ s) h = λ i. sub_unsub x h.0 i ∷ map_sub s h.1 i

IsBlock-unsub : (s : List ℕ) → IsBlock s → IsBlock (map inv_sbox (inv_shift_rows s))
IsBlock-unsub s h = (refl, bytes-unsub (inv_shift_rows s) (bytes-map (λ i. slice_index s ((i + 12 * (i % 4)) % 16)) (λ i. byte_in s ((i + 12 * (i % 4)) % 16) h.1) (range_with_len 0 16)))

IsBlock-inv_round : (k s : List ℕ) → IsBlock k → IsBlock s → IsBlock (inv_round k s)
unfolding inv_round
IsBlock-inv_round k s hk hs =
    let inner : IsBlock (add (map inv_sbox (inv_shift_rows s)) k) = IsBlock-add (map inv_sbox (inv_shift_rows s)) k (IsBlock-unsub s hs) hk in
    (refl, bytes-columns (slice_index inv_mix) (gives_bytes (slice_index inv_mix) unmix_bytes) (add (map inv_sbox (inv_shift_rows s)) k) inner.1)

IsBlock-after_inv_rounds : (n : ℕ) (key : ℕ → List ℕ) (s : List ℕ) → AreKeys n key → IsBlock s → (m : ℕ) → m ≤ n → IsBlock (after_inv_rounds n key s m)
unfolding after_inv_rounds
IsBlock-after_inv_rounds n key s hk hs zero h = IsBlock-add s (key n) hs (hk n (omega arith))
IsBlock-after_inv_rounds n key s hk hs (suc m) h = IsBlock-inv_round (key (n - suc m)) (after_inv_rounds n key s m) (hk (n - suc m) (omega arith)) (IsBlock-after_inv_rounds n key s hk hs m (omega arith))

-- SubBytes and ShiftRows after their inverses
redo_sub : (s : List ℕ) → IsBlock s → shift_rows (map sbox (map inv_sbox (inv_shift_rows s))) ≡ s
redo_sub s h =
    ap shift_rows (map_sub (inv_shift_rows s) (bytes-map (λ i. slice_index s ((i + 12 * (i % 4)) % 16)) (λ i. byte_in s ((i + 12 * (i % 4)) % 16) h.1) (range_with_len 0 16)))
    ∙ sym (state_is s h.0)

-- a round after the round of InvCipher that undoes it
redo_full : (k s : List ℕ) → IsBlock k → IsBlock s → full_round k (map inv_sbox (inv_shift_rows (inv_round k s))) ≡ map inv_sbox (inv_shift_rows s)
unfolding full_round inv_round
redo_full k s hk hs =
    let u : List ℕ = map inv_sbox (inv_shift_rows s) in
    let t : List ℕ = add u k in
    let ht : IsBlock t = IsBlock-add u k (IsBlock-unsub s hs) hk in
    let back : times_columns mix (times_columns inv_mix t) ≡ t =
    ap (λ x. times_columns mix (times_columns inv_mix x)) (state_is t ht.0)
    ∙ undo_columns (slice_index mix) (slice_index inv_mix) mixed_share (slice_index t) (λ i. byte_in t i ht.1) ∙ sym (state_is t ht.0) in
    (λ i. add (times_columns mix (redo_sub (inv_round k s) (IsBlock-inv_round k s hk hs) i)) k)
    ∙ (λ i. add (back i) k) ∙ add_twice u k (sym hk.0)

redo_step : (n m p : ℕ) (key : ℕ → List ℕ) (s : List ℕ) → AreKeys n key → IsBlock s → n - suc m ≡ suc p
    → after_rounds key (inv_cipher_rounds n key s) p ≡ map inv_sbox (inv_shift_rows (after_inv_rounds n key s (suc m)))
    → after_rounds key (inv_cipher_rounds n key s) (suc p) ≡ map inv_sbox (inv_shift_rows (after_inv_rounds n key s m))
unfolding after_rounds after_inv_rounds
redo_step n m p key s hk hs at before =
    (λ i. full_round (key (suc p)) (before i))
    ∙ (λ i. full_round (key (suc p)) (map inv_sbox (inv_shift_rows (inv_round (key (at i)) (after_inv_rounds n key s m)))))
    ∙ redo_full (key (suc p)) (after_inv_rounds n key s m) (hk (suc p) (omega arith)) (IsBlock-after_inv_rounds n key s hk hs m (omega arith))

redone : (n p m : ℕ) (key : ℕ → List ℕ) (s : List ℕ) → AreKeys n key → IsBlock s → m + p + 1 ≡ n
    → after_rounds key (inv_cipher_rounds n key s) p ≡ map inv_sbox (inv_shift_rows (after_inv_rounds n key s m))
unfolding after_rounds inv_cipher_rounds inv_last_round
redone n zero m key s hk hs e =
    let same : n - 1 ≡ m = omega arith in
    let u : List ℕ = map inv_sbox (inv_shift_rows (after_inv_rounds n key s (n - 1))) in
    add_twice u (key 0) (sym (hk 0 (omega arith)).0) ∙ (λ i. map inv_sbox (inv_shift_rows (after_inv_rounds n key s (same i))))
redone n (suc p) m key s hk hs e =
    let at : n - suc m ≡ suc p = omega arith in
    redo_step n m p key s hk hs at (redone n p (suc m) key s hk hs (omega arith))

pub cipher-inv_cipher : (n : ℕ) (key : ℕ → List ℕ) (s : List ℕ) → 0 < n → AreKeys n key → IsBlock s → cipher_rounds n key (inv_cipher_rounds n key s) ≡ s
unfolding cipher_rounds last_round after_inv_rounds
cipher-inv_cipher n key s pos hk hs =
    let last : IsBlock (key n) = hk n (omega arith) in
    (λ i. last_round (key n) (redone n (n - 1) 0 key s hk hs (omega arith) i))
    ∙ ap (λ t. add t (key n)) (redo_sub (after_inv_rounds n key s 0) (IsBlock-after_inv_rounds n key s hk hs 0 (omega arith)))
    ∙ add_twice s (key n) (hs.0 ∙ sym last.0)

pub IsBlock-inv_cipher : (n : ℕ) (key : ℕ → List ℕ) (s : List ℕ) → AreKeys n key → IsBlock s → IsBlock (inv_cipher_rounds n key s)
unfolding inv_cipher_rounds inv_last_round
IsBlock-inv_cipher n key s hk hs =
    let t : List ℕ = after_inv_rounds n key s (n - 1) in
    IsBlock-add (map inv_sbox (inv_shift_rows t)) (key 0) (IsBlock-unsub t (IsBlock-after_inv_rounds n key s hk hs (n - 1) (omega arith))) (hk 0 (omega arith))

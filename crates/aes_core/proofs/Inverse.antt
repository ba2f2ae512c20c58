-- InvCipher undoes Cipher.
use Rattle.std.proofs.Common.{◌≡◌, ℕ, zero, suc, ◌+◌, ◌-◌, ◌*◌, ◌/◌, ◌%◌, ◌<◌, ◌≤◌, List, [], ◌∷◌, ◌++◌, map, get_or, length, slice_index, refl, ap, sym, ◌∙◌, arith, bit_xor, zero-add, true, ltb, lit<}
use Rattle.std.proofs.lemmas.Nat.{xor_lt}
use Rattle.std.proofs.lemmas.List.{length-map}
use Rattle.std.proofs.lemmas.List.FromFn.{get_or-map-range_with_len, fill_by_all}
use Rattle.std.proofs.lemmas.Simd.{length-zip2}
use Rattle.std.specs.Simd.Lanes.{Each1}
use borrow.Author.Tests.{ltb-true}
use lib.Bits.{xor_assoc, xor_zero_r, xor_self}
use Rattle.std.specs.List.{range_with_len}
use Rattle.aes_core.specs.Field.{product, remainder, times, sbox, inv_sbox, all_bytes, inverse, affine, affine_inverse}
use Rattle.aes_core.specs.Aes.{add, share, mix, inv_mix, times_column, column, times_columns, shift_rows, inv_shift_rows, full_round, last_round, inv_round, inv_last_round, after_rounds, after_inv_rounds, cipher_rounds, inv_cipher_rounds}
use Rattle.aes_core.specs.Inverses.{IsByte, IsBlock}
use Rattle.aes_core.proofs.Linear.{times_column-add, inv_mixed_shares, lone, four}

-- a function's values at 0 to 15
abbrev pub state : (ℕ → ℕ) → List ℕ
state f = map f (range_with_len 0 16)

-- f at n, from f and g having one list of values at 0 to n - 1
pub at_each : {X : Type 0} (f g : ℕ → X) (n : ℕ) → map f (range_with_len 0 n) ≡ map g (range_with_len 0 n) → (x : ℕ) → x < n → f x ≡ g x
at_each f g n e x h =
    sym (get_or-map-range_with_len f 0 n x x (g x) h (zero-add x)) ∙ ap (λ xs. get_or xs x (g x)) e
    ∙ get_or-map-range_with_len g 0 n x x (g x) h (zero-add x)

unsub_table : map (λ x. inv_sbox (sbox x)) (range_with_len 0 256) ≡ map (λ x. x) (range_with_len 0 256)
unfolding product remainder times all_bytes inverse affine affine_inverse sbox inv_sbox
unsub_table = refl

pub unsub_sub : (x : ℕ) → x < 256 → inv_sbox (sbox x) ≡ x
unsub_sub = at_each (λ x. inv_sbox (sbox x)) (λ x. x) 256 unsub_table

-- the column polynomials undo each other at one byte in row j
pub inv_mixed_share : (j a : ℕ) → j < 4 → a < 256 → times_column inv_mix (share mix j a) ≡ lone j a
inv_mixed_share j a hj ha =
    let row : (256 * j + a) / 256 ≡ j = omega arith in
    let place : (256 * j + a) % 256 ≡ a = omega arith in
    (λ i. times_column inv_mix (share mix (sym row i) (sym place i)))
    ∙ at_each (λ i. times_column inv_mix (share mix (i / 256) (i % 256))) (λ i. lone (i / 256) (i % 256)) 1024 inv_mixed_shares (256 * j + a) (omega arith)
    ∙ (λ i. lone (row i) (place i))

zeros : (a : ℕ) → bit_xor (bit_xor (bit_xor a 0) 0) 0 ≡ a
zeros a = xor_zero_r (bit_xor (bit_xor a 0) 0) ∙ xor_zero_r (bit_xor a 0) ∙ xor_zero_r a

-- u undoes m at one byte in one row
abbrev pub UndoesShares : (ℕ → ℕ) → (ℕ → ℕ) → Type 0
UndoesShares u m = (j a : ℕ) → j < 4 → a < 256 → times_column (four u) (share (four m) j a) ≡ lone j a

-- and so at a whole column, since products are linear
pub undo_column : (u m : ℕ → ℕ) → UndoesShares u m → (a b c d : ℕ) → a < 256 → b < 256 → c < 256 → d < 256
    → times_column (four u) (times_column (four m) (a ∷ b ∷ c ∷ d ∷ [])) ≡ a ∷ b ∷ c ∷ d ∷ []
undo_column u m undoes a b c d ha hb hc hd =
    let s : ℕ → ℕ → ℕ → ℕ = λ j x i. times (slice_index (four m) ((i + 4 - j) % 4)) x in
    let linear = λ (f g : ℕ → ℕ). times_column-add u f g in
    linear (λ i. bit_xor (bit_xor (s 0 a i) (s 1 b i)) (s 2 c i)) (s 3 d)
    ∙ (λ i. add (linear (λ j. bit_xor (s 0 a j) (s 1 b j)) (s 2 c) i) (times_column (four u) (share (four m) 3 d)))
    ∙ (λ i. add (add (linear (s 0 a) (s 1 b) i) (times_column (four u) (share (four m) 2 c))) (times_column (four u) (share (four m) 3 d)))
    ∙ (λ i. add (add (add (undoes 0 a (omega arith) ha i) (undoes 1 b (omega arith) hb i)) (undoes 2 c (omega arith) hc i)) (undoes 3 d (omega arith) hd i))
    ∙ (λ i. zeros a i ∷ (xor_zero_r (bit_xor b 0) ∙ xor_zero_r b) i ∷ xor_zero_r c i ∷ d ∷ [])

-- ---- states

pub byte_in : (s : List ℕ) (i : ℕ) → Each1 IsByte s → slice_index s i < 256
byte_in [] i h = lit< tt
byte_in (x ∷ s) zero h = h.0
byte_in (x ∷ s) (suc i) h = byte_in s i h.1

pub bytes-map : (f : ℕ → ℕ) → ((x : ℕ) → f x < 256) → (s : List ℕ) → Each1 IsByte (map f s)
bytes-map f h [] = tt
bytes-map f h (x ∷ s) = (h x, bytes-map f h s)

pub bytes-add : (p q : List ℕ) → Each1 IsByte p → Each1 IsByte q → Each1 IsByte (add p q)
bytes-add [] q hp hq = tt
bytes-add (x ∷ p) [] hp hq = tt
bytes-add (x ∷ p) (y ∷ q) hp hq = (xor_lt 8 x y hp.0 hq.0, bytes-add p q hp.1 hq.1)

pub bytes-append : (p q : List ℕ) → Each1 IsByte p → Each1 IsByte q → Each1 IsByte (p ++ q)
bytes-append [] q hp hq = hq
bytes-append (x ∷ p) q hp hq = (hp.0, bytes-append p q hp.1 hq)

sbox_bytes : map (λ x. ltb (sbox x) 256) (range_with_len 0 256) ≡ map (λ x. true) (range_with_len 0 256)
unfolding product remainder times all_bytes inverse affine sbox
sbox_bytes = refl

sbox-IsByte : (x : ℕ) → x < 256 → sbox x < 256
sbox-IsByte x h = ltb-true (sbox x) 256 (at_each (λ y. ltb (sbox y) 256) (λ y. true) 256 sbox_bytes x h)

pub bytes-sbox : (s : List ℕ) → Each1 IsByte s → Each1 IsByte (map sbox s)
bytes-sbox [] h = tt
bytes-sbox (x ∷ s) h = (sbox-IsByte x h.0, bytes-sbox s h.1)

-- products with the coefficients of m are bytes
abbrev pub GivesBytes : (ℕ → ℕ) → Type 0
GivesBytes m = (k a : ℕ) → k < 4 → a < 256 → times (slice_index (four m) k) a < 256

-- by a test at each coefficient and byte
pub gives_bytes : (m : ℕ → ℕ)
    → map (λ i. ltb (times (slice_index (four m) (i / 256)) (i % 256)) 256) (range_with_len 0 1024) ≡ map (λ i. true) (range_with_len 0 1024) → GivesBytes m
gives_bytes m test k a hk ha =
    let row : (256 * k + a) / 256 ≡ k = omega arith in
    let place : (256 * k + a) % 256 ≡ a = omega arith in
    let t : ltb (times (slice_index (four m) ((256 * k + a) / 256)) ((256 * k + a) % 256)) 256 ≡ true =
    at_each (λ i. ltb (times (slice_index (four m) (i / 256)) (i % 256)) 256) (λ i. true) 1024 test (256 * k + a) (omega arith) in
    ltb-true (times (slice_index (four m) k) a) 256 ((λ i. ltb (times (slice_index (four m) (sym row i)) (sym place i)) 256) ∙ t)

mix_bytes : map (λ i. ltb (times (slice_index mix (i / 256)) (i % 256)) 256) (range_with_len 0 1024) ≡ map (λ i. true) (range_with_len 0 1024)
unfolding product remainder times
mix_bytes = refl

bytes-share : (m : ℕ → ℕ) → GivesBytes m → (j a : ℕ) → a < 256 → Each1 IsByte (share (four m) j a)
bytes-share m gives j a h =
    bytes-map (λ i. times (slice_index (four m) ((i + 4 - j) % 4)) a) (λ i. gives ((i + 4 - j) % 4) a (omega arith) h) (0 ∷ 1 ∷ 2 ∷ 3 ∷ [])

bytes-column : (m : ℕ → ℕ) → GivesBytes m → (a b c d : ℕ) → a < 256 → b < 256 → c < 256 → d < 256 → Each1 IsByte (times_column (four m) (a ∷ b ∷ c ∷ d ∷ []))
bytes-column m gives a b c d ha hb hc hd =
    let s : ℕ → ℕ → List ℕ = share (four m) in
    let p : List ℕ = add (s 0 a) (s 1 b) in
    let q : List ℕ = add p (s 2 c) in
    let one = bytes-share m gives in
    bytes-add q (s 3 d) (bytes-add p (s 2 c) (bytes-add (s 0 a) (s 1 b) (one 0 a ha) (one 1 b hb)) (one 2 c hc)) (one 3 d hd)

pub bytes-columns : (m : ℕ → ℕ) → GivesBytes m → (s : List ℕ) → Each1 IsByte s → Each1 IsByte (times_columns (four m) s)
bytes-columns m gives s h =
    let one : (i : ℕ) → Each1 IsByte (times_column (four m) (column s i)) =
    λ i. bytes-column m gives (slice_index s (4 * i)) (slice_index s (4 * i + 1)) (slice_index s (4 * i + 2)) (slice_index s (4 * i + 3)) (byte_in s (4 * i) h) (byte_in s (4 * i + 1) h) (byte_in s (4 * i + 2) h) (byte_in s (4 * i + 3) h) in
    let c : ℕ → List ℕ = λ i. times_column (four m) (column s i) in
    bytes-append (c 0 ++ c 1 ++ c 2) (c 3) (bytes-append (c 0 ++ c 1) (c 2) (bytes-append (c 0) (c 1) (one 0) (one 1)) (one 2)) (one 3)

pub IsBlock-add : (a k : List ℕ) → IsBlock a → IsBlock k → IsBlock (add a k)
IsBlock-add a k ha hk = (length-zip2 bit_xor a k (ha.0 ∙ sym hk.0) ∙ ha.0, bytes-add a k ha.1 hk.1)

pub IsBlock-full_round : (k s : List ℕ) → IsBlock k → IsBlock s → IsBlock (full_round k s)
unfolding full_round
IsBlock-full_round k s hk hs =
    let sub : Each1 IsByte (map sbox s) = bytes-sbox s hs.1 in
    let shifted : Each1 IsByte (shift_rows (map sbox s)) = bytes-map (λ i. slice_index (map sbox s) ((i + 4 * (i % 4)) % 16)) (λ i. byte_in (map sbox s) ((i + 4 * (i % 4)) % 16) sub) (range_with_len 0 16) in
    IsBlock-add (times_columns mix (shift_rows (map sbox s))) k (refl, bytes-columns (slice_index mix) (gives_bytes (slice_index mix) mix_bytes) (shift_rows (map sbox s)) shifted) hk

-- the keys of n rounds are blocks
abbrev pub AreKeys : ℕ → (ℕ → List ℕ) → Type 0
AreKeys n key = (r : ℕ) → r ≤ n → IsBlock (key r)

pub IsBlock-after : (n : ℕ) (key : ℕ → List ℕ) (s : List ℕ) → AreKeys n key → IsBlock s → (m : ℕ) → m ≤ n → IsBlock (after_rounds key s m)
unfolding after_rounds
IsBlock-after n key s hk hs zero h = IsBlock-add s (key 0) hs (hk 0 (omega arith))
IsBlock-after n key s hk hs (suc m) h = IsBlock-full_round (key (suc m)) (after_rounds key s m) (hk (suc m) h) (IsBlock-after n key s hk hs m (omega arith))

pub state_is : (s : List ℕ) → length s ≡ 16 → s ≡ state (slice_index s)
state_is s l = fill_by_all (slice_index s) s 16 0 l (λ k h. refl)

pub undo_columns : (u m : ℕ → ℕ) → UndoesShares u m → (f : ℕ → ℕ) → ((i : ℕ) → f i < 256) → times_columns (four u) (times_columns (four m) (state f)) ≡ state f
undo_columns u m undoes f h =
    let at = λ (k : ℕ). undo_column u m undoes (f (4 * k)) (f (4 * k + 1)) (f (4 * k + 2)) (f (4 * k + 3)) (h (4 * k)) (h (4 * k + 1)) (h (4 * k + 2)) (h (4 * k + 3)) in
    λ i. at 0 i ++ at 1 i ++ at 2 i ++ at 3 i

pub unmix_mix : (f : ℕ → ℕ) → ((i : ℕ) → f i < 256) → times_columns inv_mix (times_columns mix (state f)) ≡ state f
unmix_mix = undo_columns (slice_index inv_mix) (slice_index mix) inv_mixed_share

-- to add a key twice changes nothing
pub add_twice : (a k : List ℕ) → length a ≡ length k → add (add a k) k ≡ a
add_twice [] k l = refl
add_twice (x ∷ a) [] l = absurd (omega arith)
add_twice (x ∷ a) (y ∷ k) l = λ i. (xor_assoc x y y ∙ ap (bit_xor x) (xor_self y) ∙ xor_zero_r x) i ∷ add_twice a k (omega arith) i

map_unsub : (s : List ℕ) → Each1 IsByte s → map inv_sbox (map sbox s) ≡ s
map_unsub [] h = refl
map_unsub (x ∷ s) h = λ i. unsub_sub x h.0 i ∷ map_unsub s h.1 i

undo_sub : (s : List ℕ) → IsBlock s → map inv_sbox (inv_shift_rows (shift_rows (map sbox s))) ≡ s
undo_sub s h = ap (map inv_sbox) (sym (state_is (map sbox s) (length-map s sbox ∙ h.0))) ∙ map_unsub s h.1

undo_full : (k s : List ℕ) → IsBlock k → IsBlock s → times_columns inv_mix (add (full_round k s) k) ≡ shift_rows (map sbox s)
unfolding full_round
undo_full k s hk hs =
    ap (times_columns inv_mix) (add_twice (times_columns mix (shift_rows (map sbox s))) k (sym hk.0))
    ∙ unmix_mix (λ i. slice_index (map sbox s) ((i + 4 * (i % 4)) % 16)) (λ i. byte_in (map sbox s) ((i + 4 * (i % 4)) % 16) (bytes-sbox s hs.1))

unrounds_step : (n m p : ℕ) (key : ℕ → List ℕ) (s : List ℕ) → AreKeys n key → IsBlock s → n - suc m ≡ suc p
    → after_inv_rounds n key (cipher_rounds n key s) m ≡ shift_rows (map sbox (after_rounds key s (suc p)))
    → after_inv_rounds n key (cipher_rounds n key s) (suc m) ≡ shift_rows (map sbox (after_rounds key s p))
unfolding after_inv_rounds inv_round after_rounds
unrounds_step n m p key s hk hs at before =
    let r : List ℕ = after_rounds key s p in
    let k : List ℕ = key (suc p) in
    let hr : IsBlock r = IsBlock-after n key s hk hs p (omega arith) in
    let hkp : IsBlock k = hk (suc p) (omega arith) in
    (λ i. inv_round (key (at i)) (before i))
    ∙ ap (λ t. times_columns inv_mix (add t k)) (undo_sub (full_round k r) (IsBlock-full_round k r hkp hr))
    ∙ undo_full k r hkp hr

-- after m rounds of InvCipher the state is the one before the last p + 1 key additions of Cipher
unrounds : (n m p : ℕ) (key : ℕ → List ℕ) (s : List ℕ) → AreKeys n key → IsBlock s → m + p + 1 ≡ n
    → after_inv_rounds n key (cipher_rounds n key s) m ≡ shift_rows (map sbox (after_rounds key s p))
unfolding after_inv_rounds cipher_rounds last_round
unrounds n zero p key s hk hs e =
    let same : n - 1 ≡ p = omega arith in
    add_twice (shift_rows (map sbox (after_rounds key s (n - 1)))) (key n) (sym (hk n (omega arith)).0) ∙ (λ i. shift_rows (map sbox (after_rounds key s (same i))))
unrounds n (suc m) p key s hk hs e =
    let at : n - suc m ≡ suc p = omega arith in
    unrounds_step n m p key s hk hs at (unrounds n m (suc p) key s hk hs (omega arith))

pub inv_cipher-cipher : (n : ℕ) (key : ℕ → List ℕ) (s : List ℕ) → 0 < n → AreKeys n key → IsBlock s → inv_cipher_rounds n key (cipher_rounds n key s) ≡ s
unfolding inv_cipher_rounds inv_last_round after_rounds
inv_cipher-cipher n key s pos hk hs =
    let first : IsBlock (key 0) = hk 0 (omega arith) in
    (λ i. inv_last_round (key 0) (unrounds n (n - 1) 0 key s hk hs (omega arith) i))
    ∙ ap (λ t. add t (key 0)) (undo_sub (after_rounds key s 0) (IsBlock-after n key s hk hs 0 (omega arith)))
    ∙ add_twice s (key 0) (hs.0 ∙ sym first.0)

pub IsBlock-cipher : (n : ℕ) (key : ℕ → List ℕ) (s : List ℕ) → AreKeys n key → IsBlock s → IsBlock (cipher_rounds n key s)
unfolding cipher_rounds last_round
IsBlock-cipher n key s hk hs =
    let t : List ℕ = after_rounds key s (n - 1) in
    let sub : Each1 IsByte (map sbox t) = bytes-sbox t (IsBlock-after n key s hk hs (n - 1) (omega arith)).1 in
    IsBlock-add (shift_rows (map sbox t)) (key n) (refl, bytes-map (λ i. slice_index (map sbox t) ((i + 4 * (i % 4)) % 16)) (λ i. byte_in (map sbox t) ((i + 4 * (i % 4)) % 16) sub) (range_with_len 0 16)) (hk n (omega arith))

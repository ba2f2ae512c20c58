-- What one step of a loop over rounds adds.
use Rattle.std.proofs.Common.{◌≡◌, ℕ, zero, suc, ◌+◌, ◌-◌, ◌*◌, ◌%◌, ◌<◌, List, ◌++◌, map, slice_index, refl, ap, sym, ◌∙◌, arith, nat_eq, true, false, length, take, ◌≤◌}
use Rattle.std.proofs.lemmas.Bool.Decides.{nat_tests}
use Rattle.aes_core.specs.Field.{inv_sbox}
use Rattle.aes_core.specs.Aes.{add, inv_mix, times_columns, inv_shift_rows, full_round, last_round, inv_round, inv_last_round, after_rounds, after_inv_rounds, cipher_rounds, inv_cipher_rounds}
use Rattle.aes_core.specs.RoundKeys.{IsPaired, backward_key}
use Rattle.aes_core.specs.StateOf.{key_at}
use Rattle.aes_core.proofs.Linear.{times_column-add, four}
use Rattle.aes_core.specs.KeyExpansion.{round_key}
use Rattle.aes_core.specs.Cipher.{round_count, cipher, inv_cipher}
use Rattle.std.proofs.lemmas.List.{length-map, length-take-le}
use Rattle.std.specs.Int.{w32, to_le_bytes}
use Rattle.aes_core.proofs.Expansion.{words, word_at}
use Rattle.aes_core.proofs.Inverse.{state}

pub after_more : (key : ℕ → List ℕ) (s t u : List ℕ) (m r : ℕ) → t ≡ after_rounds key s m → u ≡ full_round (key r) t → r ≡ m + 1 → u ≡ after_rounds key s r
unfolding after_rounds
after_more key s t u m zero et eu er = absurd (omega arith)
after_more key s t u m (suc r) et eu er =
    let e : m ≡ r = omega arith in
    eu ∙ (λ i. full_round (key (suc r)) (et i)) ∙ (λ i. full_round (key (suc r)) (after_rounds key s (e i)))

pub cipher_is : (key : ℕ → List ℕ) (s t u : List ℕ) (m n : ℕ) → t ≡ after_rounds key s m → u ≡ last_round (key n) t → n ≡ m + 1 → u ≡ cipher_rounds n key s
unfolding cipher_rounds
cipher_is key s t u m n et eu en =
    let e : m ≡ n - 1 = omega arith in
    eu ∙ (λ i. last_round (key n) (et i)) ∙ (λ i. last_round (key n) (after_rounds key s (e i)))

times_columns-add : (c f g : ℕ → ℕ) → times_columns (four c) (add (state f) (state g)) ≡ add (times_columns (four c) (state f)) (times_columns (four c) (state g))
times_columns-add c f g =
    let at = λ (k : ℕ). times_column-add c (λ i. f (4 * k + i)) (λ i. g (4 * k + i)) in
    λ i. at 0 i ++ at 1 i ++ at 2 i ++ at 3 i

not-first : (a b : ℕ) → a < b → nat_eq b a ≡ false
not-first a b h = grind (arith, nat_tests)

not-last : (a b : ℕ) → a < b → nat_eq a b ≡ false
not-last a b h = grind (arith, nat_tests)

pub backward_inside : (n r : ℕ) (key : ℕ → List ℕ) → 0 < r → r < n → backward_key n key r ≡ times_columns inv_mix (key (n - r))
backward_inside n r key h l = rw (not-first 0 r h, not-last r n l) refl

pub backward_last : (n : ℕ) (key : ℕ → List ℕ) → 0 < n → backward_key n key n ≡ key 0
backward_last n key h =
    let itself : nat_eq n n ≡ true = grind (arith, nat_tests) in
    rw (not-first 0 n h, itself) refl

-- a round of the inverse cipher, with its key multiplied beforehand
pub inv_round_is : (n r : ℕ) (forward backward t : List ℕ) → IsPaired n forward backward → 0 < r → r < n
    → add (times_columns inv_mix (map inv_sbox (inv_shift_rows t))) (key_at backward r) ≡ inv_round (key_at forward (n - r)) t
unfolding inv_round
inv_round_is n r forward backward t paired h l =
    ap (add (times_columns inv_mix (map inv_sbox (inv_shift_rows t)))) (paired r (omega arith) ∙ backward_inside n r (key_at forward) h l)
    ∙ sym (times_columns-add (slice_index inv_mix) (λ i. inv_sbox (slice_index t ((i + 12 * (i % 4)) % 16))) (slice_index (key_at forward (n - r))))

pub after_inv_rounds_more : (n m r : ℕ) (forward backward s t u : List ℕ) → IsPaired n forward backward → t ≡ after_inv_rounds n (key_at forward) s m
    → u ≡ add (times_columns inv_mix (map inv_sbox (inv_shift_rows t))) (key_at backward r) → r ≡ m + 1 → r < n
    → u ≡ after_inv_rounds n (key_at forward) s r
unfolding after_inv_rounds
after_inv_rounds_more n m zero forward backward s t u paired et eu er l = absurd (omega arith)
after_inv_rounds_more n m (suc r) forward backward s t u paired et eu er l =
    let e : m ≡ r = omega arith in
    eu ∙ inv_round_is n (suc r) forward backward t paired (omega arith) l ∙ (λ i. inv_round (key_at forward (n - suc r)) (et i))
    ∙ (λ i. inv_round (key_at forward (n - suc r)) (after_inv_rounds n (key_at forward) s (e i)))

pub inv_cipher_is : (n m : ℕ) (forward backward s t u : List ℕ) → IsPaired n forward backward → t ≡ after_inv_rounds n (key_at forward) s m
    → u ≡ inv_last_round (key_at backward n) t → n ≡ m + 1 → u ≡ inv_cipher_rounds n (key_at forward) s
unfolding inv_cipher_rounds
inv_cipher_is n m forward backward s t u paired et eu en =
    let e : m ≡ n - 1 = omega arith in
    let last : key_at backward n ≡ key_at forward 0 = paired n (omega arith) ∙ backward_last n (key_at forward) (omega arith) in
    eu ∙ (λ i. inv_last_round (last i) (et i)) ∙ (λ i. inv_last_round (key_at forward 0) (after_inv_rounds n (key_at forward) s (e i)))

-- ---- the keys that the words of a schedule give

key_of_words : (forward : List ℕ) (n r : ℕ) → length forward ≡ 60 → n ≤ 14 → r ≤ n → key_at forward r ≡ round_key (words (take (4 * (n + 1)) forward)) r
key_of_words forward n r len high h =
    let w = λ (k : ℕ) (l : k < 4 * (n + 1)). sym (word_at forward (4 * (n + 1)) k l (omega arith)) in
    λ i. w (4 * r) (omega arith) i ++ w (4 * r + 1) (omega arith) i ++ w (4 * r + 2) (omega arith) i ++ w (4 * r + 3) (omega arith) i

after_rounds_same : (key other : ℕ → List ℕ) (s : List ℕ) (n m : ℕ) → ((r : ℕ) → r ≤ n → key r ≡ other r) → m ≤ n → after_rounds key s m ≡ after_rounds other s m
unfolding after_rounds
after_rounds_same key other s n zero same h = ap (add s) (same 0 (omega arith))
after_rounds_same key other s n (suc m) same h = λ i. full_round (same (suc m) h i) (after_rounds_same key other s n m same (omega arith) i)

-- the number of rounds of a schedule from its words
round_count-words : (forward : List ℕ) (n : ℕ) → length forward ≡ 60 → n ≤ 14 → n ≡ round_count (words (take (4 * (n + 1)) forward))
round_count-words forward n len high =
    let whole : length (words (take (4 * (n + 1)) forward)) ≡ 4 * (n + 1) =
    length-map (take (4 * (n + 1)) forward) (to_le_bytes w32) ∙ length-take-le (4 * (n + 1)) forward (omega arith) in
    omega arith

pub cipher_words : (forward s t : List ℕ) (w : List (List ℕ)) (n : ℕ) → length forward ≡ 60 → n ≤ 14 → words (take (4 * (n + 1)) forward) ≡ w
    → t ≡ cipher_rounds n (key_at forward) s → t ≡ cipher w s
unfolding cipher_rounds
cipher_words forward s t w n len high view e =
    let same = λ (r : ℕ) (h : r ≤ n). key_of_words forward n r len high h in
    e ∙ (λ i. last_round (same n (omega arith) i) (after_rounds_same (key_at forward) (round_key (words (take (4 * (n + 1)) forward))) s n (n - 1) same (omega arith) i))
    ∙ (λ i. cipher_rounds (round_count-words forward n len high i) (round_key (words (take (4 * (n + 1)) forward))) s)
    ∙ ap (λ v. cipher v s) view

after_inv_rounds_same : (key other : ℕ → List ℕ) (s : List ℕ) (n m : ℕ) → ((r : ℕ) → r ≤ n → key r ≡ other r) → after_inv_rounds n key s m ≡ after_inv_rounds n other s m
unfolding after_inv_rounds
after_inv_rounds_same key other s n zero same = ap (add s) (same n (omega arith))
after_inv_rounds_same key other s n (suc m) same = λ i. inv_round (same (n - suc m) (omega arith) i) (after_inv_rounds_same key other s n m same i)

pub inv_cipher_words : (forward s t : List ℕ) (w : List (List ℕ)) (n : ℕ) → length forward ≡ 60 → n ≤ 14 → words (take (4 * (n + 1)) forward) ≡ w
    → t ≡ inv_cipher_rounds n (key_at forward) s → t ≡ inv_cipher w s
unfolding inv_cipher_rounds
inv_cipher_words forward s t w n len high view e =
    let same = λ (r : ℕ) (h : r ≤ n). key_of_words forward n r len high h in
    e ∙ (λ i. inv_last_round (same 0 (omega arith) i) (after_inv_rounds_same (key_at forward) (round_key (words (take (4 * (n + 1)) forward))) s n (n - 1) same i))
    ∙ (λ i. inv_cipher_rounds (round_count-words forward n len high i) (round_key (words (take (4 * (n + 1)) forward))) s)
    ∙ ap (λ v. inv_cipher v s) view

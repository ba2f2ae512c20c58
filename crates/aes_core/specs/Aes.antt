-- AES (FIPS 197) on lists of bytes. A state is the 16 bytes of a block: the byte in row r of column c
-- is byte r + 4 c (3.4).
use Rattle.std.specs.Prelude.{ℕ, zero, suc, ◌+◌, ◌-◌, ◌*◌, ◌%◌, List, [], ◌∷◌, ◌++◌, map, bit_xor, slice_index}
use Rattle.std.specs.List.{range_with_len}
use Rattle.std.specs.Simd.Lanes.{zip2}
use Rattle.aes_core.specs.Field.{times, sbox, inv_sbox}

-- the sum of two lists of bytes, as AddRoundKey takes it (5.1.4)
abbrev pub add : List ℕ → List ℕ → List ℕ
add = zip2 bit_xor

-- a column is a polynomial of four coefficients, that of x^0 first. This is c * (a x^j) modulo
-- x^4 + 1, in which x^4 is 1 (4.3)
abbrev pub share : List ℕ → ℕ → ℕ → List ℕ
share c j a = map (λ i. times (slice_index c ((i + 4 - j) % 4)) a) (0 ∷ 1 ∷ 2 ∷ 3 ∷ [])

-- c * a modulo x^4 + 1 (4.3)
abbrev pub times_column : List ℕ → List ℕ → List ℕ
times_column c a =
    add (add (add (share c 0 (slice_index a 0)) (share c 1 (slice_index a 1))) (share c 2 (slice_index a 2))) (share c 3 (slice_index a 3))

-- 3 x^3 + x^2 + x + 2 (5.1.3)
abbrev pub mix : List ℕ
mix = 2 ∷ 1 ∷ 1 ∷ 3 ∷ []

-- 11 x^3 + 13 x^2 + 9 x + 14 (5.3.3)
abbrev pub inv_mix : List ℕ
inv_mix = 14 ∷ 9 ∷ 13 ∷ 11 ∷ []

-- column c of a state
abbrev pub column : List ℕ → ℕ → List ℕ
column s c = slice_index s (4 * c) ∷ slice_index s (4 * c + 1) ∷ slice_index s (4 * c + 2) ∷ slice_index s (4 * c + 3) ∷ []

-- each column of a state times c
abbrev pub times_columns : List ℕ → List ℕ → List ℕ
times_columns c s = times_column c (column s 0) ++ times_column c (column s 1) ++ times_column c (column s 2) ++ times_column c (column s 3)

-- row r moves r places to the left (5.1.2), and back (5.3.1)
abbrev pub shift_rows : List ℕ → List ℕ
shift_rows s = map (λ i. slice_index s ((i + 4 * (i % 4)) % 16)) (range_with_len 0 16)

abbrev pub inv_shift_rows : List ℕ → List ℕ
inv_shift_rows s = map (λ i. slice_index s ((i + 12 * (i % 4)) % 16)) (range_with_len 0 16)

-- the four steps of a round (5.1)
unfoldable pub full_round : List ℕ → List ℕ → List ℕ
full_round key s = add (times_columns mix (shift_rows (map sbox s))) key

-- the last round has no MixColumns
unfoldable pub last_round : List ℕ → List ℕ → List ℕ
last_round key s = add (shift_rows (map sbox s)) key

-- the state after the first AddRoundKey and n rounds; key r is the key of round r
unfoldable pub after_rounds : (ℕ → List ℕ) → List ℕ → ℕ → List ℕ
after_rounds key s zero = add s (key 0)
after_rounds key s (suc n) = full_round (key (suc n)) (after_rounds key s n)

-- Cipher (5.1), of n rounds
unfoldable pub cipher_rounds : ℕ → (ℕ → List ℕ) → List ℕ → List ℕ
cipher_rounds n key s = last_round (key n) (after_rounds key s (n - 1))

-- one round of InvCipher, with the key of the round that it undoes
unfoldable pub inv_round : List ℕ → List ℕ → List ℕ
inv_round key s = times_columns inv_mix (add (map inv_sbox (inv_shift_rows s)) key)

unfoldable pub inv_last_round : List ℕ → List ℕ → List ℕ
inv_last_round key s = add (map inv_sbox (inv_shift_rows s)) key

unfoldable pub after_inv_rounds : ℕ → (ℕ → List ℕ) → List ℕ → ℕ → List ℕ
after_inv_rounds n key s zero = add s (key n)
after_inv_rounds n key s (suc m) = inv_round (key (n - suc m)) (after_inv_rounds n key s m)

-- InvCipher (5.3), of n rounds
unfoldable pub inv_cipher_rounds : ℕ → (ℕ → List ℕ) → List ℕ → List ℕ
inv_cipher_rounds n key s = inv_last_round (key 0) (after_inv_rounds n key s (n - 1))

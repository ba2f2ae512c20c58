-- The key expansion (5.2). A word is a list of four bytes.
use Rattle.std.specs.Prelude.{ℕ, zero, suc, ◌+◌, ◌-◌, ◌*◌, ◌/◌, ◌%◌, ◌==◌, ◌&&◌, nat_lt, List, [], ◌∷◌, ◌++◌, map, take, drop, slice_index, slice_index_or, if◌then◌else◌}
use Rattle.std.specs.List.{range_with_len}
use Rattle.aes_core.specs.Aes.{add}
use Rattle.aes_core.specs.Field.{times, sbox}

abbrev pub rot_word : List ℕ → List ℕ
rot_word w = slice_index w 1 ∷ slice_index w 2 ∷ slice_index w 3 ∷ slice_index w 0 ∷ []

-- x^n in the field
unfoldable pub power_of_x : ℕ → ℕ
power_of_x zero = 1
power_of_x (suc n) = times 2 (power_of_x n)

-- Rcon
abbrev pub round_constant : ℕ → List ℕ
round_constant n = power_of_x (n - 1) ∷ 0 ∷ 0 ∷ 0 ∷ []

-- what is added to word i - nk to give word i, from word i - 1
unfoldable pub word_mask : ℕ → ℕ → List ℕ → List ℕ
word_mask nk i before =
    if i % nk == 0 then add (map sbox (rot_word before)) (round_constant (i / nk))
    else if nat_lt 6 nk && i % nk == 4 then map sbox before
    else before

-- the first nk + n words, from a key of nk words
unfoldable pub expanded : ℕ → List ℕ → ℕ → List (List ℕ)
expanded nk key zero = map (λ i. take 4 (drop (4 * i) key)) (range_with_len 0 nk)
expanded nk key (suc n) =
    let w = expanded nk key n in
    w ++ add (slice_index_or w n []) (word_mask nk (nk + n) (slice_index_or w (nk + n - 1) [])) ∷ []

-- KeyExpansion: all 4 (nk + 7) words of a key of nk words
abbrev pub key_expansion : ℕ → List ℕ → List (List ℕ)
key_expansion nk key = expanded nk key (3 * nk + 28)

-- the key of round r, from a schedule's words
abbrev pub round_key : List (List ℕ) → ℕ → List ℕ
round_key w r = slice_index_or w (4 * r) [] ++ slice_index_or w (4 * r + 1) [] ++ slice_index_or w (4 * r + 2) [] ++ slice_index_or w (4 * r + 3) []

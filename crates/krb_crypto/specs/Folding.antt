-- n-fold (RFC 3961, section 5.1).
use Rattle.std.specs.Prelude.{ℕ, zero, suc, ◌+◌, ◌-◌, ◌*◌, ◌/◌, ◌%◌, ◌^◌, ◌==◌, nat_lt, List, [], ◌∷◌, ◌++◌, length, map, take, drop, find, unwrap_or, if◌then◌else◌}
use Rattle.std.specs.List.{range_with_len, concat}
use Rattle.std.specs.Int.{bit_at}

-- the bits of a byte, the highest first
abbrev pub byte_bits : ℕ → List ℕ
byte_bits x = map (λ i. bit_at x (7 - i)) (range_with_len 0 8)

-- the bits of a text
unfoldable pub bits : List ℕ → List ℕ
bits [] = []
bits (x ∷ xs) = byte_bits x ++ bits xs

-- the number that bits stand for, the highest first
unfoldable pub binary : List ℕ → ℕ
binary [] = 0
binary (b ∷ bs) = b * 2 ^ length bs + binary bs

-- bits rotated to the right by k places
abbrev pub rotated : ℕ → List ℕ → List ℕ
rotated k bs = let cut = length bs - k % length bs in drop cut bs ++ take cut bs

-- the least common multiple of two numbers: the first multiple of n that m divides
unfoldable pub common_multiple : ℕ → ℕ → ℕ
common_multiple m n = unwrap_or (find (λ l. l % m == 0) (map (λ k. k * n) (range_with_len 1 m))) 0

-- copies one after the other, each rotated by 13 bits more than the one before
unfoldable pub copies : ℕ → List ℕ → List ℕ
copies count bs = concat (map (λ i. rotated (13 * i) bs) (range_with_len 0 count))

-- the sum of two ones' complement numbers of n bits: a carry goes round to the lowest bit
abbrev pub ones_sum : ℕ → ℕ → ℕ → ℕ
ones_sum n a b = if nat_lt (a + b) (2 ^ n) then a + b else a + b - (2 ^ n - 1)

-- the number of piece j, of n bits each
abbrev pub piece : ℕ → List ℕ → ℕ → ℕ
piece n bs j = binary (take n (drop (n * j) bs))

-- the ones' complement sum of the first count pieces of n bits
unfoldable pub sum_of_pieces : ℕ → ℕ → List ℕ → ℕ
sum_of_pieces n zero bs = 0
sum_of_pieces n (suc count) bs = ones_sum n (sum_of_pieces n count bs) (piece n bs count)

-- a number as n bytes, the highest first
unfoldable pub big_endian : ℕ → ℕ → List ℕ
big_endian zero x = []
big_endian (suc n) x = x / 256 ^ n % 256 ∷ big_endian n x

-- n bytes of a text that is not empty
unfoldable pub nfold : ℕ → List ℕ → List ℕ
nfold n text =
    let whole = common_multiple (length text) n in
    big_endian n (sum_of_pieces (8 * n) (whole / n) (copies (whole / length text) (bits text)))

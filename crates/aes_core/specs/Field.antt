-- Bytes as the field GF(2^8) of FIPS 197, section 4. The byte a is the polynomial whose coefficient of
-- x^i is bit i of a. Sums are `bit_xor`.
use Rattle.std.specs.Prelude.{ℕ, zero, suc, ◌+◌, ◌*◌, ◌/◌, ◌%◌, ◌^◌, ◌==◌, List, [], ◌∷◌, map, bit_xor, if◌then◌else◌, Bool}
use Rattle.std.specs.Int.{bit_at}
use Rattle.std.specs.List.{range_with_len, sum}

-- the product of b and of the first n coefficients of a: a_0 b + x (the rest of a) b
unfoldable pub product : ℕ → ℕ → ℕ → ℕ
product zero a b = 0
product (suc n) a b = bit_xor (a % 2 * b) (2 * product n (a / 2) b)

-- p, of degree below 8 + n, modulo x^8 + x^4 + x^3 + x + 1: where p has x^(7 + n), less x^(n - 1) times the modulus
unfoldable pub remainder : ℕ → ℕ → ℕ
remainder zero p = p
remainder (suc n) p = remainder n (bit_xor p (bit_at p (8 + n) * (0x11b * 2 ^ n)))

-- a * b, of bytes (4.2)
unfoldable pub times : ℕ → ℕ → ℕ
times a b = remainder 7 (product 8 a b)

-- all bytes
unfoldable pub all_bytes : List ℕ
all_bytes = range_with_len 0 256

-- the first of a list that passes, else 0
abbrev pub first_or_zero : (ℕ → Bool) → List ℕ → ℕ
first_or_zero test [] = 0
first_or_zero test (x ∷ xs) = if test x then x else first_or_zero test xs

-- the byte b with a * b = 1, and 0 for 0 (5.1.1)
unfoldable pub inverse : ℕ → ℕ
inverse a = first_or_zero (λ b. times a b == 1) all_bytes

-- bit i of the affine map (5.1.1)
abbrev pub affine_bit : ℕ → ℕ → ℕ
affine_bit b i = (bit_at b i + bit_at b ((i + 4) % 8) + bit_at b ((i + 5) % 8) + bit_at b ((i + 6) % 8) + bit_at b ((i + 7) % 8) + bit_at 0x63 i) % 2

-- the byte with these bits
unfoldable pub affine : ℕ → ℕ
affine b = sum (map (λ i. affine_bit b i * 2 ^ i) (range_with_len 0 8))

-- the S-box (5.1.1)
unfoldable pub sbox : ℕ → ℕ
sbox a = affine (inverse a)

-- bit i of the inverse of the affine map (5.3.2)
abbrev pub affine_inverse_bit : ℕ → ℕ → ℕ
affine_inverse_bit b i = (bit_at b ((i + 2) % 8) + bit_at b ((i + 5) % 8) + bit_at b ((i + 7) % 8) + bit_at 0x05 i) % 2

unfoldable pub affine_inverse : ℕ → ℕ
affine_inverse b = sum (map (λ i. affine_inverse_bit b i * 2 ^ i) (range_with_len 0 8))

-- the inverse S-box (5.3.2)
unfoldable pub inv_sbox : ℕ → ℕ
inv_sbox a = inverse (affine_inverse a)

-- How long elements are.
use Rattle.std.proofs.Common.{ℕ, ◌+◌, ◌-◌, ◌≤◌, List, ◌++◌, length, ap, length-append, length-drop, arith, inl, inr}
use Rattle.std.specs.Int.{w32, to_be_bytes}
use Rattle.std.proofs.lemmas.Bool.{cases_lt}
use Rattle.der_core.specs.Elements.{element}
use Rattle.der_core.specs.Sizes.{size, width_of}
use Rattle.der_core.specs.SizeLaws.{width_within, size_short, size_long}

size_few : (n : ℕ) → length (size n) ≤ 5
size_few n =
    elim (cases_lt n 128) [
      | inl a ↦ omega (arith, ap length (size_short n a))
      | inr a ↦ omega (arith, ap length (size_long n a), width_within n, length-drop (4 - width_of n) (to_be_bytes w32 n))
    ]

-- at most six bytes stand before a content
pub element_within : (tag n : ℕ) (content : List ℕ) → length content ≤ n → length (element tag content) ≤ 6 + n
element_within tag n content le = omega (arith, le, size_few (length content), length-append (size (length content)) content)

pub append_within : (m n : ℕ) (front rest : List ℕ) → length front ≤ m → length rest ≤ n → length (front ++ rest) ≤ m + n
append_within m n front rest a b = omega (arith, a, b, length-append front rest)

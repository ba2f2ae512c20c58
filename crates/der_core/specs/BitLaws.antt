-- Bit strings are read as they are spelt.
use Rattle.std.proofs.Common.{◌≡◌, ℕ, ◌+◌, ◌*◌, ◌/◌, ◌<◌, ◌≤◌, ◌^◌, ◌-◌, false, ltb, List, [], ◌∷◌, ◌++◌, length, take, drop, Ok, refl, sym, ap, subst, ◌∙◌, arith}
use Rattle.std.specs.Int.{w32, to_be_bytes, from_be_bytes}
use Rattle.std.proofs.lemmas.Bool.{ltb-false, le-ltb}
use Rattle.std.proofs.lemmas.List.{take_at, take-append-drop}
use Rattle.std.proofs.Math.Nat.{div-mul-le_self}
use Rattle.std.proofs.lemmas.Nat.{from_be_bytes-to_be_bytes_4}
use Rattle.der_core.specs.declared.refusal.DerCause.TheVariants.{LengthForm}
use Rattle.der_core.specs.BitStrings.{first_four, bits_of, bits_in, bit_string, IsBits}
use Rattle.der_core.specs.Laws.{IsBytes}
use Rattle.der_core.specs.Steps.{good, ok_is, guard_ok, IsBytes-append, IsBytes-behind, IsBytes-front, IsBytes-rest}
use Rattle.der_core.specs.SizeLaws.{below_32}

pub bits_found : (place : ℕ) (content : List ℕ) (n : ℕ) → bits_in place content ≡ Ok n → IsBits content n
bits_found place [] n e = absurd cc
bits_found place (unused ∷ bytes) n e =
    let few = guard_ok (ltb 7 unused) (record { cause = LengthForm; place = place }) (good (bits_of unused bytes)) n e in
    record { unused = unused; bytes = bytes; whole = refl; few = ltb-false _ _ few.0; value = ok_is (bits_of unused bytes) n few.1 }

pub bits_only : (place : ℕ) (content : List ℕ) (n : ℕ) → IsBits content n → bits_in place content ≡ Ok n
bits_only place content n d =
    let few : ltb 7 d.unused ≡ false = le-ltb _ _ d.few in
    let one : bits_in place (d.unused ∷ d.bytes) ≡ Ok n = rw few (ap good d.value) in
    ap (bits_in place) d.whole ∙ one

pub bits_spelt : (n : ℕ) → n < 2 ^ 32 → IsBits (bit_string n) n
unfolding bit_string
bits_spelt n fits =
    let four : first_four (to_be_bytes w32 n) ≡ n = ap (from_be_bytes w32) (take_at (to_be_bytes w32 n) (0 ∷ 0 ∷ 0 ∷ 0 ∷ []) 4 refl) ∙ from_be_bytes-to_be_bytes_4 n fits in
    record { unused = 0; bytes = to_be_bytes w32 n; whole = refl; few = omega arith; value = ap (λ (m : ℕ). m / 1 * 1) four ∙ omega arith }

pub bits_fit : (content : List ℕ) (n : ℕ) → IsBytes content → IsBits content n → n < 2 ^ 32
bits_fit content n fits d =
    let four : List ℕ = take 4 (d.bytes ++ 0 ∷ 0 ∷ 0 ∷ 0 ∷ []) in
    let own : IsBytes d.bytes = IsBytes-rest (d.unused ∷ []) d.bytes (subst IsBytes d.whole fits) in
    let zeros : IsBytes (0 ∷ 0 ∷ 0 ∷ 0 ∷ []) = IsBytes-behind 4 0 [] (omega arith) (λ i. omega arith) in
    let all : IsBytes (d.bytes ++ 0 ∷ 0 ∷ 0 ∷ 0 ∷ []) = IsBytes-append d.bytes (0 ∷ 0 ∷ 0 ∷ 0 ∷ []) own zeros in
    let small = below_32 four (IsBytes-front four (drop 4 (d.bytes ++ 0 ∷ 0 ∷ 0 ∷ 0 ∷ [])) (subst IsBytes (sym (take-append-drop 4 (d.bytes ++ 0 ∷ 0 ∷ 0 ∷ 0 ∷ []))) all)) in
    let le = div-mul-le_self (first_four d.bytes) (2 ^ (32 - (8 * length d.bytes - d.unused))) in
    subst (λ (m : ℕ). m < 2 ^ 32) d.value (at_most _ _ le small)
  where
    at_most : (a b : ℕ) → a ≤ b → b < 2 ^ 32 → a < 2 ^ 32
    at_most a b le lt = omega arith

pub bits_no_longer : (content : List ℕ) (n : ℕ) → IsBits content n → length (bit_string n) ≤ 3 * length content + 2
unfolding bit_string
bits_no_longer content n d = omega (arith, ap length d.whole)

-- 32 bits are written in at most four bytes more
pub bits_near : (content : List ℕ) (n : ℕ) → IsBits content n → length (bit_string n) ≤ length content + 4
unfolding bit_string
bits_near content n d = omega (arith, ap length d.whole)

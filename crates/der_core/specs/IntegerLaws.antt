-- Integers are read as they are spelt.
use Rattle.std.proofs.Common.{◌≡◌, ℕ, zero, suc, ◌-◌, ◌<◌, ◌≤◌, Bool, true, false, cond, ltb, eqb, List, [], ◌∷◌, ◌++◌, length, replicate, eq-eqb, Result, Ok, ℤ, ◌+◌, ◌*◌, ◌^◌, length-append, refl, sym, ap, subst, ◌∙◌, arith, inl, inr}
use Rattle.std.specs.Prelude.{FitsSigned}
use Rattle.std.specs.Int.{w64, to_be_bytes, from_be_bytes, cast_signed, cast_unsigned}
use Rattle.std.proofs.lemmas.Bool.{cases_lt, ltb-false, lt-ltb, le-ltb, eqb-true}
use Rattle.std.proofs.lemmas.Int.{of_z-to_z, to_z-of_z, ints}
use Rattle.std.proofs.lemmas.Nat.{be_bytes_8, from_be_bytes-to_be_bytes_8}
use Rattle.std.proofs.lemmas.List.{length-replicate}
use Rattle.std.proofs.Math.Facts.{Fits-of_lt, sfits_to_z}
use Rattle.der_core.specs.declared.refusal.DerRefusal.{DerRefusal}
use Rattle.der_core.specs.declared.refusal.DerCause.TheVariants.{LengthForm, NotMinimal}
use Rattle.der_core.specs.Place.{refused}
use Rattle.der_core.specs.Integers.{sign_of, is_superfluous, extended, integer_of, shortest, integer, integer_in, IsInteger}
use Rattle.der_core.specs.Steps.{ok_is, guard_ok, IsBytes-behind}
use Rattle.der_core.specs.Laws.{IsBytes}

abbrev given : ℤ → Result ℤ DerRefusal
given n = Ok n

pub integer_found : (place : ℕ) (content : List ℕ) (n : ℤ) → integer_in place content ≡ Ok n → IsInteger content n
integer_found place [] n e = absurd cc
integer_found place (b ∷ bytes) n e =
    let long = guard_ok (ltb 7 (length bytes)) (record { cause = LengthForm; place = place }) (cond (is_superfluous b bytes) (refused NotMinimal place) (given (integer_of (b ∷ bytes)))) n e in
    let short = guard_ok (is_superfluous b bytes) (record { cause = NotMinimal; place = place }) (given (integer_of (b ∷ bytes))) n long.1 in
    let few : length bytes ≤ 7 = ltb-false _ _ long.0 in
    record {
      few = omega arith;
      short = rw short.0 refl;
      some = omega arith;
      value = ok_is (integer_of (b ∷ bytes)) n short.1;
    }

shortest_le : (bytes : List ℕ) → length (shortest bytes) ≤ length bytes
shortest_le [] = omega arith
shortest_le (b ∷ bytes) = by_test (is_superfluous b bytes) (shortest_le bytes)
  where
    by_test : (t : Bool) → length (shortest bytes) ≤ length bytes → length (cond t (shortest bytes) (b ∷ bytes)) ≤ suc (length bytes)
    by_test true rest = omega arith
    by_test false rest = omega arith

pub integer_only : (place : ℕ) (content : List ℕ) (n : ℤ) → IsInteger content n → integer_in place content ≡ Ok n
integer_only place [] n d = absurd (let h = d.some in omega arith)
integer_only place (b ∷ bytes) n d =
    let few : ltb 7 (length bytes) ≡ false = let h = d.few in le-ltb _ _ (omega arith) in
    let short : is_superfluous b bytes ≡ false = by_test (is_superfluous b bytes) d.short in
    rw (few, short) (ap given d.value)
  where
    by_test : (t : Bool) → cond t (shortest bytes) (b ∷ bytes) ≡ b ∷ bytes → t ≡ false
    by_test true e = absurd (let l = ap length e in omega (arith, shortest_le bytes))
    by_test false e = refl

-- what is left of some bytes is short
shortest_again : (bytes : List ℕ) → shortest (shortest bytes) ≡ shortest bytes
shortest_again [] = refl
shortest_again (b ∷ bytes) = by_test (is_superfluous b bytes) (shortest_again bytes) refl
  where
    by_test : (t : Bool) → shortest (shortest bytes) ≡ shortest bytes → is_superfluous b bytes ≡ t → shortest (cond t (shortest bytes) (b ∷ bytes)) ≡ cond t (shortest bytes) (b ∷ bytes)
    by_test true rest e = rest
    by_test false rest e = rw e refl

shortest_some : (bytes : List ℕ) → 0 < length bytes → 0 < length (shortest bytes)
shortest_some [] h = h
shortest_some (b ∷ []) h = omega arith
shortest_some (b ∷ (c ∷ bytes)) h = by_test (is_superfluous b (c ∷ bytes)) (shortest_some (c ∷ bytes) (omega arith))
  where
    by_test : (t : Bool) → 0 < length (shortest (c ∷ bytes)) → 0 < length (cond t (shortest (c ∷ bytes)) (b ∷ (c ∷ bytes)))
    by_test true rest = rest
    by_test false rest = omega arith

one_more : (k s : ℕ) (bytes : List ℕ) → replicate k s ++ s ∷ bytes ≡ s ∷ (replicate k s ++ bytes)
one_more zero s bytes = refl
one_more (suc k) s bytes = ap (λ (x : List ℕ). s ∷ x) (one_more k s bytes)

sign_again : (c : ℕ) → sign_of (sign_of c) ≡ sign_of c
sign_again c = elim (cases_lt c 128) [ inl lt ↦ rw (lt-ltb _ _ lt) refl | inr le ↦ rw (le-ltb _ _ le) refl ]

extended_shortest : (bytes : List ℕ) → length bytes ≤ 8 → extended (shortest bytes) ≡ extended bytes
extended_shortest [] few = refl
extended_shortest (b ∷ []) few = refl
extended_shortest (b ∷ (c ∷ bytes)) few = by_test (eqb b (sign_of c)) (extended_shortest (c ∷ bytes) (omega arith)) refl
  where
    by_test : (t : Bool) → extended (shortest (c ∷ bytes)) ≡ extended (c ∷ bytes) → eqb b (sign_of c) ≡ t → extended (cond t (shortest (c ∷ bytes)) (b ∷ (c ∷ bytes))) ≡ extended (b ∷ (c ∷ bytes))
    by_test false rest e = refl
    by_test true rest e =
        let s : ℕ = sign_of c in
        let b-is : b ≡ s = eqb-true _ _ e in
        let k : 7 - length bytes ≡ suc (7 - suc (length bytes)) = omega arith in
        rest
        ∙ ap (λ (m : ℕ). replicate m s ++ c ∷ bytes) k
        ∙ sym (one_more (7 - suc (length bytes)) s (c ∷ bytes))
        ∙ ap (λ (x : ℕ). replicate (7 - suc (length bytes)) x ++ s ∷ c ∷ bytes) (sym (sign_again c) ∙ ap sign_of (sym b-is))
        ∙ ap (λ (x : ℕ). replicate (7 - suc (length bytes)) (sign_of b) ++ x ∷ c ∷ bytes) (sym b-is)

eight_extended : (bytes : List ℕ) → length bytes ≡ 8 → extended bytes ≡ bytes
eight_extended [] e = refl
eight_extended (b ∷ bytes) e = ap (λ (k : ℕ). replicate k (sign_of b) ++ b ∷ bytes) (let z : 7 - length bytes ≡ 0 = omega arith in z)

pub integer_spelt : (n : ℤ) → FitsSigned w64 n → IsInteger (integer n) n
unfolding integer
integer_spelt n fits =
    let bytes : List ℕ = to_be_bytes w64 (cast_unsigned w64 n) in
    let few : length (shortest bytes) ≤ length bytes = shortest_le bytes in
    let eight : extended (shortest bytes) ≡ bytes = extended_shortest bytes (omega arith) ∙ eight_extended bytes refl in
    record {
      few = few;
      short = shortest_again bytes;
      some = shortest_some bytes (omega arith);
      value = ap (λ (b : List ℕ). cast_signed w64 (from_be_bytes w64 b)) eight ∙ ap (cast_signed w64) (from_be_bytes-to_be_bytes_8 (cast_unsigned w64 n) (omega (arith, ints))) ∙ to_z-of_z w64 n fits;
    }

-- bytes of the number before a number's bytes say nothing
shortest_extended : (k : ℕ) (b : ℕ) (bytes : List ℕ) → shortest (replicate k (sign_of b) ++ b ∷ bytes) ≡ shortest (b ∷ bytes)
shortest_extended zero b bytes = refl
shortest_extended (suc zero) b bytes = rw (eq-eqb (sign_of b) (sign_of b) refl) refl
shortest_extended (suc (suc k)) b bytes = rw (eq-eqb (sign_of b) (sign_of (sign_of b)) (sym (sign_again b))) (shortest_extended (suc k) b bytes)

IsBytes-extended : (content : List ℕ) → IsBytes content → IsBytes (extended content)
IsBytes-extended [] fits = fits
IsBytes-extended (b ∷ bytes) fits = IsBytes-behind (7 - length bytes) (sign_of b) (b ∷ bytes) (small b) fits
  where
    small : (b : ℕ) → sign_of b < 256
    small b = elim (cases_lt b 128) [ inl lt ↦ rw (lt-ltb _ _ lt) (omega arith) | inr le ↦ rw (le-ltb _ _ le) (omega arith) ]

below_64 : (bytes : List ℕ) → IsBytes bytes → from_be_bytes w64 bytes < 2 ^ 64
below_64 bytes fits = omega (arith, fits 0, fits 1, fits 2, fits 3, fits 4, fits 5, fits 6, fits 7)

of_shortest : (content : List ℕ) → length content ≤ 8 → IsBytes content → 0 < length content → integer (integer_of content) ≡ shortest content
unfolding integer
of_shortest [] few fits some = absurd (omega arith)
of_shortest (b ∷ bytes) few fits some =
    let eight : List ℕ = extended (b ∷ bytes) in
    let fits8 : IsBytes eight = IsBytes-extended (b ∷ bytes) fits in
    let len8 : length eight ≡ 8 = length-append (replicate (7 - length bytes) (sign_of b)) (b ∷ bytes) ∙ omega (arith, length-replicate {A = ℕ} (7 - length bytes) (sign_of b)) in
    let back : cast_unsigned w64 (integer_of (b ∷ bytes)) ≡ from_be_bytes w64 eight = of_z-to_z w64 (from_be_bytes w64 eight) (below_64 eight fits8) in
    let bytes8 : to_be_bytes w64 (from_be_bytes w64 eight) ≡ eight = be_bytes_8 eight (from_be_bytes w64 eight) len8 fits8 refl in
    ap (λ (n : ℕ). shortest (to_be_bytes w64 n)) back ∙ ap shortest bytes8 ∙ shortest_extended (7 - length bytes) b bytes

pub integer_fits : (content : List ℕ) (n : ℤ) → IsBytes content → IsInteger content n → FitsSigned w64 n
integer_fits content n fits d =
    subst (λ (m : ℤ). FitsSigned w64 m) d.value (sfits_to_z {w = w64} {n = from_be_bytes w64 (extended content)} (Fits-of_lt (below_64 (extended content) (IsBytes-extended content fits))))

-- an integer has one content
pub integer_one : (content : List ℕ) (n : ℤ) → IsBytes content → IsInteger content n → integer n ≡ content
integer_one content n fits d = ap integer (sym d.value) ∙ of_shortest content d.few fits d.some ∙ d.short

pub integer_no_longer : (content : List ℕ) (n : ℤ) → IsBytes content → IsInteger content n → length (integer n) ≤ 3 * length content + 2
integer_no_longer content n fits d = omega (arith, ap length (integer_one content n fits d))

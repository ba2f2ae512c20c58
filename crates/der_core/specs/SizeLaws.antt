-- Lengths are read as they are spelt.
use Rattle.std.proofs.Common.{◌≡◌, ℕ, ◌+◌, ◌-◌, ◌*◌, ◌<◌, ◌≤◌, ◌^◌, Bool, true, false, cond, not, ◌||◌, ltb, eqb, List, [], ◌∷◌, ◌++◌, length, take, drop, replicate, Result, Ok, refl, sym, ap, subst, ◌∙◌, arith, inl, inr, ◌⊎◌}
use Rattle.std.specs.Int.{w32, to_be_bytes, from_be_bytes}
use Rattle.std.proofs.lemmas.Bool.{cases_lt, ltb-true, ltb-false, lt-ltb, le-ltb, eqb-true, eqb-false, eq-eqb, ne_eqb}
use Rattle.std.proofs.lemmas.Bool.Decides.{nat_tests}
use Rattle.std.proofs.lemmas.List.{take_at, drop_at, length-replicate, length-append, length-take, length-drop, take-append-drop}
use Rattle.std.proofs.lemmas.Nat.{be_bytes_4, from_be_bytes-to_be_bytes_4}
use Rattle.der_core.specs.declared.refusal.DerRefusal.{DerRefusal}
use Rattle.der_core.specs.declared.refusal.DerCause.TheVariants.{Truncated, LengthForm, NotMinimal}
use Rattle.der_core.specs.Place.{refused}
use Rattle.der_core.specs.Sizes.{width_of, size, number_of, long_size_at, size_at}
use Rattle.der_core.specs.Laws.{IsBytes}
use Rattle.der_core.specs.Steps.{chosen, good, ok_is, guard_ok, neither, IsBytes-behind, IsBytes-front, IsBytes-rest}

pub width_within : (n : ℕ) → (1 ≤ width_of n) × (width_of n ≤ 4)
width_within n = grind (arith, nat_tests)

-- the last bytes of a number are the number
pub number_of_digits : (n : ℕ) → n < 2 ^ 32 → number_of (drop (4 - width_of n) (to_be_bytes w32 n)) ≡ n
number_of_digits n h =
    elim (cases_lt n 256) [
      | inl a ↦ rw (lt-ltb _ _ a) (omega arith)
      | inr a ↦ elim (cases_lt n 65536) [
        | inl b ↦ rw (le-ltb _ _ a, lt-ltb _ _ b) (omega arith)
        | inr b ↦ elim (cases_lt n 16777216) [
          | inl c ↦ rw (le-ltb _ _ a, le-ltb _ _ b, lt-ltb _ _ c) (omega arith)
          | inr c ↦ rw (le-ltb _ _ a, le-ltb _ _ b, le-ltb _ _ c) (from_be_bytes-to_be_bytes_4 n h)
        ]
      ]
    ]

pub size_long : (n : ℕ) → 128 ≤ n → size n ≡ (128 + width_of n) ∷ drop (4 - width_of n) (to_be_bytes w32 n)
unfolding size
size_long n h = rw (le-ltb _ _ h) refl

pub size_short : (n : ℕ) → n < 128 → size n ≡ n ∷ []
unfolding size
size_short n h = rw (lt-ltb _ _ h) refl

long_only : (place n w : ℕ) (digits rest : List ℕ) → 128 ≤ n → width_of n ≡ w → 1 ≤ w → w ≤ 4 → length digits ≡ w → number_of digits ≡ n
    → size_at place ((128 + w) ∷ (digits ++ rest)) ≡ Ok (n, w + 1)
unfolding size_at
long_only place n w digits rest big width some few len number =
    let t0 : 128 + w - 128 ≡ w = omega arith in
    let t1 : ltb (128 + w) 128 ≡ false = le-ltb _ _ (omega arith) in
    let t2 : eqb (128 + w) 128 ≡ false = ne_eqb _ _ (λ e. omega arith) in
    let t3 : ltb 132 (128 + w) ≡ false = le-ltb _ _ (omega arith) in
    let t4 : ltb (length (digits ++ rest)) w ≡ false = le-ltb _ _ (omega (arith, length-append digits rest)) in
    let t5 : ltb n 128 ≡ false = le-ltb _ _ big in
    let t6 : eqb (width_of n) w ≡ true = eq-eqb _ _ width in
    rw (t1, t2, t3, t0, t4, take_at digits rest w len, number, t5, t6) refl

pub size_only : (place n : ℕ) (rest : List ℕ) → n < 2 ^ 32 → size_at place (size n ++ rest) ≡ Ok (n, length (size n))
unfolding size_at
size_only place n rest h =
    elim (cases_lt n 128) [
      | inl a ↦ rw (size_short n a, lt-ltb _ _ a) refl
      | inr a ↦
          let w = width_within n in
          let len : length (drop (4 - width_of n) (to_be_bytes w32 n)) ≡ width_of n = length-drop (4 - width_of n) (to_be_bytes w32 n) ∙ omega arith in
          let one = long_only place n (width_of n) (drop (4 - width_of n) (to_be_bytes w32 n)) rest a refl w.0 w.1 len (number_of_digits n h) in
          rw (size_long n a) (one ∙ ap (λ (k : ℕ). good (n, k + 1)) (sym len) ∙ ap (λ (k : ℕ). good (n, k)) (omega arith))
    ]

-- a length was read
pub record FindsSize (bytes : List ℕ) (n k : ℕ) : Type 0 where
  pub rest : List ℕ
  pub whole : bytes ≡ size n ++ rest
  pub width : k ≡ length (size n)
  pub below : n < 2 ^ 32

not_no : (b : Bool) → not b ≡ false → b ≡ true
not_no true e = refl
not_no false e = absurd cc

pub below_32 : (bytes : List ℕ) → IsBytes bytes → from_be_bytes w32 bytes < 2 ^ 32
below_32 bytes fits = omega (arith, fits 0, fits 1, fits 2, fits 3)

long_found : (place n k m j : ℕ) (digits rest : List ℕ) → IsBytes digits → 1 ≤ j → j ≤ 4 → length digits ≡ j → number_of digits ≡ m
    → long_size_at place j m ≡ Ok (n, k) → FindsSize ((128 + j) ∷ (digits ++ rest)) n k
long_found place n k m j digits rest fits some few len number e =
    let g = guard_ok (ltb m 128 || not (eqb (width_of m) j)) (record { cause = NotMinimal; place = place }) (good (m, j + 1)) (n, k) e in
    let tests = neither (ltb m 128) (not (eqb (width_of m) j)) g.0 in
    let big : 128 ≤ m = ltb-false _ _ tests.0 in
    let width : width_of m ≡ j = eqb-true _ _ (not_no (eqb (width_of m) j) tests.1) in
    let zeros : number_of digits ≡ from_be_bytes w32 (replicate (4 - j) 0 ++ digits) = ap (λ (l : ℕ). from_be_bytes w32 (replicate (4 - l) 0 ++ digits)) len in
    let four : List ℕ = replicate (4 - j) 0 ++ digits in
    let fits4 = IsBytes-behind (4 - j) 0 digits (omega arith) fits in
    let len4 : length four ≡ 4 = length-append (replicate (4 - j) 0) digits ∙ omega (arith, length-replicate {A = ℕ} (4 - j) 0) in
    let m-is : m ≡ from_be_bytes w32 four = sym number ∙ zeros in
    let back : to_be_bytes w32 m ≡ four = be_bytes_4 four m len4 fits4 m-is in
    let spelt : size m ≡ (128 + j) ∷ digits = size_long m big ∙ ap (λ (w : ℕ). (128 + w) ∷ drop (4 - w) (to_be_bytes w32 m)) width ∙ ap (λ (b : List ℕ). (128 + j) ∷ drop (4 - j) b) back ∙ ap (λ (d : List ℕ). (128 + j) ∷ d) (drop_at (replicate (4 - j) 0) digits (4 - j) (length-replicate {A = ℕ} (4 - j) 0)) in
    let made : FindsSize ((128 + j) ∷ (digits ++ rest)) m (j + 1) = record {
      rest = rest;
      whole = ap (λ (s : List ℕ). s ++ rest) (sym spelt);
      width = omega (arith, len) ∙ sym (ap length spelt);
      below = subst (λ (x : ℕ). x < 2 ^ 32) (sym m-is) (below_32 four fits4);
    } in
    subst (λ (p : ℕ × ℕ). FindsSize ((128 + j) ∷ (digits ++ rest)) p.0 p.1) (ok_is (m, j + 1) (n, k) g.1) made

pub size_found : (place n k : ℕ) (bytes : List ℕ) → IsBytes bytes → size_at place bytes ≡ Ok (n, k) → FindsSize bytes n k
unfolding size_at
size_found place n k [] fits e = absurd cc
size_found place n k (b ∷ bytes) fits e = by_first (chosen (ltb b 128) (good one_byte) (cond (eqb b 128 || ltb 132 b) (refused LengthForm place) long) (Ok (n, k)) e)
  where
    one_byte : ℕ × ℕ
    one_byte = (b, 1)

    long : Result (ℕ × ℕ) DerRefusal
    long = cond (ltb (length bytes) (b - 128)) (refused Truncated (place + 1 + length bytes)) (long_size_at place (b - 128) (number_of (take (b - 128) bytes)))

    by_first : ((ltb b 128 ≡ true) × (good one_byte ≡ Ok (n, k))) ⊎ ((ltb b 128 ≡ false) × (cond (eqb b 128 || ltb 132 b) (refused LengthForm place) long ≡ Ok (n, k))) → FindsSize (b ∷ bytes) n k
    by_first (inl p) =
        let spelt = size_short b (ltb-true _ _ p.0) in
        let small : b < 128 = ltb-true _ _ p.0 in
        subst (λ (x : ℕ × ℕ). FindsSize (b ∷ bytes) x.0 x.1) (ok_is one_byte (n, k) p.1) (record { rest = bytes; whole = ap (λ (s : List ℕ). s ++ bytes) (sym spelt); width = sym (ap length spelt); below = omega arith })
    by_first (inr p) =
        let form = guard_ok (eqb b 128 || ltb 132 b) (record { cause = LengthForm; place = place }) long (n, k) p.1 in
        let there = guard_ok (ltb (length bytes) (b - 128)) (record { cause = Truncated; place = place + 1 + length bytes }) _ (n, k) form.1 in
        let tests = neither (eqb b 128) (ltb 132 b) form.0 in
        let low : 128 ≤ b = ltb-false _ _ p.0 in
        let high : b ≤ 132 = ltb-false _ _ tests.1 in
        let more : 1 ≤ b - 128 = elim (cases_lt 128 b) [ inl lt ↦ omega arith | inr le ↦ absurd (eqb-false _ _ tests.0 (omega arith)) ] in
        let enough : b - 128 ≤ length bytes = ltb-false _ _ there.0 in
        let parts : take (b - 128) bytes ++ drop (b - 128) bytes ≡ bytes = take-append-drop (b - 128) bytes in
        let own : IsBytes bytes = IsBytes-rest (b ∷ []) bytes fits in
        let found = long_found place n k (number_of (take (b - 128) bytes)) (b - 128) (take (b - 128) bytes) (drop (b - 128) bytes)
        (IsBytes-front (take (b - 128) bytes) (drop (b - 128) bytes) (subst IsBytes (sym parts) own))
        more (omega arith) (length-take (b - 128) bytes ∙ omega arith) refl there.1 in
        let first : 128 + (b - 128) ≡ b = omega arith in
        subst (λ (x : List ℕ). FindsSize (b ∷ x) n k) parts (subst (λ (x : ℕ). FindsSize (x ∷ (take (b - 128) bytes ++ drop (b - 128) bytes)) n k) first found)

length_size : (n : ℕ) → length (size n) ≡ cond (ltb n 128) 1 (1 + width_of n)
length_size n =
    elim (cases_lt n 128) [
      | inl a ↦ rw (lt-ltb _ _ a) (ap length (size_short n a))
      | inr a ↦
          let w = width_within n in
          rw (le-ltb _ _ a) (ap length (size_long n a) ∙ omega (arith, length-drop (4 - width_of n) (to_be_bytes w32 n)))
    ]

-- a length that is at most three times as large has a header at most three times as long
pub size_no_longer : (n m : ℕ) → m ≤ 3 * n + 2 → length (size m) ≤ 3 * length (size n)
size_no_longer n m le = grind (arith, nat_tests, length_size n, length_size m)

-- a length that is no larger has a header that is no longer
pub size_le : (n m : ℕ) → m ≤ n → length (size m) ≤ length (size n)
size_le n m le = grind (arith, nat_tests, length_size n, length_size m)

-- a length that is little larger has a header that is at most a byte longer
pub size_near : (n m : ℕ) → m ≤ n + 100 → length (size m) ≤ length (size n) + 1
size_near n m le = grind (arith, nat_tests, length_size n, length_size m)

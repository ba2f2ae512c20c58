-- Bits of bytes, and the numbers that they stand for.
use Rattle.std.proofs.Common.{◌≡◌, ℕ, zero, suc, ◌+◌, ◌-◌, ◌*◌, ◌/◌, ◌%◌, ◌^◌, ◌<◌, ◌≤◌, List, [], ◌∷◌, ◌++◌, length, map, take, drop, refl, ap, sym, ◌∙◌, arith, append_assoc, subst}
use Rattle.std.proofs.lemmas.List.{drop_at, length-append, length-drop, length-take, length-take-le, drop-append-le, take-append-le, take-append-drop, drop-drop}
use Rattle.std.proofs.lemmas.Nat.{pow-add}
use Rattle.std.proofs.lemmas.Nat.Bits.{bit_at-lt}
use Rattle.std.specs.List.{range_with_len, concat}
use Rattle.std.specs.Simd.Lanes.{Each1}
use Rattle.aes_core.proofs.Inverse.{at_each}
use Rattle.krb_crypto.specs.Folding.{byte_bits, bits, binary, rotated, copies, piece}
use native.Mathlib.Nat.{pow-le-pow_right}
use Rattle.krb_crypto.proofs.Parts.{take_across}

abbrev pub IsBit : ℕ → Type 0
IsBit b = b < 2

pub binary-append : (a b : List ℕ) → binary (a ++ b) ≡ binary a * 2 ^ length b + binary b
unfolding binary
binary-append [] b = omega arith
binary-append (x ∷ a) b =
    let here : 2 ^ length (a ++ b) ≡ 2 ^ length a * 2 ^ length b = ap (λ n. 2 ^ n) (length-append a b) ∙ pow-add 2 (length a) (length b) in
    (λ i. x * here i + binary-append a b i) ∙ omega arith

pub binary-lt : (bs : List ℕ) → Each1 IsBit bs → binary bs < 2 ^ length bs
unfolding binary
binary-lt [] h = omega arith
binary-lt (b ∷ bs) h =
    let rest : binary bs < 2 ^ length bs = binary-lt bs h.1 in
    let whole : 2 ^ suc (length bs) ≡ 2 * 2 ^ length bs = omega arith in
    first_bit b (binary bs) (2 ^ length bs) (2 ^ suc (length bs)) h.0 rest whole
  where
    first_bit : (b n p q : ℕ) → b < 2 → n < p → q ≡ 2 * p → b * p + n < q
    first_bit zero n p q h l e = omega arith
    first_bit (suc zero) n p q h l e = omega arith
    first_bit (suc (suc b)) n p q h l e = absurd (omega arith)

each-take : (n : ℕ) (s : List ℕ) → Each1 IsBit s → Each1 IsBit (take n s)
each-take zero s h = tt
each-take (suc n) [] h = tt
each-take (suc n) (x ∷ s) h = (h.0, each-take n s h.1)

each-drop : (n : ℕ) (s : List ℕ) → Each1 IsBit s → Each1 IsBit (drop n s)
each-drop zero s h = h
each-drop (suc n) [] h = tt
each-drop (suc n) (x ∷ s) h = each-drop n s h.1

each-byte_bits : (x : ℕ) → Each1 IsBit (byte_bits x)
each-byte_bits x = (bit_at-lt x 7, (bit_at-lt x 6, (bit_at-lt x 5, (bit_at-lt x 4, (bit_at-lt x 3, (bit_at-lt x 2, (bit_at-lt x 1, (bit_at-lt x 0, tt))))))))

each-append : (a b : List ℕ) → Each1 IsBit a → Each1 IsBit b → Each1 IsBit (a ++ b)
each-append [] b ha hb = hb
each-append (x ∷ a) b ha hb = (ha.0, each-append a b ha.1 hb)

each-bits : (s : List ℕ) → Each1 IsBit (bits s)
unfolding bits
each-bits [] = tt
each-bits (x ∷ s) = each-append (byte_bits x) (bits s) (each-byte_bits x) (each-bits s)

each-rotated : (k : ℕ) (bs : List ℕ) → Each1 IsBit bs → Each1 IsBit (rotated k bs)
each-rotated k bs h =
    let cut : ℕ = length bs - k % length bs in
    each-append (drop cut bs) (take cut bs) (each-drop cut bs h) (each-take cut bs h)

each-concat : (g : ℕ → List ℕ) (from n : ℕ) → ((j : ℕ) → Each1 IsBit (g j)) → Each1 IsBit (concat (map g (range_with_len from n)))
each-concat g from zero h = tt
each-concat g from (suc n) h = each-append (g from) (concat (map g (range_with_len (from + 1) n))) (h from) (each-concat g (from + 1) n h)

-- a part of the copies of a text is below the power of two that has its length
pub piece-below : (n j count : ℕ) (text : List ℕ) → piece n (copies count (bits text)) j < 2 ^ n
unfolding copies
piece-below n j count text =
    let all : List ℕ = concat (map (λ i. rotated (13 * i) (bits text)) (range_with_len 0 count)) in
    let part : List ℕ = take n (drop (n * j) all) in
    let each : Each1 IsBit part = each-take n (drop (n * j) all) (each-drop (n * j) all (each-concat (λ i. rotated (13 * i) (bits text)) 0 count (λ i. each-rotated (13 * i) (bits text) (each-bits text)))) in
    let short : length part ≤ n = omega (arith, length-take n (drop (n * j) all)) in
    let power : 2 ^ length part ≤ 2 ^ n = pow-le-pow_right (omega arith) short in
    let small : binary part < 2 ^ length part = binary-lt part each in
    omega arith

byte_table : map (λ x. binary (byte_bits x)) (range_with_len 0 256) ≡ map (λ x. x) (range_with_len 0 256)
unfolding binary
byte_table = refl

pub binary-byte : (x : ℕ) → x < 256 → binary (byte_bits x) ≡ x
binary-byte = at_each (λ x. binary (byte_bits x)) (λ x. x) 256 byte_table

pub bits-append : (s t : List ℕ) → bits (s ++ t) ≡ bits s ++ bits t
unfolding bits
bits-append [] t = refl
bits-append (x ∷ s) t = ap (λ r. byte_bits x ++ r) (bits-append s t) ∙ sym (append_assoc (byte_bits x) (bits s) (bits t))

pub length-bits : (s : List ℕ) → length (bits s) ≡ 8 * length s
unfolding bits
length-bits [] = refl
length-bits (x ∷ s) = length-append (byte_bits x) (bits s) ∙ omega (arith, length-bits s)

pub drop-bits : (q : ℕ) (s : List ℕ) → q ≤ length s → drop (8 * q) (bits s) ≡ bits (drop q s)
unfolding bits
drop-bits zero s h = refl
drop-bits (suc q) [] h = absurd (omega arith)
drop-bits (suc q) (x ∷ s) h =
    let more : 8 * suc q ≡ 8 + 8 * q = omega arith in
    (λ i. drop (more i) (byte_bits x ++ bits s)) ∙ sym (drop-drop (8 * q) 8 (byte_bits x ++ bits s))
    ∙ ap (drop (8 * q)) (drop_at (byte_bits x) (bits s) 8 refl) ∙ drop-bits q s (omega arith)

-- the middle of two bytes, as a shift reads it
shift_at : (s a b c d x y : ℕ) → s < 8 → b < 2 ^ (8 - s) → c < 2 ^ s → d < 2 ^ (8 - s) → x ≡ a * 2 ^ (8 - s) + b → y ≡ c * 2 ^ (8 - s) + d
    → (256 * x + y) / 2 ^ (8 - s) % 256 ≡ b * 2 ^ s + c
shift_at zero a b c d x y h lb lc ld ex ey = omega arith
shift_at (suc zero) a b c d x y h lb lc ld ex ey = omega arith
shift_at (suc (suc zero)) a b c d x y h lb lc ld ex ey = omega arith
shift_at (suc (suc (suc zero))) a b c d x y h lb lc ld ex ey = omega arith
shift_at (suc (suc (suc (suc zero)))) a b c d x y h lb lc ld ex ey = omega arith
shift_at (suc (suc (suc (suc (suc zero))))) a b c d x y h lb lc ld ex ey = omega arith
shift_at (suc (suc (suc (suc (suc (suc zero)))))) a b c d x y h lb lc ld ex ey = omega arith
shift_at (suc (suc (suc (suc (suc (suc (suc zero))))))) a b c d x y h lb lc ld ex ey = omega arith
shift_at (suc (suc (suc (suc (suc (suc (suc (suc s)))))))) a b c d x y h lb lc ld ex ey = absurd (omega arith)

binary_below : (bs : List ℕ) (n : ℕ) → length bs ≡ n → Each1 IsBit bs → binary bs < 2 ^ n
binary_below bs n e each = subst (λ k. binary bs < 2 ^ k) e (binary-lt bs each)

-- eight bits from bit s of a byte on, with another byte after it
pub window : (s x y : ℕ) (rest : List ℕ) → s < 8 → x < 256 → y < 256
    → binary (take 8 (drop s (byte_bits x ++ (byte_bits y ++ rest)))) ≡ (256 * x + y) / 2 ^ (8 - s) % 256
window s x y rest h hx hy =
    let xs : List ℕ = byte_bits x in
    let ys : List ℕ = byte_bits y in
    let lb : length (drop s xs) ≡ 8 - s = length-drop s xs in
    let la : length (take s xs) ≡ s = length-take-le s xs (omega arith) in
    let lc : length (take s ys) ≡ s = length-take-le s ys (omega arith) in
    let ld : length (drop s ys) ≡ 8 - s = length-drop s ys in
    let eight : 8 ≡ 8 - s + s = omega arith in
    let bits_x : binary (take s xs) * 2 ^ (8 - s) + binary (drop s xs) ≡ x =
    (λ i. binary (take s xs) * 2 ^ sym lb i + binary (drop s xs)) ∙ sym (binary-append (take s xs) (drop s xs)) ∙ ap binary (take-append-drop s xs) ∙ binary-byte x hx in
    let bits_y : binary (take s ys) * 2 ^ (8 - s) + binary (drop s ys) ≡ y =
    (λ i. binary (take s ys) * 2 ^ sym ld i + binary (drop s ys)) ∙ sym (binary-append (take s ys) (drop s ys)) ∙ ap binary (take-append-drop s ys) ∙ binary-byte y hy in
    ap (λ t. binary (take 8 t)) (drop-append-le s xs (ys ++ rest) (omega arith))
    ∙ (λ i. binary (take (eight i) (drop s xs ++ (ys ++ rest))))
    ∙ ap binary (take_across (drop s xs) (ys ++ rest) (8 - s) s lb)
    ∙ ap (λ t. binary (drop s xs ++ t)) (take-append-le s ys rest (omega arith))
    ∙ binary-append (drop s xs) (take s ys)
    ∙ (λ i. binary (drop s xs) * 2 ^ lc i + binary (take s ys))
    ∙ sym (shift_at s (binary (take s xs)) (binary (drop s xs)) (binary (take s ys)) (binary (drop s ys)) x y h (binary_below (drop s xs) (8 - s) lb (each-drop s xs (each-byte_bits x))) (binary_below (take s ys) s lc (each-take s ys (each-byte_bits y))) (binary_below (drop s ys) (8 - s) ld (each-drop s ys (each-byte_bits y))) (sym bits_x) (sym bits_y))

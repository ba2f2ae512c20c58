-- Numbers that are added byte by byte, and as ones' complement numbers.
use Rattle.std.proofs.Common.{◌≡◌, ℕ, zero, suc, ◌+◌, ◌-◌, ◌*◌, ◌/◌, ◌%◌, ◌^◌, ◌<◌, ◌≤◌, List, [], ◌∷◌, ◌++◌, length, map, take, drop, get_or, set, replicate, Fits, w8, refl, ap, sym, ◌∙◌, arith, subst, nat_lt, true, false, cond}
use Rattle.std.proofs.lemmas.Bool.{lt-ltb, le-ltb}
use Rattle.std.proofs.lemmas.List.{length-take-le, length-drop, take-set, take-take, drop-set, drop_more, get_or-take, drop-drop, take-append-drop, length-append}
use Rattle.std.proofs.lemmas.Nat.{pow-add}
use native.Mathlib.Nat.{mod-add-div, mul-add-div_right, mul-add-mod_self_left, mul-le-mul_right, one-le-pow, div-eq_of_lt, mod-eq_of_lt}
use Rattle.aes_core.specs.Inverses.{AreBytes}
use Rattle.krb_crypto.specs.BytesValue.{bytes_value}
use Rattle.krb_crypto.specs.Folding.{binary, big_endian, ones_sum, piece, sum_of_pieces, copies, bits, rotated}
use Rattle.krb_crypto.proofs.BitLists.{binary-append, length-bits, piece-below}
use Rattle.krb_crypto.proofs.Copies.{length-rotated}
use Rattle.std.specs.List.{range_with_len, concat}
use Rattle.krb_crypto.proofs.Parts.{take_across}

digit : (s a carry t p v v0 va c0 : ℕ) → t ≡ s + a + carry → v + carry * p ≡ v0 + va + c0
    → t % 256 * p + v + t / 256 * (256 * p) ≡ s * p + v0 + (a * p + va) + c0
digit s a carry t p v v0 va c0 et e =
    let parts : (t % 256 + 256 * (t / 256)) * p ≡ (s + a + carry) * p = ap (λ z. z * p) (mod-add-div t 256 ∙ et) in
    omega (arith, parts)

-- one more byte of a list, from its end
value_more : (xs : List ℕ) (i : ℕ) → i < length xs → bytes_value (drop i xs) ≡ get_or xs i 0 * 256 ^ (length xs - (i + 1)) + bytes_value (drop (i + 1) xs)
value_more xs i h =
    let rest : length (drop (i + 1) xs) ≡ length xs - (i + 1) = length-drop (i + 1) xs in
    ap bytes_value (drop_more xs i 0 h) ∙ (λ t. get_or xs i 0 * 256 ^ rest t + bytes_value (drop (i + 1) xs))

-- what a sum keeps while it is added to, down to index p
pub record IsSumFrom (s s0 a : List ℕ) (p carry c0 : ℕ) : Type 0 where
  pub front : take p s ≡ take p s0
  pub back : bytes_value (drop p s) + carry * 256 ^ (length s0 - p) ≡ bytes_value (drop p s0) + bytes_value (drop p a) + c0

pub sum_more : (s s0 a : List ℕ) (i carry c0 t : ℕ) → length s ≡ length s0 → length a ≡ length s0 → i < length s0
    → take (i + 1) s ≡ take (i + 1) s0 → bytes_value (drop (i + 1) s) + carry * 256 ^ (length s0 - (i + 1)) ≡ bytes_value (drop (i + 1) s0) + bytes_value (drop (i + 1) a) + c0
    → t ≡ get_or s i 0 + get_or a i 0 + carry
    → (take i (set s i (t % 256)) ≡ take i s0)
    × (bytes_value (drop i (set s i (t % 256))) + t / 256 * 256 ^ (length s0 - i) ≡ bytes_value (drop i s0) + bytes_value (drop i a) + c0)
sum_more s s0 a i carry c0 t ls la h front back et =
    let k : ℕ = length s0 - (i + 1) in
    let p : ℕ = 256 ^ k in
    let same : get_or s i 0 ≡ get_or s0 i 0 = sym (get_or-take (i + 1) s i 0 (omega arith)) ∙ ap (λ xs. get_or xs i 0) front ∙ get_or-take (i + 1) s0 i 0 (omega arith) in
    let rest : length (drop (i + 1) s) ≡ k = length-drop (i + 1) s ∙ (λ j. ls j - (i + 1)) in
    let ka : length a - (i + 1) ≡ k = λ j. la j - (i + 1) in
    let more : length s0 - i ≡ suc k = omega arith in
    let power : 256 ^ (length s0 - i) ≡ 256 * p = (λ j. 256 ^ more j) ∙ omega arith in
    let new : bytes_value (drop i (set s i (t % 256))) ≡ t % 256 * p + bytes_value (drop (i + 1) s) =
    ap bytes_value (drop-set s i (t % 256) (omega arith)) ∙ (λ j. t % 256 * 256 ^ rest j + bytes_value (drop (i + 1) s)) in
    let old : bytes_value (drop i s0) ≡ get_or s i 0 * p + bytes_value (drop (i + 1) s0) = value_more s0 i h ∙ (λ j. sym same j * p + bytes_value (drop (i + 1) s0)) in
    let added : bytes_value (drop i a) ≡ get_or a i 0 * p + bytes_value (drop (i + 1) a) = value_more a i (omega arith) ∙ (λ j. get_or a i 0 * 256 ^ ka j + bytes_value (drop (i + 1) a)) in (
      take-set s i (t % 256) ∙ sym (take-take i (i + 1) s (omega arith)) ∙ ap (take i) front ∙ take-take i (i + 1) s0 (omega arith),
      (λ j. new j + t / 256 * power j) ∙ digit (get_or s i 0) (get_or a i 0) carry t p (bytes_value (drop (i + 1) s)) (bytes_value (drop (i + 1) s0)) (bytes_value (drop (i + 1) a)) c0 et back
          ∙ (λ j. sym old j + sym added j + c0),
    )

power_256 : (n : ℕ) → 256 ^ n ≡ 2 ^ (8 * n)
power_256 zero = refl
power_256 (suc n) =
    let more : 8 * suc n ≡ 8 * n + 8 = omega arith in
    let up : 256 ^ suc n ≡ 256 ^ n * 256 = omega arith in
    up ∙ ap (λ x. x * 256) (power_256 n) ∙ sym (pow-add 2 (8 * n) 8) ∙ (λ j. 2 ^ sym more j)

-- bytes that are each eight bits
pub value_of_bits : (xs bs : List ℕ) → ((k : ℕ) → k < length xs → get_or xs k 0 ≡ binary (take 8 (drop (8 * k) bs))) → 8 * length xs ≤ length bs
    → bytes_value xs ≡ binary (take (8 * length xs) bs)
unfolding binary
value_of_bits [] bs each h = refl
value_of_bits (x ∷ xs) bs each h =
    let n : ℕ = length xs in
    let eight : length (take 8 bs) ≡ 8 = length-take-le 8 bs (omega arith) in
    let rest : length (drop 8 bs) ≡ length bs - 8 = length-drop 8 bs in
    let size : length (take (8 * n) (drop 8 bs)) ≡ 8 * n = length-take-le (8 * n) (drop 8 bs) (omega arith) in
    let later = λ (k : ℕ) (l : k < n).
    let at : 8 * suc k ≡ 8 + 8 * k = omega arith in
    each (suc k) (omega arith) ∙ (λ j. binary (take 8 (drop (at j) bs))) ∙ ap (λ t. binary (take 8 t)) (sym (drop-drop (8 * k) 8 bs)) in
    let whole : take (8 + 8 * n) bs ≡ take 8 bs ++ take (8 * n) (drop 8 bs) =
    ap (take (8 + 8 * n)) (sym (take-append-drop 8 bs)) ∙ take_across (take 8 bs) (drop 8 bs) 8 (8 * n) eight in
    let power : 256 ^ n ≡ 2 ^ (8 * n) = power_256 n in
    let all : 8 + 8 * n ≡ 8 * suc n = omega arith in
    (λ j. each 0 (omega arith) j * power j + value_of_bits xs (drop 8 bs) later (omega arith) j)
    ∙ (λ j. binary (take 8 bs) * 2 ^ sym size j + binary (take (8 * n) (drop 8 bs)))
    ∙ sym (binary-append (take 8 bs) (take (8 * n) (drop 8 bs)))
    ∙ ap binary (sym whole)
    ∙ (λ j. binary (take (all j) bs))

pub value-lt : (xs : List ℕ) → AreBytes xs → bytes_value xs < 256 ^ length xs
value-lt [] h = omega arith
value-lt (x ∷ xs) h = first_byte x (bytes_value xs) (256 ^ length xs) (256 ^ suc (length xs)) h.0 (value-lt xs h.1) (omega arith)
  where
    first_byte : (x v p q : ℕ) → x < 256 → v < p → q ≡ 256 * p → x * p + v < q
    first_byte x v p q hx hv e =
        let most : x * p ≤ 255 * p = mul-le-mul_right p (omega arith) in
        omega arith

-- the digits of a number do not read what stands above them
big_endian-add : (n z v : ℕ) → big_endian n (z * 256 ^ n + v) ≡ big_endian n v
unfolding big_endian
big_endian-add zero z v = refl
big_endian-add (suc n) z v =
    let p : ℕ = 256 ^ n in
    let pos : 0 < p = pow_pos_256 n in
    let power : 256 ^ suc n ≡ 256 * p = omega arith in
    let up : z * 256 ^ suc n + v ≡ 256 * z * p + v = (λ j. z * power j + v) ∙ omega arith in
    let head : (256 * z * p + v) / p % 256 ≡ v / p % 256 =
    ap (λ x. x % 256) (mul-add-div_right pos (256 * z) v) ∙ mul-add-mod_self_left 256 z (v / p) in
    (λ j. up j / p % 256 ∷ big_endian n (up j)) ∙ (λ j. head j ∷ big_endian-add n (256 * z) v j)
  where
    pow_pos_256 : (n : ℕ) → 0 < 256 ^ n
    pow_pos_256 n = one-le-pow n 256 (omega arith)

-- bytes are the digits of their number
pub big_endian-value : (xs : List ℕ) → AreBytes xs → big_endian (length xs) (bytes_value xs) ≡ xs
unfolding big_endian
big_endian-value [] h = refl
big_endian-value (x ∷ xs) h =
    let n : ℕ = length xs in
    let p : ℕ = 256 ^ n in
    let v : ℕ = bytes_value xs in
    let below : v < p = value-lt xs h.1 in
    let pos : 0 < p = omega arith in
    let none : v / p ≡ 0 = div-eq_of_lt below in
    let head : (x * p + v) / p % 256 ≡ x = ap (λ y. y % 256) (mul-add-div_right pos x v ∙ (λ j. x + none j)) ∙ ap (λ y. y % 256) (omega arith) ∙ mod-eq_of_lt h.0 in
    (λ j. head j ∷ (big_endian-add n x v ∙ big_endian-value xs h.1) j)

-- a sum whose carry goes round, of numbers of n bytes
pub carry_round : (n a b first carry second last : ℕ) → a < 256 ^ n → b < 256 ^ n → first < 256 ^ n → second < 256 ^ n → first + carry * 256 ^ n ≡ a + b
    → second + last * 256 ^ n ≡ first + carry → carry ≤ 1 → last ≤ 1 → second ≡ ones_sum (8 * n) a b
carry_round n a b first carry second last ha hb h1 h2 e1 e2 c1 c2 =
    let power : 2 ^ (8 * n) ≡ 256 ^ n = sym (power_256 n) in
    rw power (around (256 ^ n) a b first carry second last ha hb h1 h2 e1 e2 c1 c2)
  where
    around : (p a b first carry second last : ℕ) → a < p → b < p → first < p → second < p → first + carry * p ≡ a + b
        → second + last * p ≡ first + carry → carry ≤ 1 → last ≤ 1 → second ≡ cond (nat_lt (a + b) p) (a + b) (a + b - (p - 1))
    around p a b first zero second zero ha hb h1 h2 e1 e2 c1 c2 =
        let small : nat_lt (a + b) p ≡ true = lt-ltb (a + b) p (omega arith) in
        rw small (omega arith)
    around p a b first zero second (suc last) ha hb h1 h2 e1 e2 c1 c2 = absurd (omega arith)
    around p a b first (suc zero) second zero ha hb h1 h2 e1 e2 c1 c2 =
        let large : nat_lt (a + b) p ≡ false = le-ltb (a + b) p (omega arith) in
        rw large (omega arith)
    around p a b first (suc zero) second (suc last) ha hb h1 h2 e1 e2 c1 c2 = absurd (omega arith)
    around p a b first (suc (suc carry)) second last ha hb h1 h2 e1 e2 c1 c2 = absurd (omega arith)

pub sum_of_pieces_more : (n j : ℕ) (bs : List ℕ) (x y z : ℕ) → x ≡ sum_of_pieces n j bs → y ≡ piece n bs j → z ≡ ones_sum n x y → z ≡ sum_of_pieces n (j + 1) bs
unfolding sum_of_pieces
sum_of_pieces_more n j bs x y z ex ey ez =
    let more : suc j ≡ j + 1 = omega arith in
    ez ∙ (λ t. ones_sum n (ex t) (ey t)) ∙ (λ t. sum_of_pieces n (more t) bs)

pub value-zeros : (n : ℕ) → bytes_value (replicate n 0) ≡ 0
value-zeros zero = refl
value-zeros (suc n) = omega (arith, value-zeros n)

pub bytes_from : (xs : List ℕ) → ((i : ℕ) → Fits w8 (get_or xs i 0)) → AreBytes xs
bytes_from [] h = tt
bytes_from (x ∷ xs) h = (omega (arith, h 0), bytes_from xs (λ i. h (suc i)))

length-concat : (g : ℕ → List ℕ) (w from n : ℕ) → ((j : ℕ) → length (g j) ≡ w) → length (concat (map g (range_with_len from n))) ≡ n * w
length-concat g w from zero len = omega arith
length-concat g w from (suc n) len =
    let one : length (g from) ≡ w = len from in
    let rest : length (concat (map g (range_with_len (from + 1) n))) ≡ n * w = length-concat g w (from + 1) n len in
    length-append (g from) (concat (map g (range_with_len (from + 1) n))) ∙ omega arith

pub length-copies : (count : ℕ) (text : List ℕ) → length (copies count (bits text)) ≡ count * (8 * length text)
unfolding copies
length-copies count text =
    length-concat (λ i. rotated (13 * i) (bits text)) (8 * length text) 0 count (λ j. length-rotated (13 * j) (bits text) ∙ length-bits text)

-- the number of a piece from its bytes
pub piece_value : (n j count : ℕ) (text xs : List ℕ) → n ≤ length xs → n * j + n ≤ count * length text
    → ((k : ℕ) → k < n → get_or xs k 0 ≡ binary (take 8 (drop (8 * (n * j + k)) (copies count (bits text)))))
    → bytes_value (take n xs) ≡ piece (8 * n) (copies count (bits text)) j
piece_value n j count text xs l h each =
    let bs : List ℕ = copies count (bits text) in
    let len : length (take n xs) ≡ n = length-take-le n xs l in
    let all : length bs ≡ count * (8 * length text) = length-copies count text in
    let rest : length (drop (8 * n * j) bs) ≡ length bs - 8 * n * j = length-drop (8 * n * j) bs in
    let most : 8 * n * j + 8 * n ≤ count * (8 * length text) = omega arith in
    let bit = λ (k : ℕ) (hk : k < length (take n xs)).
    let at : 8 * (n * j + k) ≡ 8 * n * j + 8 * k = omega arith in
    get_or-take n xs k 0 (omega arith) ∙ each k (omega arith) ∙ (λ t. binary (take 8 (drop (at t) bs))) ∙ ap (λ t. binary (take 8 t)) (sym (drop-drop (8 * k) (8 * n * j) bs)) in
    value_of_bits (take n xs) (drop (8 * n * j) bs) bit (omega arith) ∙ (λ t. binary (take (8 * len t) (drop (8 * n * j) bs)))

pub sum_of_pieces_none : (n : ℕ) (bs : List ℕ) → 0 ≡ sum_of_pieces n 0 bs
unfolding sum_of_pieces
sum_of_pieces_none n bs = refl

pub bytes_more : (s : List ℕ) (i t : ℕ) → i < length s → AreBytes (drop (i + 1) s) → AreBytes (drop i (set s i (t % 256)))
bytes_more s i t h hb =
    let here : t % 256 < 256 = omega arith in
    subst AreBytes (sym (drop-set s i (t % 256) h)) (here, hb)

pub piece-lt : (n j count : ℕ) (text : List ℕ) → piece (8 * n) (copies count (bits text)) j < 256 ^ n
piece-lt n j count text = subst (λ p. piece (8 * n) (copies count (bits text)) j < p) (sym (power_256 n)) (piece-below (8 * n) j count text)

pub bytes_below : (xs : List ℕ) → ((i : ℕ) → get_or xs i 0 < 256) → AreBytes xs
bytes_below [] h = tt
bytes_below (x ∷ xs) h = (h 0, bytes_below xs (λ i. h (suc i)))

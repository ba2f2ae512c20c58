-- The copies of a text, each rotated by 13 bits more than the one before.
use Rattle.std.proofs.Common.{◌≡◌, ℕ, zero, suc, ◌+◌, ◌-◌, ◌*◌, ◌/◌, ◌%◌, ◌^◌, ◌<◌, ◌≤◌, List, [], ◌∷◌, ◌++◌, length, map, take, drop, get_or, refl, ap, sym, ◌∙◌, arith, append_assoc, find, Some, Bool, true, false, inl, inr, zero-add}
use Rattle.std.proofs.lemmas.Bool.{cases_lt}
use Rattle.std.proofs.lemmas.List.{drop_at, length-append, length-drop, length-take-le, drop-append-le, take-append-le, take-append-drop, drop-drop, drop_more, get_or_append_left, get_or-append_right, drop_all}
use Rattle.std.specs.List.{range_with_len, concat}
use Rattle.krb_crypto.specs.Folding.{byte_bits, bits, binary, rotated, copies}
use Rattle.krb_crypto.proofs.BitLists.{bits-append, length-bits, drop-bits, window, binary-byte}
use native.Mathlib.Nat.{mod-lt, mod-eq_of_lt, mod-eq-sub-mod, div-add-mod}
use Rattle.std.proofs.lemmas.Nat.{div_below}

-- the first value that passes a test
pub find_first : (test : ℕ → Bool) (f : ℕ → ℕ) (from n k : ℕ) → from ≤ k → k < from + n → ((j : ℕ) → from ≤ j → j < k → test (f j) ≡ false) → test (f k) ≡ true
    → find test (map f (range_with_len from n)) ≡ Some (f k)
find_first test f from zero k low high before here = absurd (omega arith)
find_first test f from (suc n) k low high before here = elim (cases_lt from k) [
  | inl l ↦
      let no : test (f from) ≡ false = before from (omega arith) l in
      rw no (find_first test f (from + 1) n k (omega arith) (omega arith) (λ j a b. before j (omega arith) b) here)
  | inr g ↦
      let same : k ≡ from = omega arith in
      let yes : test (f from) ≡ true = (λ i. test (f (sym same i))) ∙ here in
      rw yes (λ i. Some (f (sym same i)))
]

-- eight places of lists of w places, one after the other
concat_window : (g : ℕ → List ℕ) (w from n i k : ℕ) → ((j : ℕ) → length (g j) ≡ w) → i < n → k + 8 ≤ w
    → take 8 (drop (w * i + k) (concat (map g (range_with_len from n)))) ≡ take 8 (drop k (g (from + i)))
concat_window g w from zero i k len h l = absurd (omega arith)
concat_window g w from (suc n) zero k len h l =
    let rest : List ℕ = concat (map g (range_with_len (from + 1) n)) in
    let at : w * 0 + k ≡ k = omega arith in
    let here : from ≡ from + 0 = omega arith in
    let lg : length (g from) ≡ w = len from in
    (λ t. take 8 (drop (at t) (g from ++ rest)))
    ∙ ap (take 8) (drop-append-le k (g from) rest (omega arith))
    ∙ take-append-le 8 (drop k (g from)) rest (omega (arith, length-drop k (g from)))
    ∙ (λ t. take 8 (drop k (g (here t))))
concat_window g w from (suc n) (suc i) k len h l =
    let rest : List ℕ = concat (map g (range_with_len (from + 1) n)) in
    let at : w * suc i + k ≡ w + (w * i + k) = omega arith in
    let next : from + 1 + i ≡ from + suc i = omega arith in
    (λ t. take 8 (drop (at t) (g from ++ rest)))
    ∙ ap (take 8) (sym (drop-drop (w * i + k) w (g from ++ rest)) ∙ ap (drop (w * i + k)) (drop_at (g from) rest w (len from)))
    ∙ concat_window g w (from + 1) n i k len (omega arith) l
    ∙ (λ t. take 8 (drop k (g (next t))))

pub length-rotated : (k : ℕ) (bs : List ℕ) → length (rotated k bs) ≡ length bs
length-rotated k bs =
    let cut : ℕ = length bs - k % length bs in
    length-append (drop cut bs) (take cut bs) ∙ omega (arith, length-drop cut bs, length-take-le cut bs (omega arith))

-- a part of a rotated list, from the list twice
rotated_window : (k c : ℕ) (bs : List ℕ) → c + 8 ≤ length bs → take 8 (drop c (rotated k bs)) ≡ take 8 (drop (c + (length bs - k % length bs)) (bs ++ bs))
rotated_window k c bs h =
    let cut : ℕ = length bs - k % length bs in
    let turned : List ℕ = drop cut bs ++ take cut bs in
    let len : length turned ≡ length bs = length-rotated k bs in
    let twice : drop cut (bs ++ bs) ≡ turned ++ drop cut bs =
    drop-append-le cut bs bs (omega arith) ∙ ap (λ s. drop cut bs ++ s) (sym (take-append-drop cut bs)) ∙ sym (append_assoc (drop cut bs) (take cut bs) (drop cut bs)) in
    let place : cut + c ≡ c + cut = omega arith in
    sym (take-append-le 8 (drop c turned) (drop cut bs) (omega (arith, length-drop c turned)))
    ∙ ap (take 8) (sym (drop-append-le c turned (drop cut bs) (omega arith)) ∙ ap (drop c) (sym twice) ∙ drop-drop c cut (bs ++ bs) ∙ (λ t. drop (place t) (bs ++ bs)))

-- eight bits of a text from bit 8 q + s on
text_window : (q s : ℕ) (text : List ℕ) (x y : ℕ) → s < 8 → x < 256 → y < 256 → x ≡ get_or text q 0 → (q + 1 < length text → y ≡ get_or text (q + 1) 0)
    → 8 * q + s + 8 ≤ 8 * length text → binary (take 8 (drop (8 * q + s) (bits text))) ≡ (256 * x + y) / 2 ^ (8 - s) % 256
unfolding bits
text_window q s text x y h hx hy ex ey l =
    let qs : q < length text = omega arith in
    let more : drop q text ≡ x ∷ drop (q + 1) text = drop_more text q 0 qs ∙ (λ i. sym ex i ∷ drop (q + 1) text) in
    ap (λ t. binary (take 8 t)) (sym (drop-drop s (8 * q) (bits text)))
    ∙ ap (λ t. binary (take 8 (drop s t))) (drop-bits q text (omega arith) ∙ ap bits more)
    ∙ elim (cases_lt (q + 1) (length text)) [
      | inl r ↦
          let next : drop (q + 1) text ≡ y ∷ drop (q + 1 + 1) text = drop_more text (q + 1) 0 r ∙ (λ i. sym (ey r) i ∷ drop (q + 1 + 1) text) in
          ap (λ t. binary (take 8 (drop s (byte_bits x ++ bits t)))) next
          ∙ window s x y (bits (drop (q + 1 + 1) text)) h hx hy
      | inr g ↦
          let none : s ≡ 0 = omega arith in
          ap (λ t. binary (take 8 (drop s (byte_bits x ++ bits t)))) (drop_all (q + 1) text g)
          ∙ (λ i. binary (take 8 (drop (none i) (byte_bits x ++ []))))
          ∙ binary-byte x hx
          ∙ last_byte x y hx hy
          ∙ (λ i. (256 * x + y) / 2 ^ (8 - sym none i) % 256)
    ]
  where
    last_byte : (x y : ℕ) → x < 256 → y < 256 → x ≡ (256 * x + y) / 2 ^ (8 - 0) % 256
    last_byte x y hx hy = omega arith

-- a text twice, by index
twice_at : (text : List ℕ) (q : ℕ) → q < 2 * length text → get_or (text ++ text) q 0 ≡ get_or text (q % length text) 0
twice_at text q h = elim (cases_lt q (length text)) [
  | inl l ↦ get_or_append_left text text 0 q l ∙ ap (λ k. get_or text k 0) (sym (mod-eq_of_lt l))
  | inr g ↦
      let below : q - length text < length text = omega arith in
      get_or-append_right text text (length text) q 0 refl g ∙ ap (λ k. get_or text k 0) (sym (mod-eq-sub-mod g ∙ mod-eq_of_lt below))
]

-- the same with the parts of the index named
byte_at_place : (text : List ℕ) (count i c r q s x y : ℕ) → i < count → c < length text → r ≡ 13 * i % (8 * length text) → r < 8 * length text
    → 8 * q + s ≡ 8 * c + (8 * length text - r) → s < 8 → x < 256 → y < 256
    → x ≡ get_or text (q % length text) 0 → y ≡ get_or text ((q + 1) % length text) 0
    → (256 * x + y) / 2 ^ (8 - s) % 256 ≡ binary (take 8 (drop (8 * length text * i + 8 * c) (copies count (bits text))))
unfolding copies
byte_at_place text count i c r q s x y hi hc er hr place hs hx hy ex ey =
    let w : ℕ = 8 * length text in
    let bs : List ℕ = bits text in
    let lb : length bs ≡ w = length-bits text in
    let turned : ℕ → List ℕ = λ j. rotated (13 * j) bs in
    let cut : length bs - 13 * i % length bs ≡ w - r = (λ t. lb t - 13 * i % lb t) ∙ (λ t. w - sym er t) in
    let lt : length (text ++ text) ≡ 2 * length text = length-append text text ∙ omega arith in
    sym (
    ap binary (concat_window turned w 0 count i (8 * c) (λ j. length-rotated (13 * j) bs ∙ lb) hi (omega arith))
    ∙ (λ t. binary (take 8 (drop (8 * c) (turned (zero-add i t)))))
    ∙ ap binary (rotated_window (13 * i) (8 * c) bs (omega arith))
    ∙ (λ t. binary (take 8 (drop (8 * c + cut t) (sym (bits-append text text) t))))
    ∙ (λ t. binary (take 8 (drop (sym place t) (bits (text ++ text)))))
    ∙ text_window q s (text ++ text) x y hs hx hy (ex ∙ sym (twice_at text q (omega arith))) (λ l. ey ∙ sym (twice_at text (q + 1) (omega arith))) (omega arith)
    )

pub byte_is_bits : (text : List ℕ) (at count x y : ℕ) → 0 < length text → at < count * length text → x < 256 → y < 256
    → let m = length text in let w = 8 * m in let place = 8 * (at % m) + (w - 13 * (at / m) % w) in
    x ≡ get_or text (place / 8 % m) 0 → y ≡ get_or text ((place / 8 + 1) % m) 0
    → (256 * x + y) / 2 ^ (8 - place % 8) % 256 ≡ binary (take 8 (drop (8 * at) (copies count (bits text))))
byte_is_bits text at count x y some h hx hy ex ey =
    let m : ℕ = length text in
    let w : ℕ = 8 * m in
    let r : ℕ = 13 * (at / m) % w in
    let place : ℕ = 8 * (at % m) + (w - r) in
    let whole : m * (at / m) + at % m ≡ at = div-add-mod at m in
    let here : 8 * m * (at / m) + 8 * (at % m) ≡ 8 * at = omega arith in
    let low : at % m < m = mod-lt at some in
    let turn : r < w = mod-lt (13 * (at / m)) (omega arith) in
    let copy : at / m < count = div_below at m count some h in
    byte_at_place text count (at / m) (at % m) r (place / 8) (place % 8) x y copy low refl turn (omega arith) (omega arith) hx hy ex ey
    ∙ (λ t. binary (take 8 (drop (here t) (copies count (bits text)))))

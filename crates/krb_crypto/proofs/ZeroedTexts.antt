-- A text with zeros in a range, by index.
use Rattle.std.proofs.Common.{◌≡◌, ℕ, ◌+◌, ◌-◌, ◌<◌, ◌≤◌, List, ◌++◌, length, take, drop, get_or, replicate, sym, ◌∙◌, arith}
use Rattle.std.proofs.lemmas.List.{length-append, length-take-le, length-drop, length-replicate, get_or_append_left, get_or-append_right, get_or-take, get_or-drop, get_or-replicate, ext_get_or}
use Rattle.krb_crypto.specs.Checksums.{zeroed}

pub length-zeroed : (from to : ℕ) (text : List ℕ) → from ≤ to → to ≤ length text → length (zeroed from to text) ≡ length text
length-zeroed from to text h l =
    length-append (take from text ++ replicate (to - from) 0) (drop to text)
    ∙ omega (arith, length-append (take from text) (replicate (to - from) 0), length-take-le from text (omega arith), length-replicate {A = ℕ} (to - from) 0, length-drop to text)

-- the zeros begin at the first index, and the rest at the second
front_length : (from to : ℕ) (text : List ℕ) → from ≤ to → to ≤ length text → length (take from text ++ replicate (to - from) 0) ≡ to
front_length from to text h l =
    length-append (take from text) (replicate (to - from) 0) ∙ omega (arith, length-take-le from text (omega arith), length-replicate {A = ℕ} (to - from) 0)

pub zeroed_in : (from to i : ℕ) (text : List ℕ) → from ≤ to → to ≤ length text → from ≤ i → i < to → get_or (zeroed from to text) i 0 ≡ 0
zeroed_in from to i text h l low high =
    let head : List ℕ = take from text ++ replicate (to - from) 0 in
    let lh : length head ≡ to = front_length from to text h l in
    get_or_append_left head (drop to text) 0 i (omega arith)
    ∙ get_or-append_right (take from text) (replicate (to - from) 0) from i 0 (length-take-le from text (omega arith)) low
    ∙ get_or-replicate (to - from) (i - from) 0 0 (omega arith)

pub zeroed_below : (from to i : ℕ) (text : List ℕ) → from ≤ to → to ≤ length text → i < from → get_or (zeroed from to text) i 0 ≡ get_or text i 0
zeroed_below from to i text h l low =
    let head : List ℕ = take from text ++ replicate (to - from) 0 in
    let lh : length head ≡ to = front_length from to text h l in
    let lt : length (take from text) ≡ from = length-take-le from text (omega arith) in
    get_or_append_left head (drop to text) 0 i (omega arith)
    ∙ get_or_append_left (take from text) (replicate (to - from) 0) 0 i (omega arith)
    ∙ get_or-take from text i 0 low

pub zeroed_above : (from to i : ℕ) (text : List ℕ) → from ≤ to → to ≤ length text → to ≤ i → get_or (zeroed from to text) i 0 ≡ get_or text i 0
zeroed_above from to i text h l high =
    let at : to + (i - to) ≡ i = omega arith in
    get_or-append_right (take from text ++ replicate (to - from) 0) (drop to text) to i 0 (front_length from to text h l) high
    ∙ get_or-drop to text (i - to) 0 ∙ (λ j. get_or text (at j) 0)

-- a part of a list, from its elements
pub part_is : (xs zs : List ℕ) (at n m : ℕ) → length xs ≡ m → n ≤ m → at + n ≤ length zs → ((k : ℕ) → k < n → get_or xs k 0 ≡ get_or zs (at + k) 0) → take n xs ≡ take n (drop at zs)
part_is xs zs at n m lx l h each =
    let la : length (take n xs) ≡ n = length-take-le n xs (omega arith) in
    let lb : length (take n (drop at zs)) ≡ n = length-take-le n (drop at zs) (omega (arith, length-drop at zs)) in
    ext_get_or 0 (take n xs) (take n (drop at zs)) (la ∙ sym lb)
    (λ k hk. get_or-take n xs k 0 (omega arith) ∙ each k (omega arith) ∙ sym (get_or-drop at zs k 0) ∙ sym (get_or-take n (drop at zs) k 0 (omega arith)))

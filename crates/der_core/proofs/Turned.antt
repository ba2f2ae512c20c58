-- A text whose end comes first.
use Rattle.std.proofs.Common.{◌≡◌, ℕ, ◌-◌, ◌≤◌, List, ◌++◌, length, take, drop, refl, sym, ap, ◌∙◌, arith}
use Rattle.std.specs.Prelude.{reverse}
use Rattle.std.proofs.lemmas.List.{drop_at, length-drop, length-reverse, reverse-append, reverse-reverse, take-append-drop, take_at}

-- of two parts, each turned over after the whole was
both_turned : (count : ℕ) (front end : List ℕ) → length end ≡ count
    → reverse (take count (reverse (front ++ end))) ++ reverse (drop count (reverse (front ++ end))) ≡ end ++ front
both_turned count front end long =
    let size : length (reverse end) ≡ count = length-reverse end ∙ long in
    let first : take count (reverse (front ++ end)) ≡ reverse end = ap (take count) (reverse-append front end) ∙ take_at (reverse end) (reverse front) count size in
    let rest : drop count (reverse (front ++ end)) ≡ reverse front = ap (drop count) (reverse-append front end) ∙ drop_at (reverse end) (reverse front) count size in
    (λ k. reverse (first k) ++ reverse (rest k)) ∙ (λ k. reverse-reverse end k ++ reverse-reverse front k)

pub turned : (count : ℕ) (bytes : List ℕ) → count ≤ length bytes
    → reverse (take count (reverse bytes)) ++ reverse (drop count (reverse bytes)) ≡ drop (length bytes - count) bytes ++ take (length bytes - count) bytes
turned count bytes few =
    let m : ℕ = length bytes - count in
    let whole : take m bytes ++ drop m bytes ≡ bytes = take-append-drop m bytes in
    let size : length (drop m bytes) ≡ count = omega (arith, length-drop m bytes, few) in
    sym (ap (λ (b : List ℕ). reverse (take count (reverse b)) ++ reverse (drop count (reverse b))) whole) ∙ both_turned count (take m bytes) (drop m bytes) size

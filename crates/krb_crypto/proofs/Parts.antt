-- A list that is written part by part.
use Rattle.std.proofs.Common.{◌≡◌, ℕ, ◌+◌, ◌-◌, ◌≤◌, List, ◌++◌, length, take, drop, ap, sym, ◌∙◌, arith}
use Rattle.std.proofs.lemmas.List.{take_at, drop_at, drop_all, append-nil, take-append-drop, take-take, drop-take, length-take-le, length-drop}
use borrow.Rule.Slice.PartMut.{put_mid}

-- the second part, which ends the list
pub put_second : (a b z : List ℕ) (n m : ℕ) → length a ≡ n → length z ≡ m → put_mid n m (a ++ z) b ≡ a ++ b
put_second a b z n m la lz =
    (λ i. take_at a z n la i ++ (b ++ drop m (drop_at a z n la i)))
    ∙ ap (λ s. a ++ (b ++ s)) (drop_all m z (omega arith))
    ∙ ap (λ s. a ++ s) (append-nil b)

-- a front that goes past the first part
pub take_across : (a b : List ℕ) (n m : ℕ) → length a ≡ n → take (n + m) (a ++ b) ≡ a ++ take m b
take_across a b n m la =
    sym (take-append-drop n (take (n + m) (a ++ b)))
    ∙ (λ i. take-take n (n + m) (a ++ b) (omega arith) i ++ drop-take n m (a ++ b) i)
    ∙ (λ i. take_at a b n la i ++ take m (drop_at a b n la i))

-- the rest of a list written anew
pub drop-put_end : (xs ys : List ℕ) (n : ℕ) → n ≤ length xs → drop n (put_mid n (length xs - n) xs ys) ≡ ys
drop-put_end xs ys n l =
    let rest : List ℕ = drop (length xs - n) (drop n xs) in
    drop_at (take n xs) (ys ++ rest) n (length-take-le n xs l)
    ∙ ap (λ s. ys ++ s) (drop_all (length xs - n) (drop n xs) (omega (arith, length-drop n xs)))
    ∙ append-nil ys

pub put_end : (xs ys : List ℕ) (n : ℕ) → n ≤ length xs → put_mid n (length xs - n) xs ys ≡ take n xs ++ ys
put_end xs ys n l =
    ap (λ s. take n xs ++ (ys ++ s)) (drop_all (length xs - n) (drop n xs) (omega (arith, length-drop n xs)))
    ∙ ap (λ s. take n xs ++ s) (append-nil ys)

-- a front and the part after it
pub take-add : (n m : ℕ) (xs : List ℕ) → n ≤ length xs → take (n + m) xs ≡ take n xs ++ take m (drop n xs)
take-add n m xs l =
    ap (take (n + m)) (sym (take-append-drop n xs)) ∙ take_across (take n xs) (drop n xs) n m (length-take-le n xs l)

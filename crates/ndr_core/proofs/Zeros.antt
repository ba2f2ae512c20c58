-- Fronts of lists.
use Rattle.std.proofs.Common.{◌≡◌, ℕ, ◌≤◌, List, ◌++◌, length, take, replicate, arith}
use Rattle.std.proofs.lemmas.List.{take-replicate, take-append-le, take_all}

pub first_zeros : (n : ℕ) → n ≤ 8 → take {A = ℕ} n (replicate 8 0) ≡ replicate n 0
first_zeros n h = take-replicate n 8 0 h

-- what is written behind keeps the front
pub front_kept : (n : ℕ) (xs ys : List ℕ) → n ≤ length xs → take n (xs ++ ys) ≡ take n xs
front_kept n xs ys h = take-append-le n xs ys h

pub front_whole : (xs : List ℕ) → take (length xs) xs ≡ xs
front_whole xs = take_all (length xs) xs (omega arith)

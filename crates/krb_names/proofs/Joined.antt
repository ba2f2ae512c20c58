-- Names with a byte between each two, written one after the other.
use Rattle.std.proofs.Common.{◌≡◌, ℕ, suc, ◌-◌, ◌≤◌, List, [], ◌∷◌, ◌++◌, length, get_or, take, drop, sym, ap, ◌∙◌, append-nil, arith}
use Rattle.std.specs.List.{flat_map, join_with_byte}
use Rattle.std.proofs.lemmas.List.{take_all}
use Rattle.std.proofs.lemmas.List.Concat.{flat_map-cons}

-- the first, and each further one with the byte before it
pub joined_is : (c : ℕ) (x : List ℕ) (xs : List (List ℕ)) → join_with_byte c (x ∷ xs) ≡ x ++ flat_map (λ y. c ∷ y) xs
joined_is c x [] = sym (append-nil x)
joined_is c x (y ∷ ys) =
    ap (λ (v : List ℕ). x ++ c ∷ v) (joined_is c y ys) ∙ ap (λ (v : List ℕ). x ++ v) (sym (flat_map-cons (λ y. c ∷ y) y ys))

-- the same where the list is taken apart
pub joined_names : (c : ℕ) (names : List (List ℕ)) (first : List ℕ) → 1 ≤ length names → first ≡ get_or names 0 first
    → join_with_byte c names ≡ first ++ flat_map (λ y. c ∷ y) (take (length names - 1) (drop 1 names))
joined_names c [] first some e = absurd (omega arith)
joined_names c (x ∷ xs) first some e =
    let same : take (suc (length xs) - 1) xs ≡ xs = take_all (suc (length xs) - 1) xs (omega arith) in
    joined_is c x xs ∙ ap (λ (v : List ℕ). v ++ flat_map (λ y. c ∷ y) xs) (sym e) ∙ ap (λ (v : List (List ℕ)). first ++ flat_map (λ y. c ∷ y) v) (sym same)

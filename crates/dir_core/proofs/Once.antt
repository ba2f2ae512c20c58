-- Of distinct values, at most one is the same as a given one.
use Rattle.std.proofs.Common.{◌≡◌, ℕ, ◌+◌, ◌≤◌, List, [], ◌∷◌, ◌++◌, ◌||◌, ◌&&◌, ◌∙◌, ap, Bool, true, false, not, cond, map, refl, arith}
use Rattle.std.specs.Prelude.{count_by, flat_map, sum_by}
use Rattle.std.specs.List.{list_any}
use Rattle.std.specs.Cmp.{IsEquivalence}
use Rattle.std.proofs.lemmas.List.Sums.{sum_by-append, sum_by-cons}
use Rattle.kdc_prelude.specs.Distinct.{all_distinct}

pub with_first : {X : Type 0} (p : X → Bool) (x : X) (xs : List X) → count_by p (x ∷ xs) ≡ cond (p x) 1 0 + count_by p xs
with_first p x xs = sum_by-cons (λ y. cond (p y) 1 0) x xs

-- a value that is the same as another of two that are the same is the same as both
joined : {X : Type 0} (same : X → X → Bool) (laws : IsEquivalence same) (x y v : X) → same x v ≡ true → same y v ≡ true → same x y ≡ true
joined same laws x y v h k = laws.congr x v y h ∙ laws.symm v y ∙ k

none_first : (a b : Bool) → (a || b) ≡ false → (a ≡ false) × (b ≡ false)
none_first true b h = absurd (cc)
none_first false b h = (refl, h)

nothing_left : {X Y : Type 0} (same : X → X → Bool) (laws : IsEquivalence same) (f : Y → X) (x v : X) → same x v ≡ true
    → (ys : List Y) → list_any (same x) (map f ys) ≡ false → count_by (λ y. same (f y) v) ys ≡ 0
nothing_left same laws f x v h [] none = refl
nothing_left same laws f x v h (y ∷ ys) none =
    let parts = none_first (same x (f y)) (list_any (same x) (map f ys)) none in
    let rest = nothing_left same laws f x v h ys parts.1 in
    with_first (λ z. same (f z) v) y ys ∙ by_test (same (f y) v) refl rest parts.0
  where
    by_test : (b : Bool) → same (f y) v ≡ b → count_by (λ z. same (f z) v) ys ≡ 0 → same x (f y) ≡ false → cond b 1 0 + count_by (λ z. same (f z) v) ys ≡ 0
    by_test true e rest other = absurd (false_is (joined same laws x (f y) v h e) other)
      where
        false_is : same x (f y) ≡ true → same x (f y) ≡ false → ⊥
        false_is p q = cc
    by_test false e rest other = rw rest

both : (a b : Bool) → (not a && b) ≡ true → (a ≡ false) × (b ≡ true)
both true b h = absurd (cc)
both false b h = (refl, h)

pub at_most_one : {X Y : Type 0} (same : X → X → Bool) (laws : IsEquivalence same) (f : Y → X) (v : X)
    → (ys : List Y) → all_distinct same (map f ys) ≡ true → count_by (λ y. same (f y) v) ys ≤ 1
at_most_one same laws f v [] h = omega arith
at_most_one same laws f v (y ∷ ys) h =
    let parts = both (list_any (same (f y)) (map f ys)) (all_distinct same (map f ys)) h in
    let rest = at_most_one same laws f v ys parts.1 in
    rw (with_first (λ z. same (f z) v) y ys) (by_test (same (f y) v) refl rest parts.0)
  where
    by_test : (b : Bool) → same (f y) v ≡ b → count_by (λ z. same (f z) v) ys ≤ 1 → list_any (same (f y)) (map f ys) ≡ false → cond b 1 0 + count_by (λ z. same (f z) v) ys ≤ 1
    by_test true e rest none = let left = nothing_left same laws f (f y) v e ys none in omega arith
    by_test false e rest none = omega arith

one_or_none : (a b : Bool) (n : ℕ) → cond b 1 0 ≤ n → cond (a || b) 1 0 ≤ cond a 1 0 + n
one_or_none true b n h = omega arith
one_or_none false true n h = omega arith
one_or_none false false n h = omega arith

at_least : {X : Type 0} (p : X → Bool) (xs : List X) → cond (list_any p xs) 1 0 ≤ count_by p xs
at_least p [] = omega arith
at_least p (x ∷ xs) = rw (with_first p x xs) (one_or_none (p x) (list_any p xs) (count_by p xs) (at_least p xs))

in_lists : {X Y : Type 0} (p : X → Bool) (f : Y → List X) (ys : List Y) → count_by (λ y. list_any p (f y)) ys ≤ count_by p (flat_map f ys)
in_lists p f [] = omega arith
in_lists p f (y ∷ ys) =
    let here = at_least p (f y) in
    let rest = in_lists p f ys in
    let joined_counts : count_by p (f y ++ flat_map f ys) ≡ count_by p (f y) + count_by p (flat_map f ys) = sum_by-append (λ x. cond (p x) 1 0) (f y) (flat_map f ys) in
    rw (with_first (λ z. list_any p (f z)) y ys) (omega (arith, joined_counts))

-- members of lists of lists that have one of what passes are no more than what passes
pub in_all : {X Y Z : Type 0} (p : X → Bool) (f : Y → List X) (g : Z → List Y) (zs : List Z)
    → sum_by (λ z. count_by (λ y. list_any p (f y)) (g z)) zs ≤ count_by p (flat_map (λ z. flat_map f (g z)) zs)
in_all p f g [] = omega arith
in_all p f g (z ∷ zs) =
    let here = in_lists p f (g z) in
    let rest = in_all p f g zs in
    let both_counts : count_by p (flat_map f (g z) ++ flat_map (λ w. flat_map f (g w)) zs) ≡ count_by p (flat_map f (g z)) + count_by p (flat_map (λ w. flat_map f (g w)) zs) = sum_by-append (λ x. cond (p x) 1 0) (flat_map f (g z)) (flat_map (λ w. flat_map f (g w)) zs) in
    rw (sum_by-cons (λ w. count_by (λ y. list_any p (f y)) (g w)) z zs) (omega (arith, both_counts))

same_count : {X : Type 0} (p q : X → Bool) → ((x : X) → p x ≡ q x) → (xs : List X) → count_by p xs ≡ count_by q xs
same_count p q h [] = refl
same_count p q h (x ∷ xs) = rw (with_first p x xs, with_first q x xs, h x, same_count p q h xs)

map_same : {X : Type 0} (xs : List X) → map (λ x. x) xs ≡ xs
map_same [] = refl
map_same (x ∷ xs) = ap (λ rest. x ∷ rest) (map_same xs)

pub once : {X : Type 0} (same : X → X → Bool) (laws : IsEquivalence same) (v : X) (xs : List X) → all_distinct same xs ≡ true → count_by (same v) xs ≤ 1
once same laws v xs h =
    let distinct = ap (all_distinct same) (map_same xs) ∙ h in
    let other = at_most_one same laws (λ x. x) v xs distinct in
    rw (same_count (same v) (λ x. same x v) (λ x. laws.symm v x) xs) other

-- Lemmas on the places of list members.
use Rattle.std.proofs.Common.{◌≡◌, ◌<◌, ◌+◌, ◌∙◌, ℕ, zero, suc, List, [], ◌∷◌, ◌++◌, sym, ap, Bool, true, false, cond, get_or, length, take, refl, subst, arith}
use Rattle.std.specs.Prelude.{Option, None, Some, IfSome, if◌then◌else◌, position, slice_get}
use Rattle.std.specs.List.{AllZip, position_from}
use Rattle.std.proofs.lemmas.Iterator.Adapters.{position_from-zero}
use Rattle.std.proofs.lemmas.List.{length-take-le, take_more}
use Rattle.dir_indexes.specs.Places.{Adds, or_place}

-- one member more
pub one_more : {X : Type 0} (xs : List X) (i : ℕ) (x : X) → i < length xs → x ≡ get_or xs i x → take (i + 1) xs ≡ take i xs ++ x ∷ []
one_more xs i x h e = take_more xs i x h ∙ ap (λ y. take i xs ++ y ∷ []) (sym e)

after_last : {X : Type 0} (p : X → Bool) (n : ℕ) (xs : List X) (x : X)
    → position_from p n (xs ++ x ∷ []) ≡ (if p x then or_place (position_from p n xs) (n + length xs) else position_from p n xs)
after_last p n [] x = let here : n ≡ n + 0 = omega arith in by_test (p x) here
  where
    by_test : (b : Bool) → n ≡ n + 0 → cond b (Some n) None ≡ (if b then Some (n + 0) else None)
    by_test true e = ap (λ k. Some k) e
    by_test false e = refl
after_last p n (y ∷ xs) x =
    let later = after_last p (n + 1) xs x in
    let there : (n + 1) + length xs ≡ n + length (y ∷ xs) = omega arith in
    by_test (p y) (p x) (later ∙ ap (λ k. if p x then or_place (position_from p (n + 1) xs) k else position_from p (n + 1) xs) there)
  where
    by_test : (a b : Bool)
        → position_from p (n + 1) (xs ++ x ∷ []) ≡ (if b then or_place (position_from p (n + 1) xs) (n + length (y ∷ xs)) else position_from p (n + 1) xs)
        → cond a (Some n) (position_from p (n + 1) (xs ++ x ∷ []))
        ≡ (if b then or_place (cond a (Some n) (position_from p (n + 1) xs)) (n + length (y ∷ xs)) else cond a (Some n) (position_from p (n + 1) xs))
    by_test true true e = refl
    by_test true false e = refl
    by_test false b e = e

-- where the first member that passes stands, with one member more
pub position_next : {X : Type 0} (p : X → Bool) (xs : List X) (i : ℕ) (x : X) → i < length xs → x ≡ get_or xs i x
    → position p (take (i + 1) xs) ≡ (if p x then or_place (position p (take i xs)) i else position p (take i xs))
position_next {X} p xs i x h e =
    let front = take i xs in
    let size : 0 + length front ≡ i = omega (arith, length-take-le i xs) in
    let from : position_from p 0 front ≡ position p front = sym (position_from-zero p front) in
    ap (position p) (one_more xs i x h e)
    ∙ position_from-zero p (front ++ x ∷ [])
    ∙ after_last p 0 front x
    ∙ ap (λ k. if p x then or_place (position_from p 0 front) k else position_from p 0 front) size
    ∙ ap (λ (o : Option ℕ). if p x then or_place o i else o) from

-- an index of a list's front, after the next member is added
pub added_next : {K X : Type 0} (same : K → K → Bool) (key_of : X → K) (old new : K → Option ℕ) (xs : List X) (i : ℕ) (x : X) → i < length xs → x ≡ get_or xs i x
    → ((key : K) → old key ≡ position (λ y. same (key_of y) key) (take i xs)) → Adds same old new (key_of x) i
    → (key : K) → new key ≡ position (λ y. same (key_of y) key) (take (i + 1) xs)
added_next same key_of old new xs i x h e before adds key =
    adds key
    ∙ ap (λ (o : Option ℕ). if same (key_of x) key then or_place o i else o) (before key)
    ∙ sym (position_next (λ y. same (key_of y) key) xs i x h e)

same_from : {X : Type 0} (p q : X → Bool) → ((x : X) → p x ≡ q x) → (n : ℕ) (xs : List X) → position_from p n xs ≡ position_from q n xs
same_from p q h n [] = refl
same_from p q h n (x ∷ xs) = rw (h x, same_from p q h (n + 1) xs) refl

-- two tests that agree
pub position_same : {X : Type 0} (p q : X → Bool) → ((x : X) → p x ≡ q x) → (xs : List X) → position p xs ≡ position q xs
position_same p q h xs = position_from-zero p xs ∙ same_from p q h 0 xs ∙ sym (position_from-zero q xs)

none_from : {X : Type 0} (p : X → Bool) → ((x : X) → p x ≡ false) → (n : ℕ) (xs : List X) → position_from p n xs ≡ None
none_from p h n [] = refl
none_from p h n (x ∷ xs) = rw (h x) (none_from p h (n + 1) xs)

-- a test that nothing passes
pub position_none : {X : Type 0} (p : X → Bool) → ((x : X) → p x ≡ false) → (xs : List X) → position p xs ≡ None
position_none p h xs = position_from-zero p xs ∙ none_from p h 0 xs

within_from : {X : Type 0} (p : X → Bool) (n : ℕ) (xs : List X) → IfSome (position_from p n xs) (λ i. i < n + length xs)
within_from p n [] = tt
within_from p n (x ∷ xs) = by_test (p x) (position_from p (n + 1) xs) (within_from p (n + 1) xs)
  where
    wider : (o : Option ℕ) → IfSome o (λ i. i < (n + 1) + length xs) → IfSome o (λ i. i < n + length (x ∷ xs))
    wider None h = tt
    wider (Some i) h = omega (arith, h)

    by_test : (b : Bool) (o : Option ℕ) → IfSome o (λ i. i < (n + 1) + length xs) → IfSome (cond b (Some n) o) (λ i. i < n + length (x ∷ xs))
    by_test true o h = omega arith
    by_test false o h = wider o h

-- a place is below the length
pub position_within : {X : Type 0} (p : X → Bool) (xs : List X) → IfSome (position p xs) (λ i. i < length xs)
position_within p xs =
    let zero_more : 0 + length xs ≡ length xs = omega arith in
    subst (λ (o : Option ℕ). IfSome o (λ i. i < length xs)) (sym (position_from-zero p xs)) (subst (λ (n : ℕ). IfSome (position_from p 0 xs) (λ i. i < n)) zero_more (within_from p 0 xs))

-- the members of two lists that stand at one place
pub zip_at : {A B : Type 0} (R : A → B → Type 0) (xs : List A) (ys : List B) (i : ℕ) (x : A) → AllZip R xs ys → i < length xs → x ≡ get_or xs i x → IfSome (slice_get ys i) (R x)
zip_at R [] ys i x zip h e = absurd (omega (arith, h))
zip_at R (a ∷ xs) [] i x zip h e = absurd zip
zip_at R (a ∷ xs) (b ∷ ys) zero x zip h e = subst (λ y. R y b) (sym e) zip.0
zip_at R (a ∷ xs) (b ∷ ys) (suc i) x zip h e = let less : i < length xs = omega (arith, h) in zip_at R xs ys i x zip.1 less e

-- one member more in both
pub zip_push : {A B : Type 0} (R : A → B → Type 0) (xs : List A) (ys : List B) (x : A) (y : B) → AllZip R xs ys → R x y → AllZip R (xs ++ x ∷ []) (ys ++ y ∷ [])
zip_push R [] [] x y zip h = (h, tt)
zip_push R [] (b ∷ ys) x y zip h = absurd zip
zip_push R (a ∷ xs) [] x y zip h = absurd zip
zip_push R (a ∷ xs) (b ∷ ys) x y zip h = (zip.0, zip_push R xs ys x y zip.1 h)

-- the member at a place below the length
pub some_at : {X : Type 0} (xs : List X) (i : ℕ) → i < length xs → (x : X) × (slice_get xs i ≡ Some x)
some_at [] i h = absurd (omega (arith, h))
some_at (x ∷ xs) zero h = (x, refl)
some_at (x ∷ xs) (suc i) h = let less : i < length xs = omega (arith, h) in some_at xs i less

-- what holds of what is there
pub holds_of_some : {X : Type 0} (P : X → Type 0) (o : Option X) (x : X) → o ≡ Some x → IfSome o P → P x
holds_of_some P None x e h = absurd (cc)
holds_of_some {X} P (Some y) x e h = subst P (same y x e) h
  where
    same : (a b : X) → Some a ≡ Some b → a ≡ b
    same a b k = cc

-- What is found by a name that stands once alone.
use Rattle.std.proofs.Common.{◌≡◌, ℕ, suc, zero, ◌+◌, List, [], ◌∷◌, ◌∙◌, ◌&&◌, ◌||◌, not, Bool, true, false, cond, arith, map, refl, sym, ap}
use Rattle.std.specs.Prelude.{Some, slice_get, position}
use Rattle.std.specs.List.{list_any, position_from}
use Rattle.std.proofs.lemmas.Iterator.Adapters.{position_from-zero}
use Rattle.kdc_prelude.specs.Distinct.{all_distinct}
use Rattle.kdc_prelude.specs.Texts.{same_text}

one_of : {X : Type 0} (x y : X) → Some x ≡ Some y → x ≡ y
one_of x y e = cc

parts : (a b : Bool) → (not a && b) ≡ true → (a ≡ false) × (b ≡ true)
parts true b h = absurd (cc)
parts false b h = (refl, h)

neither : (a b : Bool) → (a || b) ≡ false → (a ≡ false) × (b ≡ false)
neither true b h = absurd (cc)
neither false b h = (refl, h)

-- a name that no other has is not that of any
other : {X : Type 0} (name : X → List ℕ) (text : List ℕ) (xs : List X) → list_any (same_text text) (map name xs) ≡ false
    → (at : ℕ) (x : X) → slice_get xs at ≡ Some x → same_text text (name x) ≡ false
other name text [] h at x e = absurd (cc)
other name text (first ∷ xs) h zero x e =
    ap (λ y. same_text text (name y)) (sym (one_of first x e)) ∙ (neither (same_text text (name first)) (list_any (same_text text) (map name xs)) h).0
other name text (first ∷ xs) h (suc at) x e = other name text xs (neither (same_text text (name first)) (list_any (same_text text) (map name xs)) h).1 at x e

found_from : {X : Type 0} (name : X → List ℕ) (xs : List X) → all_distinct same_text (map name xs) ≡ true
    → (i at : ℕ) (x : X) → slice_get xs at ≡ Some x → same_text (name x) (name x) ≡ true → position_from (λ y. same_text (name y) (name x)) i xs ≡ Some (i + at)
found_from name [] h i at x e own = absurd (cc)
found_from name (first ∷ xs) h i zero x e own =
    let here = ap (λ y. same_text (name y) (name x)) (one_of first x e) ∙ own in
    let number : i ≡ i + 0 = omega arith in
    ap (λ b. cond b (Some i) (position_from (λ y. same_text (name y) (name x)) (i + 1) xs)) here ∙ ap Some number
found_from name (first ∷ xs) h i (suc at) x e own =
    let apart = parts (list_any (same_text (name first)) (map name xs)) (all_distinct same_text (map name xs)) h in
    let not_first = other name (name first) xs apart.0 at x e in
    let number : i + 1 + at ≡ i + suc at = omega arith in
    ap (λ b. cond b (Some i) (position_from (λ y. same_text (name y) (name x)) (i + 1) xs)) not_first ∙ found_from name xs apart.1 (i + 1) at x e own ∙ ap Some number

-- the one of this name
pub found_once : {X : Type 0} (name : X → List ℕ) (xs : List X) → all_distinct same_text (map name xs) ≡ true
    → (at : ℕ) (x : X) → slice_get xs at ≡ Some x → same_text (name x) (name x) ≡ true → position (λ y. same_text (name y) (name x)) xs ≡ Some at
found_once name xs h at x e own =
    let number : 0 + at ≡ at = omega arith in
    position_from-zero (λ y. same_text (name y) (name x)) xs ∙ found_from name xs h 0 at x e own ∙ ap Some number

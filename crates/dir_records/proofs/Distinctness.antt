-- Lemmas on marks of which none stands twice.
use Rattle.std.proofs.Common.{◌≡◌, List, [], ◌∷◌, ◌||◌, ◌&&◌, ◌∙◌, ap, Bool, true, false, not, map, refl}
use Rattle.std.specs.Prelude.{Option, Some, is_none, if◌then◌else◌}
use Rattle.std.specs.List.{list_any, list_all}
use Rattle.kdc_prelude.specs.Distinct.{all_distinct}
use Rattle.dir_records.specs.declared.refusal.DirPlace.{DirPlace}
use Rattle.dir_records.specs.Repeats.{first_repeat, repeat_after}

any_by : {X Y : Type 0} (same : X → X → Bool) (other : Y → Y → Bool) (f : X → Y) → ((x y : X) → same x y ≡ other (f x) (f y))
    → (x : X) (xs : List X) → list_any (same x) xs ≡ list_any (other (f x)) (map f xs)
any_by same other f h x [] = refl
any_by same other f h x (y ∷ xs) = rw (h x y, any_by same other f h x xs)

-- marks may be compared by what they are seen as
pub repeat_by : {X Y : Type 0} (same : X → X → Bool) (other : Y → Y → Bool) (f : X → Y) → ((x y : X) → same x y ≡ other (f x) (f y))
    → (before : List X) (marks : List (DirPlace × X)) → repeat_after same before marks ≡ repeat_after other (map f before) (map (λ mark. (mark.0, f mark.1)) marks)
repeat_by same other f h before [] = refl
repeat_by same other f h before (mark ∷ marks) = rw (any_by same other f h mark.1 before, repeat_by same other f h (mark.1 ∷ before) marks)

-- whether a mark is none of those before
abbrev is_new : {X : Type 0} → (X → X → Bool) → List X → DirPlace × X → Bool
is_new same before mark = not (list_any (same mark.1) before)

regroup : (a b c d : Bool) → (not (a || b) && (c && not d)) ≡ ((not b && c) && not (a || d))
regroup true b c d = rw (nothing (not b && c))
  where
    nothing : (e : Bool) → (e && false) ≡ false
    nothing true = refl
    nothing false = refl
regroup false true c d = refl
regroup false false true d = refl
regroup false false false d = refl

-- the marks that are new after one more are those that were new and are not that one
one_more : {X : Type 0} (same : X → X → Bool) → ((x y : X) → same x y ≡ same y x) → (x : X) (before : List X) (marks : List (DirPlace × X))
    → list_all (is_new same (x ∷ before)) marks ≡ (list_all (is_new same before) marks && not (list_any (same x) (map (λ mark. mark.1) marks)))
one_more same symm x before [] = refl
one_more same symm x before (mark ∷ marks) =
    rw (symm mark.1 x, one_more same symm x before marks) (regroup (same x mark.1) (list_any (same mark.1) before) (list_all (is_new same before) marks) (list_any (same x) (map (λ other. other.1) marks)))

unfolded : (there : Bool) (some rest : Bool) (among apart : Bool) → rest ≡ ((some && not among) && apart)
    → (if there then false else rest) ≡ ((not there && some) && (not among && apart))
unfolded true some rest among apart h = refl
unfolded false true rest among apart h = h
unfolded false false rest among apart h = h

tested : {X : Type 0} (b : Bool) (place : X) (rest : Option X) → is_none (if b then Some place else rest) ≡ (if b then false else is_none rest)
tested true place rest = refl
tested false place rest = refl

none_after : {X : Type 0} (same : X → X → Bool) → ((x y : X) → same x y ≡ same y x) → (before : List X) (marks : List (DirPlace × X))
    → is_none (repeat_after same before marks) ≡ (list_all (is_new same before) marks && all_distinct same (map (λ mark. mark.1) marks))
none_after same symm before [] = refl
none_after same symm before (mark ∷ marks) =
    let rest = none_after same symm (mark.1 ∷ before) marks in
    let among = list_any (same mark.1) (map (λ other. other.1) marks) in
    let apart = all_distinct same (map (λ other. other.1) marks) in
    let split = ap (λ b. b && apart) (one_more same symm mark.1 before marks) in
    tested (list_any (same mark.1) before) mark.0 (repeat_after same (mark.1 ∷ before) marks)
    ∙ unfolded (list_any (same mark.1) before) (list_all (is_new same before) marks) (is_none (repeat_after same (mark.1 ∷ before) marks)) among apart (rest ∙ split)

all_new : {X : Type 0} (same : X → X → Bool) (marks : List (DirPlace × X)) → list_all (is_new same []) marks ≡ true
all_new same [] = refl
all_new same (mark ∷ marks) = all_new same marks

-- no mark is repeated exactly where the marks are distinct
pub no_repeat : {X : Type 0} (same : X → X → Bool) → ((x y : X) → same x y ≡ same y x) → (marks : List (DirPlace × X))
    → is_none (first_repeat same marks) ≡ all_distinct same (map (λ mark. mark.1) marks)
no_repeat same symm marks = rw (none_after same symm [] marks, all_new same marks)

any_same : {X : Type 0} (same other : X → X → Bool) → ((x y : X) → same x y ≡ other x y) → (x : X) (xs : List X) → list_any (same x) xs ≡ list_any (other x) xs
any_same same other h x [] = refl
any_same same other h x (y ∷ xs) = rw (h x y, any_same same other h x xs)

-- two tests that agree find the same
pub repeat_same : {X : Type 0} (same other : X → X → Bool) → ((x y : X) → same x y ≡ other x y) → (before : List X) (marks : List (DirPlace × X))
    → repeat_after same before marks ≡ repeat_after other before marks
repeat_same same other h before [] = refl
repeat_same same other h before (mark ∷ marks) = rw (any_same same other h mark.1 before, repeat_same same other h (mark.1 ∷ before) marks)

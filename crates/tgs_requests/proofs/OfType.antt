-- What a list has of one type.
use Rattle.std.proofs.Common.{◌≡◌, ℕ, ◌||◌, Bool, true, false, cond, List, [], ◌∷◌, length, filter, Option, None, Some, refl, sym, subst, ap, ◌∙◌, arith}
use Rattle.std.specs.Prelude.{IfSome}
use Rattle.std.specs.List.{AllByRecursion, count_by, find, list_any}
use Rattle.std.proofs.lemmas.List.Sums.{length-filter}
use Rattle.der_core.specs.Codec.{Codec}
use Rattle.krb_messages.specs.declared.pa_data.PaData.{PaData}
use Rattle.tgs_requests.specs.Askings.{at_most_one, only}

abbrev first : {X : Type 0} → List X → Option X
first [] = None
first (x ∷ xs) = Some x

find_first : {X : Type 0} (p : X → Bool) (xs : List X) → find p xs ≡ first (filter p xs)
find_first p [] = refl
find_first {X} p (x ∷ xs) = by_test (p x) (find_first p xs)
  where
    by_test : (b : Bool) → find p xs ≡ first (filter p xs) → cond b (Some x) (find p xs) ≡ first (cond b (x ∷ filter p xs) (filter p xs))
    by_test true later = refl
    by_test false later = later

one_is_first : {X : Type 0} (xs : List X) → length xs ≡ 1 → first xs ≡ only xs
one_is_first [] h = absurd (omega arith)
one_is_first (x ∷ []) h = refl
one_is_first (x ∷ y ∷ xs) h = absurd (omega arith)

others_are_none : {X : Type 0} (xs : List X) → (length xs ≡ 1 → ⊥) → None ≡ only xs
others_are_none [] h = refl
others_are_none (x ∷ []) h = absurd (h refl)
others_are_none (x ∷ y ∷ xs) h = refl

pub only_found : {X : Type 0} (p : X → Bool) (xs : List X) (n : ℕ) (found : Option X) → n ≡ count_by p xs → n ≡ 1 → found ≡ find p xs → found ≡ only (filter p xs)
only_found p xs n found count one is = is ∙ find_first p xs ∙ one_is_first (filter p xs) (length-filter p xs ∙ sym count ∙ one)

pub only_none : {X : Type 0} (p : X → Bool) (xs : List X) (n : ℕ) → n ≡ count_by p xs → (n ≡ 1 → ⊥) → None ≡ only (filter p xs)
only_none p xs n count other = others_are_none (filter p xs) (λ one. other (count ∙ sym (length-filter p xs) ∙ one))

-- ---- at most one

none_kept : {X : Type 0} (p : X → Bool) (xs : List X) → list_any p xs ≡ false → filter p xs ≡ []
none_kept p [] h = refl
none_kept {X} p (x ∷ xs) h = by_test (p x) (none_kept p xs) h
  where
    by_test : (b : Bool) → (list_any p xs ≡ false → filter p xs ≡ []) → (b || list_any p xs) ≡ false → cond b (x ∷ filter p xs) (filter p xs) ≡ []
    by_test true later e = absurd (cc)
    by_test false later e = later e

some_kept : {X : Type 0} (p : X → Bool) (xs : List X) → list_any p xs ≡ true → filter p xs ≡ [] → ⊥
some_kept p [] h e = absurd (cc)
some_kept {X} p (x ∷ xs) h e = by_test (p x) (some_kept p xs) h e
  where
    by_test : (b : Bool) → (list_any p xs ≡ true → filter p xs ≡ [] → ⊥) → (b || list_any p xs) ≡ true → cond b (x ∷ filter p xs) (filter p xs) ≡ [] → ⊥
    by_test true later e f = absurd (cc)
    by_test false later e f = later e f

pub none_asked : {X : Type 0} (form : Codec X) (p : PaData → Bool) (items : List PaData) → list_any p items ≡ false → Some None ≡ at_most_one form (filter p items)
none_asked form p items h = sym (ap (at_most_one form) (none_kept p items h))

several : {X : Type 0} (form : Codec X) (found : List PaData) → (found ≡ [] → ⊥) → None ≡ only found → None ≡ at_most_one form found
several form [] some h = absurd (some refl)
several form (item ∷ []) some h = absurd (cc)
several form (item ∷ more ∷ items) some h = refl

pub several_asked : {X : Type 0} (form : Codec X) (p : PaData → Bool) (items : List PaData) → list_any p items ≡ true → None ≡ only (filter p items) → None ≡ at_most_one form (filter p items)
several_asked form p items any h = several form (filter p items) (some_kept p items any) h

-- ---- the only one is one of the list

all_kept : {X : Type 0} (P : X → Type 0) (p : X → Bool) (xs : List X) → AllByRecursion P xs → AllByRecursion P (filter p xs)
all_kept P p [] h = tt
all_kept {X} P p (x ∷ xs) h = by_test (p x) (all_kept P p xs h.1)
  where
    by_test : (b : Bool) → AllByRecursion P (filter p xs) → AllByRecursion P (cond b (x ∷ filter p xs) (filter p xs))
    by_test true later = (h.0, later)
    by_test false later = later

only_of_all : {X : Type 0} (P : X → Type 0) (xs : List X) → AllByRecursion P xs → IfSome (only xs) P
only_of_all P [] h = tt
only_of_all P (x ∷ []) h = h.0
only_of_all P (x ∷ y ∷ xs) h = tt

only_is_of_all : {X : Type 0} (P : X → Type 0) (p : X → Bool) (xs : List X) → AllByRecursion P xs → IfSome (only (filter p xs)) P
only_is_of_all P p xs h = only_of_all P (filter p xs) (all_kept P p xs h)

-- the only one, which a call told
pub told_only : {X : Type 0} (P : X → Type 0) (p : X → Bool) (xs : List X) (found : Option X) (x : X) → AllByRecursion P xs → found ≡ only (filter p xs) → found ≡ Some x → P x
told_only {X} P p xs found x h told is = subst (λ (o : Option X). IfSome o P) (sym told ∙ is) (only_is_of_all P p xs h)

-- Lemmas on marks that were seen before.
use Rattle.std.proofs.Common.{◌≡◌, ◌<◌, ◌≤◌, ℕ, suc, ◌+◌, add-one, List, [], ◌∷◌, ◌||◌, ◌∙◌, sym, ap, Bool, true, false, cond, length, get_or, drop, drop-cons, refl}
use Rattle.std.specs.Prelude.{None, Some, if◌then◌else◌}
use Rattle.std.specs.List.{list_any}
use Rattle.std.specs.Cmp.{IsEquivalence}
use Rattle.std.proofs.lemmas.List.{drop_all}
use Rattle.dir_records.specs.declared.refusal.DirPlace.{DirPlace}
use Rattle.dir_records.specs.Repeats.{repeat_after}

-- what came before counts by what it has
pub same_after : {X : Type 0} (same : X → X → Bool) (marks : List (DirPlace × X)) (xs ys : List X)
    → ((q : X) → list_any (same q) xs ≡ list_any (same q) ys) → repeat_after same xs marks ≡ repeat_after same ys marks
same_after same [] xs ys h = refl
same_after same (mark ∷ marks) xs ys h =
    let rest = same_after same marks (mark.1 ∷ xs) (mark.1 ∷ ys) (λ q. ap (λ b. same q mark.1 || b) (h q)) in
    rw (h mark.1, rest)

-- the marks from a place on, by the first of them
pub at_mark : {X : Type 0} (same : X → X → Bool) (before : List X) (marks : List (DirPlace × X)) (i : ℕ) (mark : DirPlace × X)
    → i < length marks → mark ≡ get_or marks i mark
    → repeat_after same before (drop i marks)
    ≡ (if list_any (same mark.1) before then Some mark.0 else repeat_after same (mark.1 ∷ before) (drop (i + 1) marks))
at_mark same before marks i mark h e =
    let cut : drop i marks ≡ mark ∷ drop (i + 1) marks = rw add-one (drop-cons marks i mark h ∙ ap (λ y. y ∷ drop (suc i) marks) (sym e)) in
    ap (repeat_after same before) cut

or_cond : (a b : Bool) → cond a true b ≡ (a || b)
or_cond true b = refl
or_cond false b = refl

-- after a key is added, a key is there where it is the added one or was there
pub added : {X : Type 0} (same : X → X → Bool) (laws : IsEquivalence same) (key : X) (xs ys : List X)
    → ((q : X) → list_any (same q) ys ≡ cond (same key q) true (list_any (same q) xs))
    → (q : X) → list_any (same q) ys ≡ list_any (same q) (key ∷ xs)
added same laws key xs ys h q =
    h q ∙ ap (λ b. cond b true (list_any (same q) xs)) (laws.symm key q) ∙ or_cond (same q key) (list_any (same q) xs)

pub no_mark : {X : Type 0} (same : X → X → Bool) (before : List X) (marks : List (DirPlace × X)) (i : ℕ)
    → length marks ≤ i → repeat_after same before (drop i marks) ≡ None
no_mark same before marks i h = ap (repeat_after same before) (drop_all i marks h)

-- the marks from a place on, where the first of them is there
pub at_repeat : {X : Type 0} (same : X → X → Bool) (before : List X) (marks : List (DirPlace × X)) (i : ℕ) (mark : DirPlace × X)
    → i < length marks → mark ≡ get_or marks i mark → list_any (same mark.1) before ≡ true
    → repeat_after same before (drop i marks) ≡ Some mark.0
at_repeat same before marks i mark h e found = rw (at_mark same before marks i mark h e, found)

-- the marks from a place on, where the first of them is new and joins those before
pub past_mark : {X : Type 0} (same : X → X → Bool) (laws : IsEquivalence same) (before after : List X) (marks : List (DirPlace × X)) (i : ℕ) (mark : DirPlace × X)
    → i < length marks → mark ≡ get_or marks i mark → list_any (same mark.1) before ≡ false
    → ((q : X) → list_any (same q) after ≡ cond (same mark.1 q) true (list_any (same q) before))
    → repeat_after same after (drop (i + 1) marks) ≡ repeat_after same before (drop i marks)
past_mark same laws before after marks i mark h e missing joined =
    let here : repeat_after same before (drop i marks) ≡ repeat_after same (mark.1 ∷ before) (drop (i + 1) marks) = rw (at_mark same before marks i mark h e, missing) in
    same_after same (drop (i + 1) marks) after (mark.1 ∷ before) (added same laws mark.1 before after joined) ∙ sym here

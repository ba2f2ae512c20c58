-- Lemmas on tables of conditions, of which none fails exactly where all hold.
use Rattle.std.proofs.Common.{◌≡◌, ℕ, suc, zero, ◌+◌, ◌<◌, ◌≤◌, List, [], ◌∷◌, ◌&&◌, ◌∙◌, Bool, true, false, length, get_or, below_more, sym, refl, subst, arith}
use Rattle.std.proofs.lemmas.Option.{slice_get_read}
use Rattle.std.specs.Prelude.{Option, None, Some, if◌then◌else◌, slice_get}
use Rattle.std.specs.List.{AllByRecursion, enumerate_from, list_all}
use Rattle.kdc_prelude.proofs.Verdicts.{neither}
use Rattle.kdc_prelude.specs.Verdicts.{first_failing, ◌or_else◌}
use Rattle.dir_records.specs.declared.records.Account.{Account}
use Rattle.dir_records.specs.declared.records.RealmRec.{RealmRec}
use Rattle.dir_records.specs.declared.records.Trust.{Trust}
use Rattle.dir_records.specs.declared.refusal.DirCause.{DirCause}
use Rattle.dir_records.specs.declared.refusal.DirPlace.{DirPlace}
use Rattle.dir_records.specs.Clashes.{in_realms}
use Rattle.dir_records.specs.Marks.{account_marks, trust_marks}
use Rattle.dir_records.specs.Members.{refused_at}

row_holds : {R : Type 0} (rule : R) (b : Bool) (rest : Option R) (Rest : Type 0) → (rest ≡ None → Rest) → (if b then rest else Some rule) ≡ None → (b ≡ true) × Rest
row_holds rule true rest Rest holds h = (refl, holds h)
row_holds rule false rest Rest holds h = absurd (cc)

pub rows_hold : {R : Type 0} (rows : List (R × Bool)) → first_failing rows ≡ None → AllByRecursion (λ row. row.1 ≡ true) rows
rows_hold [] h = tt
rows_hold (row ∷ rows) h = row_holds row.0 row.1 (first_failing rows) (AllByRecursion (λ other. other.1 ≡ true) rows) (rows_hold rows) h

row_passes : {R : Type 0} (rule : R) (b : Bool) (rest : Option R) → b ≡ true → rest ≡ None → (if b then rest else Some rule) ≡ None
row_passes rule true rest h k = k
row_passes rule false rest h k = absurd (cc)

pub rows_pass : {R : Type 0} (rows : List (R × Bool)) → AllByRecursion (λ row. row.1 ≡ true) rows → first_failing rows ≡ None
rows_pass [] h = refl
rows_pass (row ∷ rows) h = row_passes row.0 row.1 (first_failing rows) h.0 (rows_pass rows h.1)

pub both_none : {R : Type 0} (a b : Option R) → a ≡ None → b ≡ None → (a or_else b) ≡ None
both_none None b h k = k
both_none (Some r) b h k = absurd (cc)

pub no_fault : (place : DirPlace) (fault : Option DirCause) → refused_at place fault ≡ None → fault ≡ None
no_fault place None h = refl
no_fault place (Some cause) h = absurd (cc)

pub not_refused : (place : DirPlace) (fault : Option DirCause) → fault ≡ None → refused_at place fault ≡ None
not_refused place None h = refl
not_refused place (Some cause) h = absurd (cc)

-- the marks of accounts hold exactly where all accounts pass
pub accounts_hold : (p : Account → Bool) (at number : ℕ) (accounts : List Account) → first_failing (account_marks p at number accounts) ≡ None → list_all p accounts ≡ true
accounts_hold p at number [] h = refl
accounts_hold p at number (account ∷ accounts) h =
    all_of (p account) (rows_hold (account_marks p at number (account ∷ accounts)) h).0 (accounts_hold p at (number + 1) accounts (rows_pass _ (rows_hold (account_marks p at number (account ∷ accounts)) h).1))
  where
    all_of : (b : Bool) → b ≡ true → list_all p accounts ≡ true → (b && list_all p accounts) ≡ true
    all_of true e k = k
    all_of false e k = absurd (cc)

pub accounts_pass : (p : Account → Bool) (at number : ℕ) (accounts : List Account) → list_all p accounts ≡ true → first_failing (account_marks p at number accounts) ≡ None
accounts_pass p at number [] h = refl
accounts_pass p at number (account ∷ accounts) h =
    let parts = two (p account) (list_all p accounts) h in
    row_passes _ (p account) (first_failing (account_marks p at (number + 1) accounts)) parts.0 (accounts_pass p at (number + 1) accounts parts.1)
  where
    two : (a b : Bool) → (a && b) ≡ true → (a ≡ true) × (b ≡ true)
    two true b k = (refl, k)
    two false b k = absurd (cc)

-- the marks of trusts hold exactly where all trusts pass
pub trusts_hold : (p : Trust → Bool) (at number : ℕ) (trusts : List Trust) → first_failing (trust_marks p at number trusts) ≡ None → list_all p trusts ≡ true
trusts_hold p at number [] h = refl
trusts_hold p at number (trust ∷ trusts) h =
    all_of (p trust) (rows_hold (trust_marks p at number (trust ∷ trusts)) h).0 (trusts_hold p at (number + 1) trusts (rows_pass _ (rows_hold (trust_marks p at number (trust ∷ trusts)) h).1))
  where
    all_of : (b : Bool) → b ≡ true → list_all p trusts ≡ true → (b && list_all p trusts) ≡ true
    all_of true e k = k
    all_of false e k = absurd (cc)

pub trusts_pass : (p : Trust → Bool) (at number : ℕ) (trusts : List Trust) → list_all p trusts ≡ true → first_failing (trust_marks p at number trusts) ≡ None
trusts_pass p at number [] h = refl
trusts_pass p at number (trust ∷ trusts) h =
    let parts = two (p trust) (list_all p trusts) h in
    row_passes _ (p trust) (first_failing (trust_marks p at (number + 1) trusts)) parts.0 (trusts_pass p at (number + 1) trusts parts.1)
  where
    two : (a b : Bool) → (a && b) ≡ true → (a ≡ true) × (b ≡ true)
    two true b k = (refl, k)
    two false b k = absurd (cc)

-- nothing is found in realms exactly where nothing is found in each
pub realms_hold : (found : ℕ → RealmRec → Option DirPlace) (P : RealmRec → Type 0) → ((at : ℕ) (realm : RealmRec) → found at realm ≡ None → P realm)
    → (at : ℕ) (realms : List RealmRec) → in_realms found at realms ≡ None → AllByRecursion P realms
realms_hold found P holds at [] h = tt
realms_hold found P holds at (realm ∷ realms) h =
    let parts = neither (found at realm) (in_realms found (at + 1) realms) h in
    (holds at realm parts.0, realms_hold found P holds (at + 1) realms parts.1)

pub realms_pass : (found : ℕ → RealmRec → Option DirPlace) (P : RealmRec → Type 0) → ((at : ℕ) (realm : RealmRec) → P realm → found at realm ≡ None)
    → (at : ℕ) (realms : List RealmRec) → AllByRecursion P realms → in_realms found at realms ≡ None
realms_pass found P passes at [] h = refl
realms_pass found P passes at (realm ∷ realms) h =
    both_none (found at realm) (in_realms found (at + 1) realms) (passes at realm h.0) (realms_pass found P passes (at + 1) realms h.1)

-- what holds of all members holds of the one at an index
pub each : {X : Type 0} (P : X → Type 0) (xs : List X) (i : ℕ) (x : X) → AllByRecursion P xs → slice_get xs i ≡ Some x → P x
each P [] i x all e = absurd (cc)
each {X} P (y ∷ ys) zero x all e = subst P (only_some y x e) all.0
  where
    only_some : (a b : X) → Some a ≡ Some b → a ≡ b
    only_some a b h = cc
each P (y ∷ ys) (suc i) x all e = each P ys i x all.1 e

-- it holds of each member below an index
abbrev pub AllBelow : {X : Type 0} → (X → Type 0) → List X → ℕ → Type 0
AllBelow {X} P xs n = (k : ℕ) → k < n → (x : X) → slice_get xs k ≡ Some x → P x

-- one member more
pub below_next : {X : Type 0} (P : X → Type 0) (xs : List X) (i : ℕ) (item : X) → i < length xs → item ≡ get_or xs i item → P item → AllBelow P xs i → AllBelow P xs (i + 1)
below_next {X} P xs i item l is p below =
    below_more (λ k. (x : X) → slice_get xs k ≡ Some x → P x) i below
    (λ x e. subst P (only_some item x (sym (slice_get_read xs (length xs) i item refl l is) ∙ e)) p)
  where
    only_some : (a b : X) → Some a ≡ Some b → a ≡ b
    only_some a b h = cc

-- all members
pub from_below : {X : Type 0} (P : X → Type 0) (xs : List X) (n : ℕ) → length xs ≤ n → AllBelow P xs n → AllByRecursion P xs
from_below P [] n l below = tt
from_below P (x ∷ xs) zero l below = absurd (omega (arith, l))
from_below P (x ∷ xs) (suc n) l below =
    (below zero (omega arith) x refl, from_below P xs n (omega (arith, l)) (λ k h y e. below (suc k) (omega arith) y e))

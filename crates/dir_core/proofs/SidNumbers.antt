-- An account's SID is its realm's, followed by its number: where a SID stands in a realm.
use Rattle.std.proofs.Common.{◌≡◌, ◌≤◌, ◌<◌, ◌+◌, ◌-◌, ◌∙◌, ℕ, List, [], ◌∷◌, ◌++◌, ◌&&◌, sym, ap, Bool, true, false, length, take, nat_eq, refl, arith}
use Rattle.std.specs.Prelude.{◌==◌, None, position, slice_index}
use Rattle.std.proofs.lemmas.List.{take_all, take_more}
use Rattle.kdc_prelude.specs.Texts.{same_text}
use Rattle.krb_names.specs.SidValue.{SidValue}
use Rattle.dir_records.specs.declared.records.Account.{Account}
use Rattle.dir_core.specs.Lookups.{has_sid}
use Rattle.dir_core.proofs.Places.{position_none, position_same}

and_true : (b : Bool) → (b && true) ≡ b
and_true true = refl
and_true false = refl

and_false : (b : Bool) → (b && false) ≡ false
and_false true = refl
and_false false = refl

and_assoc : (a b c : Bool) → (a && (b && c)) ≡ ((a && b) && c)
and_assoc true b c = refl
and_assoc false b c = refl

-- texts that each end in a number are the same where the fronts are and the numbers are
ends : (xs ys : List ℕ) (n m : ℕ) → same_text (xs ++ n ∷ []) (ys ++ m ∷ []) ≡ (same_text xs ys && nat_eq n m)
ends [] [] n m = and_true (nat_eq n m)
ends [] (y ∷ []) n m = and_false (nat_eq n y)
ends [] (y ∷ z ∷ ys) n m = and_false (nat_eq n y)
ends (x ∷ []) [] n m = and_false (nat_eq x m)
ends (x ∷ z ∷ xs) [] n m = and_false (nat_eq x m)
ends (x ∷ xs) (y ∷ ys) n m = ap (λ b. nat_eq x y && b) (ends xs ys n m) ∙ and_assoc (nat_eq x y) (same_text xs ys) (nat_eq n m)

in_two : (numbers : List ℕ) → 1 ≤ length numbers → numbers ≡ take (length numbers - 1) numbers ++ slice_index numbers (length numbers - 1) ∷ []
in_two numbers h =
    let last = length numbers - 1 in
    let within : last < length numbers = omega arith in
    let all : length numbers ≤ last + 1 = omega arith in
    sym (take_all (last + 1) numbers all) ∙ take_more numbers last 0 within

-- whether the SID is of the realm's domain
abbrev pub is_of_domain : SidValue → SidValue → Bool
is_of_domain realm sid = (realm.authority == sid.authority) && same_text realm.numbers (take (length sid.numbers - 1) sid.numbers)

has_number : (realm sid : SidValue) (account : Account) → 1 ≤ length sid.numbers
    → has_sid realm sid account ≡ (is_of_domain realm sid && nat_eq account.number (slice_index sid.numbers (length sid.numbers - 1)))
has_number realm sid account h =
    let front = take (length sid.numbers - 1) sid.numbers in
    let last = slice_index sid.numbers (length sid.numbers - 1) in
    ap (λ numbers. (realm.authority == sid.authority) && same_text (realm.numbers ++ account.number ∷ []) numbers) (in_two sid.numbers h)
    ∙ ap (λ b. (realm.authority == sid.authority) && b) (ends realm.numbers front account.number last)
    ∙ and_assoc (realm.authority == sid.authority) (same_text realm.numbers front) (nat_eq account.number last)

pub in_domain : (realm sid : SidValue) (accounts : List Account) → 1 ≤ length sid.numbers → is_of_domain realm sid ≡ true
    → position (λ account. account.number == slice_index sid.numbers (length sid.numbers - 1)) accounts ≡ position (has_sid realm sid) accounts
in_domain realm sid accounts h domain =
    sym (position_same (has_sid realm sid) (λ account. account.number == slice_index sid.numbers (length sid.numbers - 1)) (λ account. has_number realm sid account h ∙ ap (λ b. b && nat_eq account.number (slice_index sid.numbers (length sid.numbers - 1))) domain) accounts)

pub in_other_domain : (realm sid : SidValue) (accounts : List Account) → 1 ≤ length sid.numbers → is_of_domain realm sid ≡ false → None ≡ position (has_sid realm sid) accounts
in_other_domain realm sid accounts h domain =
    sym (position_none (has_sid realm sid) (λ account. has_number realm sid account h ∙ ap (λ b. b && nat_eq account.number (slice_index sid.numbers (length sid.numbers - 1))) domain) accounts)

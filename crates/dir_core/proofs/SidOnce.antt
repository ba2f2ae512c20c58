-- At most one account of well-formed realms has a SID.
use Rattle.std.proofs.Common.{◌≡◌, ℕ, ◌+◌, ◌≤◌, List, [], ◌∷◌, ◌++◌, ◌||◌, ◌&&◌, ◌∙◌, sym, ap, Bool, true, false, not, map, length, refl, arith, nat_eq, length-append}
use Rattle.std.specs.Prelude.{◌==◌, count_by, sum_by}
use Rattle.std.specs.List.{list_all, list_any, starts_with}
use Rattle.std.specs.Cmp.{IsEquivalence}
use Rattle.std.specs.Cmp.Lexicographic.{same_text as equal_texts}
use Rattle.std.proofs.lemmas.Bool.{eqb-true}
use Rattle.std.proofs.lemmas.Cmp.{nat_eq_equiv, nat_list_eq_equiv}
use Rattle.std.proofs.lemmas.List.{take_all}
use Rattle.std.proofs.lemmas.List.Sums.{sum_by-cons}
use Rattle.std.proofs.Math.Nat.{le_refl}
use Rattle.kdc_prelude.specs.Distinct.{all_distinct}
use Rattle.kdc_prelude.specs.Texts.{same_text}
use Rattle.krb_names.specs.SidValue.{SidValue, followed_by, same_sid}
use Rattle.dir_records.specs.declared.records.Account.{Account}
use Rattle.dir_records.specs.declared.records.RealmRec.{RealmRec}
use Rattle.dir_records.specs.Clashes.{overlaps}
use Rattle.dir_core.specs.Lookups.{has_sid}
use Rattle.dir_core.proofs.Once.{at_most_one, with_first}

both_true : (a b : Bool) → (a && b) ≡ true → (a ≡ true) × (b ≡ true)
both_true true b h = (refl, h)
both_true false b h = absurd (cc)

and_true : (b : Bool) → (b && true) ≡ b
and_true true = refl
and_true false = refl

-- what two equal SIDs have in common
equal_sids : (a b : SidValue) → same_sid a b ≡ true → (a.authority ≡ b.authority) × (a.numbers ≡ b.numbers)
equal_sids a b h =
    let parts = both_true (a.authority == b.authority) (same_text a.numbers b.numbers) h in
    (eqb-true a.authority b.authority parts.0, equal_texts a.numbers b.numbers (sym parts.1))

sid_symm : (a b : SidValue) → same_sid a b ≡ same_sid b a
sid_symm a b = rw (nat_eq_equiv.symm a.authority b.authority, nat_list_eq_equiv.symm a.numbers b.numbers) refl

sid_refl : (a : SidValue) → same_sid a a ≡ true
sid_refl a = rw (nat_eq_equiv.refl a.authority, nat_list_eq_equiv.refl a.numbers) refl

sid_congr : (a b c : SidValue) → same_sid a b ≡ true → same_sid a c ≡ same_sid b c
sid_congr a b c h =
    let parts = both_true (a.authority == b.authority) (same_text a.numbers b.numbers) h in
    rw (nat_eq_equiv.congr a.authority b.authority c.authority parts.0, nat_list_eq_equiv.congr a.numbers b.numbers c.numbers parts.1) refl

sid_laws : IsEquivalence same_sid
sid_laws = record { refl = sid_refl; symm = sid_symm; congr = sid_congr }

last_alike : (xs : List ℕ) (n m : ℕ) → same_text (xs ++ n ∷ []) (xs ++ m ∷ []) ≡ nat_eq n m
last_alike [] n m = and_true (nat_eq n m)
last_alike (x ∷ xs) n m = rw (nat_eq_equiv.refl x) (last_alike xs n m)

same_number : (sid : SidValue) (n m : ℕ) → same_sid (followed_by sid n) (followed_by sid m) ≡ nat_eq n m
same_number sid n m = rw (nat_eq_equiv.refl sid.authority) (last_alike sid.numbers n m)

any_account : (sid : SidValue) (n : ℕ) (accounts : List Account)
    → list_any (same_sid (followed_by sid n)) (map (λ account. followed_by sid account.number) accounts) ≡ list_any (nat_eq n) (map (λ account. account.number) accounts)
any_account sid n [] = refl
any_account sid n (account ∷ accounts) = rw (same_number sid n account.number, any_account sid n accounts) refl

distinct_sids : (sid : SidValue) (accounts : List Account)
    → all_distinct same_sid (map (λ account. followed_by sid account.number) accounts) ≡ all_distinct nat_eq (map (λ account. account.number) accounts)
distinct_sids sid [] = refl
distinct_sids sid (account ∷ accounts) = rw (any_account sid account.number accounts, distinct_sids sid accounts) refl

in_realm : (sid wanted : SidValue) (accounts : List Account) → all_distinct nat_eq (map (λ account. account.number) accounts) ≡ true
    → count_by (has_sid sid wanted) accounts ≤ 1
in_realm sid wanted accounts h =
    at_most_one same_sid sid_laws (λ account. followed_by sid account.number) wanted accounts (distinct_sids sid accounts ∙ h)

init_same : (xs ys : List ℕ) (n m : ℕ) → xs ++ n ∷ [] ≡ ys ++ m ∷ [] → xs ≡ ys
init_same [] [] n m e = refl
init_same [] (y ∷ ys) n m e = absurd (omega (arith, ap length e, length-append ys (m ∷ [])))
init_same (x ∷ xs) [] n m e = absurd (omega (arith, ap length e, length-append xs (n ∷ [])))
init_same (x ∷ xs) (y ∷ ys) n m e =
    let heads : x ≡ y = cc in
    let tails : xs ++ n ∷ [] ≡ ys ++ m ∷ [] = cc in
    let rest = init_same xs ys n m tails in cc

begins_with_itself : (xs : List ℕ) → starts_with nat_eq xs xs ≡ true
begins_with_itself xs = rw (take_all (length xs) xs (le_refl (length xs))) (nat_list_eq_equiv.refl xs)

same_overlap : (a b : SidValue) → a.authority ≡ b.authority → a.numbers ≡ b.numbers → overlaps a b ≡ true
same_overlap a b e f = rw (e, f, nat_eq_equiv.refl b.authority, begins_with_itself b.numbers) refl

-- realms with accounts of one SID overlap
overlap_of : (a b wanted : SidValue) (n m : ℕ) → same_sid (followed_by a n) wanted ≡ true → same_sid (followed_by b m) wanted ≡ true → overlaps a b ≡ true
overlap_of a b wanted n m h k =
    let one = equal_sids (followed_by a n) wanted h in
    let other = equal_sids (followed_by b m) wanted k in
    same_overlap a b (one.0 ∙ sym other.0) (init_same a.numbers b.numbers n m (one.1 ∙ sym other.1))

neither_first : (a b : Bool) → (a || b) ≡ false → (a ≡ false) × (b ≡ false)
neither_first true b h = absurd (cc)
neither_first false b h = (refl, h)

none_of : {X : Type 0} (p : X → Bool) (xs : List X) → list_any p xs ≡ false → count_by p xs ≡ 0
none_of p [] h = refl
none_of p (x ∷ xs) h = let parts = neither_first (p x) (list_any p xs) h in with_first p x xs ∙ rw (parts.0, none_of p xs parts.1) refl

-- where an account of one realm has the SID, no account of a realm apart from it has it
elsewhere : (a b wanted : SidValue) (n : ℕ) → same_sid (followed_by a n) wanted ≡ true → overlaps a b ≡ false
    → (accounts : List Account) → list_any (has_sid b wanted) accounts ≡ false
elsewhere a b wanted n h apart [] = refl
elsewhere a b wanted n h apart (account ∷ accounts) =
    by_test (has_sid b wanted account) refl (elsewhere a b wanted n h apart accounts)
  where
    by_test : (r : Bool) → has_sid b wanted account ≡ r → list_any (has_sid b wanted) accounts ≡ false → (has_sid b wanted account || list_any (has_sid b wanted) accounts) ≡ false
    by_test true e rest = absurd (clash (overlap_of a b wanted n account.number h e) apart)
      where
        clash : overlaps a b ≡ true → overlaps a b ≡ false → ⊥
        clash p q = cc
    by_test false e rest = rw (e, rest) refl

abbrev having : SidValue → RealmRec → ℕ
having wanted realm = count_by (has_sid realm.sid wanted) realm.accounts

in_no_other : (a wanted : SidValue) (n : ℕ) → same_sid (followed_by a n) wanted ≡ true
    → (realms : List RealmRec) → list_any (overlaps a) (map (λ realm. realm.sid) realms) ≡ false → sum_by (having wanted) realms ≡ 0
in_no_other a wanted n h [] apart = refl
in_no_other a wanted n h (realm ∷ realms) apart =
    let parts = neither_first (overlaps a realm.sid) (list_any (overlaps a) (map (λ other. other.sid) realms)) apart in
    let here : having wanted realm ≡ 0 = none_of (has_sid realm.sid wanted) realm.accounts (elsewhere a realm.sid wanted n h parts.0 realm.accounts) in
    let rest = in_no_other a wanted n h realms parts.1 in
    sum_by-cons (having wanted) realm realms ∙ rw (here, rest) refl

-- the number of an account that has the SID
number_of : (sid wanted : SidValue) (accounts : List Account) → list_any (has_sid sid wanted) accounts ≡ true
    → (n : ℕ) × (same_sid (followed_by sid n) wanted ≡ true)
number_of sid wanted [] h = absurd (cc)
number_of sid wanted (account ∷ accounts) h = by_test (has_sid sid wanted account) refl h (λ k. number_of sid wanted accounts k)
  where
    by_test : (b : Bool) → has_sid sid wanted account ≡ b → (b || list_any (has_sid sid wanted) accounts) ≡ true
        → (list_any (has_sid sid wanted) accounts ≡ true → (n : ℕ) × (same_sid (followed_by sid n) wanted ≡ true)) → (n : ℕ) × (same_sid (followed_by sid n) wanted ≡ true)
    by_test true e k rest = (account.number, e)
    by_test false e k rest = rest k

not_and : (a b : Bool) → (not a && b) ≡ true → (a ≡ false) × (b ≡ true)
not_and true b h = absurd (cc)
not_and false b h = (refl, h)

pub once_by_sid : (wanted : SidValue) (realms : List RealmRec)
    → all_distinct overlaps (map (λ realm. realm.sid) realms) ≡ true
    → list_all (λ realm. all_distinct nat_eq (map (λ account. account.number) realm.accounts)) realms ≡ true
    → sum_by (λ realm. count_by (has_sid realm.sid wanted) realm.accounts) realms ≤ 1
once_by_sid wanted [] apart numbers = omega arith
once_by_sid wanted (realm ∷ realms) apart numbers =
    let sids = not_and (list_any (overlaps realm.sid) (map (λ other. other.sid) realms)) (all_distinct overlaps (map (λ other. other.sid) realms)) apart in
    let own = both_true (all_distinct nat_eq (map (λ account. account.number) realm.accounts)) (list_all (λ other. all_distinct nat_eq (map (λ account. account.number) other.accounts)) realms) numbers in
    let few = in_realm realm.sid wanted realm.accounts own.0 in
    let rest = once_by_sid wanted realms sids.1 own.1 in
    rw (sum_by-cons (having wanted) realm realms) (by_test (list_any (has_sid realm.sid wanted) realm.accounts) refl sids.0 few rest)
  where
    by_test : (b : Bool) → list_any (has_sid realm.sid wanted) realm.accounts ≡ b → list_any (overlaps realm.sid) (map (λ other. other.sid) realms) ≡ false
        → having wanted realm ≤ 1 → sum_by (having wanted) realms ≤ 1 → having wanted realm + sum_by (having wanted) realms ≤ 1
    by_test true e others few rest =
        let number = number_of realm.sid wanted realm.accounts e in
        let none = in_no_other realm.sid wanted number.0 number.1 realms others in
        omega arith
    by_test false e others few rest =
        let none : having wanted realm ≡ 0 = none_of (has_sid realm.sid wanted) realm.accounts e in
        omega arith

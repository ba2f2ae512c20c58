-- The indexes of realms, as far as they are built.
use Rattle.std.proofs.Common.{◌≡◌, ◌<◌, ◌+◌, ◌∙◌, ℕ, List, [], ◌∷◌, ◌++◌, ◌||◌, sym, ap, Bool, true, false, get_or, length, take, refl, arith}
use Rattle.std.specs.Prelude.{Option, None, Some, if◌then◌else◌, position}
use Rattle.std.specs.List.{AllZip, list_any}
use Rattle.std.proofs.lemmas.Cmp.{nat_list_eq_equiv}
use Rattle.std.proofs.lemmas.List.{length-take-le}
use Rattle.std.proofs.lemmas.List.Folds.{list_any-append}
use Rattle.kdc_prelude.specs.Texts.{is_one_of, same_text}
use Rattle.dir_indexes.specs.Places.{Adds, or_place}
use Rattle.dir_records.specs.declared.records.Account.{Account}
use Rattle.dir_records.specs.declared.records.RealmRec.{RealmRec}
use Rattle.dir_core.specs.declared.indexes.RealmIndex.{RealmIndex}
use Rattle.dir_core.specs.Indexed.{IsRealmIndexed, IsSameIndex, in_account, in_realm}
use Rattle.dir_core.specs.Lookups.{first_place, has_spn, spn_place_from}
use Rattle.dir_core.proofs.Places.{one_more, position_next}

or_false : (b : Bool) → (b || false) ≡ b
or_false true = refl
or_false false = refl

-- a service principal name more of one account
pub spn_next : (place : ℕ × ℕ) (first old new : List ℕ → Option (ℕ × ℕ)) (spns : List (List ℕ)) (i : ℕ) (spn : List ℕ) → i < length spns → spn ≡ get_or spns i spn
    → ((q : List ℕ) → old q ≡ in_account place (first q) (is_one_of (take i spns) q)) → Adds same_text old new spn place
    → (q : List ℕ) → new q ≡ in_account place (first q) (is_one_of (take (i + 1) spns) q)
spn_next place first old new spns i spn h e before adds q =
    let more : is_one_of (take (i + 1) spns) q ≡ (is_one_of (take i spns) q || same_text spn q) =
    ap (list_any (same_text q)) (one_more spns i spn h e)
    ∙ list_any-append (same_text q) (take i spns) (spn ∷ [])
    ∙ ap (λ b. is_one_of (take i spns) q || b) (or_false (same_text q spn) ∙ nat_list_eq_equiv.symm q spn) in
    adds q
    ∙ ap (λ (o : Option (ℕ × ℕ)). if same_text spn q then or_place o place else o) (before q)
    ∙ by_test (is_one_of (take i spns) q) (same_text spn q) (first q)
    ∙ sym (ap (in_account place (first q)) more)
  where
    by_test : (a b : Bool) (o : Option (ℕ × ℕ)) → (if b then or_place (in_account place o a) place else in_account place o a) ≡ in_account place o (a || b)
    by_test true true None = refl
    by_test true true (Some there) = refl
    by_test true false o = refl
    by_test false true o = refl
    by_test false false o = refl

-- an account more of one realm
pub account_next : (realm : ℕ) (first old new : List ℕ → Option (ℕ × ℕ)) (accounts : List Account) (i : ℕ) (account : Account) → i < length accounts → account ≡ get_or accounts i account
    → ((q : List ℕ) → old q ≡ in_realm realm (first q) (position (has_spn q) (take i accounts)))
    → ((q : List ℕ) → new q ≡ in_account (realm, i) (old q) (is_one_of account.spns q))
    → (q : List ℕ) → new q ≡ in_realm realm (first q) (position (has_spn q) (take (i + 1) accounts))
account_next realm first old new accounts i account h e before adds q =
    adds q
    ∙ ap (λ (o : Option (ℕ × ℕ)). in_account (realm, i) o (is_one_of account.spns q)) (before q)
    ∙ by_test (is_one_of account.spns q) (position (has_spn q) (take i accounts)) (first q)
    ∙ sym (ap (in_realm realm (first q)) (position_next (has_spn q) accounts i account h e))
  where
    by_test : (b : Bool) (place : Option ℕ) (o : Option (ℕ × ℕ))
        → in_account (realm, i) (in_realm realm o place) b ≡ in_realm realm o (if b then or_place place i else place)
    by_test true None o = refl
    by_test true (Some there) None = refl
    by_test true (Some there) (Some other) = refl
    by_test false place o = refl

after_last : (q : List ℕ) (n : ℕ) (realms : List RealmRec) (realm : RealmRec)
    → spn_place_from q n (realms ++ realm ∷ []) ≡ in_realm (n + length realms) (spn_place_from q n realms) (position (has_spn q) realm.accounts)
after_last q n [] realm = let here : n ≡ n + 0 = omega arith in by_place (position (has_spn q) realm.accounts) here
  where
    by_place : (o : Option ℕ) → n ≡ n + 0 → first_place n o None ≡ in_realm (n + 0) None o
    by_place None e = refl
    by_place (Some account) e = ap (λ k. Some (k, account)) e
after_last q n (other ∷ realms) realm =
    let there : (n + 1) + length realms ≡ n + length (other ∷ realms) = omega arith in
    ap (first_place n (position (has_spn q) other.accounts)) (after_last q (n + 1) realms realm ∙ ap (λ k. in_realm k (spn_place_from q (n + 1) realms) (position (has_spn q) realm.accounts)) there)
    ∙ by_place (position (has_spn q) other.accounts) (position (has_spn q) realm.accounts)
  where
    by_place : (o p : Option ℕ) → first_place n o (in_realm (n + length (other ∷ realms)) (spn_place_from q (n + 1) realms) p)
        ≡ in_realm (n + length (other ∷ realms)) (first_place n o (spn_place_from q (n + 1) realms)) p
    by_place None p = refl
    by_place (Some account) None = refl
    by_place (Some account) (Some later) = refl

-- a realm more
pub realm_next : (old new : List ℕ → Option (ℕ × ℕ)) (realms : List RealmRec) (i : ℕ) (realm : RealmRec) → i < length realms → realm ≡ get_or realms i realm
    → ((q : List ℕ) → old q ≡ spn_place_from q 0 (take i realms))
    → ((q : List ℕ) → new q ≡ in_realm i (old q) (position (has_spn q) realm.accounts))
    → (q : List ℕ) → new q ≡ spn_place_from q 0 (take (i + 1) realms)
realm_next old new realms i realm h e before adds q =
    let size : i ≡ 0 + length (take i realms) = omega (arith, length-take-le i realms) in
    adds q
    ∙ ap (λ (o : Option (ℕ × ℕ)). in_realm i o (position (has_spn q) realm.accounts)) (before q)
    ∙ ap (λ k. in_realm k (spn_place_from q 0 (take i realms)) (position (has_spn q) realm.accounts)) size
    ∙ sym (after_last q 0 (take i realms) realm)
    ∙ sym (ap (spn_place_from q 0) (one_more realms i realm h e))

copied_index : (old new : RealmIndex) (realm : RealmRec) → IsSameIndex old new → IsRealmIndexed old realm → IsRealmIndexed new realm
copied_index old new realm same indexed = record {
  names = λ name. same.names name ∙ indexed.names name;
  numbers = λ number. same.numbers number ∙ indexed.numbers number;
}

-- copies of realms' indexes index the same realms
pub copied_indexes : (old new : List RealmIndex) (realms : List RealmRec) → AllZip IsSameIndex old new → AllZip IsRealmIndexed old realms → AllZip IsRealmIndexed new realms
copied_indexes [] [] realms same zip = zip
copied_indexes [] (b ∷ new) realms same zip = absurd same
copied_indexes (a ∷ old) [] realms same zip = absurd same
copied_indexes (a ∷ old) (b ∷ new) [] same zip = absurd zip
copied_indexes (a ∷ old) (b ∷ new) (realm ∷ realms) same zip = (copied_index a b realm same.0 zip.0, copied_indexes old new realms same.1 zip.1)

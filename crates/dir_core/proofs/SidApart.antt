-- The SIDs of well-formed realms are apart, and so are the numbers of the accounts of each.
use Rattle.std.proofs.Common.{◌≡◌, ℕ, ◌+◌, ◌++◌, List, [], ◌∷◌, ◌||◌, ◌&&◌, ◌∙◌, sym, ap, map, refl, nat_eq, Bool, true, false, not}
use Rattle.std.proofs.lemmas.Cmp.{nat_eq_equiv}
use Rattle.std.proofs.lemmas.List.{map-append}
use Rattle.std.specs.List.{list_all, list_any, starts_with}
use Rattle.std.specs.Prelude.{Option, None, Some, is_none, if◌then◌else◌}
use Rattle.kdc_prelude.proofs.Verdicts.{neither}
use Rattle.kdc_prelude.specs.Distinct.{all_distinct}
use Rattle.kdc_prelude.specs.Texts.{same_text}
use Rattle.kdc_prelude.specs.Verdicts.{◌or_else◌}
use Rattle.krb_names.specs.SidValue.{SidValue}
use Rattle.dir_records.specs.declared.records.Account.{Account}
use Rattle.dir_records.specs.declared.records.RealmRec.{RealmRec}
use Rattle.dir_records.specs.declared.records.SpentNumber.{SpentNumber}
use Rattle.dir_records.specs.declared.refusal.DirCause.TheVariants.{Duplicate, SameKey, UnknownRef}
use Rattle.dir_records.specs.declared.refusal.DirPlace.{DirPlace}
use Rattle.dir_records.specs.Clashes.{◌or_earlier◌, duplicate, entry_repeat, in_realms, overlaps, realm_names, realm_sids, shared_key, unknown_reference}
use Rattle.dir_records.specs.DirectoryValue.{DirectoryValue}
use Rattle.dir_records.specs.Marks.{account_marks, marks_of, name_marks, number_marks, partner_marks, spent_number_marks, spn_marks}
use Rattle.dir_records.specs.Repeats.{first_repeat}
use Rattle.dir_records.specs.WellFormed.{is_well_formed, refused_for}
use Rattle.dir_records.proofs.Apart.{marked, neither_earlier}
use Rattle.dir_records.proofs.Bounds.{clash_none}
use Rattle.dir_records.proofs.Distinctness.{no_repeat}

numbers_of : (at number : ℕ) (accounts : List Account) → marked (account_marks (λ account. account.number) at number accounts) ≡ map (λ account. account.number) accounts
numbers_of at number [] = refl
numbers_of at number (account ∷ accounts) = ap (λ rest. account.number ∷ rest) (numbers_of at (number + 1) accounts)

sids_of : (at : ℕ) (realms : List RealmRec) → marked (realm_sids at realms) ≡ map (λ realm. realm.sid) realms
sids_of at [] = refl
sids_of at (realm ∷ realms) = ap (λ rest. realm.sid ∷ rest) (sids_of (at + 1) realms)

no_duplicate : (found : Option DirPlace) → refused_for Duplicate found ≡ None → found ≡ None
no_duplicate None h = refl
no_duplicate (Some place) h = absurd (cc)

or_comm : (a b : Bool) → (a || b) ≡ (b || a)
or_comm true true = refl
or_comm true false = refl
or_comm false true = refl
or_comm false false = refl

overlaps_symm : (a b : SidValue) → overlaps a b ≡ overlaps b a
overlaps_symm a b = rw (nat_eq_equiv.symm a.authority b.authority, or_comm (starts_with nat_eq a.numbers b.numbers) (starts_with nat_eq b.numbers a.numbers)) refl

behind : {X : Type 0} (same : X → X → Bool) (xs ys : List X) → all_distinct same (xs ++ ys) ≡ true → all_distinct same ys ≡ true
behind same [] ys h = h
behind same (x ∷ xs) ys h = behind same xs ys (second (list_any (same x) (xs ++ ys)) (all_distinct same (xs ++ ys)) h)
  where
    second : (a b : Bool) → (not a && b) ≡ true → b ≡ true
    second true b h = absurd (cc)
    second false b h = h

abbrev number_repeat : List SpentNumber → ℕ → RealmRec → Option DirPlace
number_repeat spent at realm = first_repeat nat_eq (spent_number_marks spent realm ++ number_marks at realm)

abbrev numbers_apart : RealmRec → Bool
numbers_apart realm = all_distinct nat_eq (map (λ account. account.number) realm.accounts)

-- the numbers of a realm stand once alone, also among those spent there
in_realm : (spent : List SpentNumber) (at : ℕ) (realm : RealmRec) → number_repeat spent at realm ≡ None → numbers_apart realm ≡ true
in_realm spent at realm h =
    let all = sym (no_repeat nat_eq nat_eq_equiv.symm (spent_number_marks spent realm ++ number_marks at realm)) ∙ ap is_none h in
    let parts = sym (map-append (λ mark. mark.1) (spent_number_marks spent realm) (number_marks at realm)) in
    let later = behind nat_eq (marked (spent_number_marks spent realm)) (marked (number_marks at realm)) (ap (all_distinct nat_eq) parts ∙ all) in
    ap (all_distinct nat_eq) (sym (numbers_of at 1 realm.accounts)) ∙ later

in_each : (spent : List SpentNumber) (at : ℕ) (realms : List RealmRec) → in_realms (number_repeat spent) at realms ≡ None → list_all numbers_apart realms ≡ true
in_each spent at [] h = refl
in_each spent at (realm ∷ realms) h =
    let parts = neither (number_repeat spent at realm) (in_realms (number_repeat spent) (at + 1) realms) h in
    rw (in_realm spent at realm parts.0, in_each spent (at + 1) realms parts.1) refl

pub record AreSidsApart (realms : List RealmRec) : Type 0 where
  pub sids : all_distinct overlaps (map (λ realm. realm.sid) realms) ≡ true
  pub numbers : list_all (λ realm. all_distinct nat_eq (map (λ account. account.number) realm.accounts)) realms ≡ true

pub sids_apart : (dir : DirectoryValue) → is_well_formed dir ≡ true → AreSidsApart dir.realms
sids_apart dir h =
    let realms = dir.realms in
    let found = no_duplicate (duplicate dir.spent_numbers realms) (neither (refused_for Duplicate (duplicate dir.spent_numbers realms)) (refused_for SameKey (shared_key dir.spent_keys realms) or_else refused_for UnknownRef (unknown_reference realms)) (clash_none dir h)).0 in
    let entries = in_realms entry_repeat 0 realms in
    let spns = first_repeat same_text (marks_of spn_marks realms) in
    let partners = in_realms (λ at realm. first_repeat same_text (partner_marks at realm)) 0 realms in
    let numbers = in_realms (number_repeat dir.spent_numbers) 0 realms in
    let accounts = in_realms (λ at realm. first_repeat same_text (name_marks at realm)) 0 realms in
    let sids = first_repeat overlaps (realm_sids 0 realms) in
    let names = first_repeat same_text (realm_names 0 realms) in
    let past_names = neither_earlier names (sids or_earlier accounts or_earlier numbers or_earlier partners or_earlier spns or_earlier entries) found in
    let past_sids = neither_earlier sids (accounts or_earlier numbers or_earlier partners or_earlier spns or_earlier entries) past_names.1 in
    let past_accounts = neither_earlier accounts (numbers or_earlier partners or_earlier spns or_earlier entries) past_sids.1 in
    let past_numbers = neither_earlier numbers (partners or_earlier spns or_earlier entries) past_accounts.1 in
    record {
      sids = ap (all_distinct overlaps) (sym (sids_of 0 realms)) ∙ sym (no_repeat overlaps overlaps_symm (realm_sids 0 realms)) ∙ ap is_none past_sids.0;
      numbers = in_each dir.spent_numbers 0 realms past_numbers.0;
    }

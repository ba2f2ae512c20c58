-- What stands apart in well-formed realms.
use Rattle.std.proofs.Common.{◌≡◌, ℕ, suc, zero, ◌+◌, ◌++◌, List, [], ◌∷◌, ◌∙◌, sym, ap, map, refl, nat_eq, Bool, true, false}
use Rattle.std.proofs.lemmas.List.{map-append}
use Rattle.std.specs.Prelude.{Option, None, Some, is_none, flat_map, slice_get, if◌then◌else◌}
use Rattle.std.proofs.lemmas.Cmp.{nat_list_eq_equiv}
use Rattle.kdc_prelude.proofs.Verdicts.{neither}
use Rattle.kdc_prelude.specs.Distinct.{all_distinct}
use Rattle.kdc_prelude.specs.Texts.{same_text}
use Rattle.kdc_prelude.specs.Verdicts.{◌or_else◌}
use Rattle.dir_records.specs.declared.records.Account.{Account}
use Rattle.dir_records.specs.declared.records.RealmRec.{RealmRec}
use Rattle.dir_records.specs.declared.refusal.DirPlace.{DirPlace}
use Rattle.dir_records.specs.declared.refusal.DirPlace.TheVariants.{Account as AtAccount}
use Rattle.dir_records.specs.declared.refusal.DirCause.{DirCause}
use Rattle.dir_records.specs.declared.refusal.DirCause.TheVariants.{Duplicate, SameKey, UnknownRef}
use Rattle.dir_records.specs.Clashes.{◌or_earlier◌, duplicate, entry_repeat, in_realms, is_before, overlaps, realm_names, realm_sids, shared_key, unknown_reference}
use Rattle.dir_records.specs.Marks.{account_marks, marks_from, marks_of, name_marks, number_marks, partner_marks, spent_number_marks, spn_marks, spn_marks_from}
use Rattle.dir_records.specs.DirectoryValue.{DirectoryValue}
use Rattle.dir_records.specs.WellFormed.{is_well_formed, refused_for}
use Rattle.dir_records.proofs.Bounds.{clash_none}
use Rattle.dir_records.specs.Repeats.{first_repeat}
use Rattle.dir_records.proofs.Distinctness.{no_repeat}

-- what the marks are, without their places
abbrev pub marked : {X : Type 0} → List (DirPlace × X) → List X
marked marks = map (λ mark. mark.1) marks

pub of_accounts : {X : Type 0} (mark : Account → X) (at number : ℕ) (accounts : List Account) → marked (account_marks mark at number accounts) ≡ map mark accounts
of_accounts mark at number [] = refl
of_accounts mark at number (account ∷ accounts) = ap (λ rest. mark account ∷ rest) (of_accounts mark at (number + 1) accounts)

at_place : {X : Type 0} (place : DirPlace) (xs : List X) → marked (map (λ x. (place, x)) xs) ≡ xs
at_place place [] = refl
at_place place (x ∷ xs) = ap (λ rest. x ∷ rest) (at_place place xs)

pub of_spns : (at number : ℕ) (accounts : List Account) → marked (spn_marks_from at number accounts) ≡ flat_map (λ account. account.spns) accounts
of_spns at number [] = refl
of_spns at number (account ∷ accounts) =
    map-append (λ mark. mark.1) (map (λ spn. (AtAccount at number, spn)) account.spns) (spn_marks_from at (number + 1) accounts)
    ∙ rw (at_place (AtAccount at number) account.spns, of_spns at (number + 1) accounts)

pub of_realms : {X : Type 0} (marks : ℕ → RealmRec → List (DirPlace × X)) (values : RealmRec → List X) → ((at : ℕ) (realm : RealmRec) → marked (marks at realm) ≡ values realm)
    → (at : ℕ) (realms : List RealmRec) → marked (marks_from marks at realms) ≡ flat_map values realms
of_realms marks values h at [] = refl
of_realms marks values h at (realm ∷ realms) =
    map-append (λ mark. mark.1) (marks at realm) (marks_from marks (at + 1) realms) ∙ rw (h at realm, of_realms marks values h (at + 1) realms)

pub of_names : (at : ℕ) (realms : List RealmRec) → marked (realm_names at realms) ≡ map (λ realm. realm.name) realms
of_names at [] = refl
of_names at (realm ∷ realms) = ap (λ rest. realm.name ∷ rest) (of_names (at + 1) realms)

apart : (marks : List (DirPlace × List ℕ)) (values : List (List ℕ)) → marked marks ≡ values → first_repeat same_text marks ≡ None → all_distinct same_text values ≡ true
apart marks values e h = ap (all_distinct same_text) (sym e) ∙ sym (no_repeat same_text nat_list_eq_equiv.symm marks) ∙ ap is_none h

pub neither_earlier : (a b : Option DirPlace) → (a or_earlier b) ≡ None → (a ≡ None) × (b ≡ None)
neither_earlier None b h = (refl, h)
neither_earlier (Some place) None h = absurd (cc)
neither_earlier (Some place) (Some other) h = absurd (some (is_before other place) h)
  where
    some : (b : Bool) → (if b then Some other else Some place) ≡ None → ⊥
    some true h = cc
    some false h = cc

not_refused : (cause : DirCause) (found : Option DirPlace) → refused_for cause found ≡ None → found ≡ None
not_refused cause None h = refl
not_refused cause (Some place) h = absurd (cc)

-- what of a directory's parts is found to stand once alone
pub record IsApart (realms : List RealmRec) : Type 0 where
  pub names : all_distinct same_text (map (λ realm. realm.name) realms) ≡ true
  pub accounts : in_realms (λ at realm. first_repeat same_text (name_marks at realm)) 0 realms ≡ None
  pub spns : all_distinct same_text (flat_map (λ realm. flat_map (λ account. account.spns) realm.accounts) realms) ≡ true

pub are_apart : (dir : DirectoryValue) → is_well_formed dir ≡ true → IsApart dir.realms
are_apart dir h =
    let realms = dir.realms in
    let clash = clash_none dir h in
    let found = not_refused Duplicate (duplicate dir.spent_numbers realms) (neither (refused_for Duplicate (duplicate dir.spent_numbers realms)) (refused_for SameKey (shared_key dir.spent_keys realms) or_else refused_for UnknownRef (unknown_reference realms)) clash).0 in
    let entries = in_realms entry_repeat 0 realms in
    let spns = first_repeat same_text (marks_of spn_marks realms) in
    let partners = in_realms (λ at realm. first_repeat same_text (partner_marks at realm)) 0 realms in
    let numbers = in_realms (λ at realm. first_repeat nat_eq (spent_number_marks dir.spent_numbers realm ++ number_marks at realm)) 0 realms in
    let accounts = in_realms (λ at realm. first_repeat same_text (name_marks at realm)) 0 realms in
    let sids = first_repeat overlaps (realm_sids 0 realms) in
    let names = first_repeat same_text (realm_names 0 realms) in
    let past_sids = neither_earlier names (sids or_earlier accounts or_earlier numbers or_earlier partners or_earlier spns or_earlier entries) found in
    let past_accounts = neither_earlier sids (accounts or_earlier numbers or_earlier partners or_earlier spns or_earlier entries) past_sids.1 in
    let past_numbers = neither_earlier accounts (numbers or_earlier partners or_earlier spns or_earlier entries) past_accounts.1 in
    let past_partners = neither_earlier numbers (partners or_earlier spns or_earlier entries) past_numbers.1 in
    let past_spns = neither_earlier partners (spns or_earlier entries) past_partners.1 in
    let past_entries = neither_earlier spns entries past_spns.1 in
    record {
      names = apart (realm_names 0 realms) (map (λ realm. realm.name) realms) (of_names 0 realms) past_sids.0;
      accounts = past_numbers.0;
      spns = apart (marks_of spn_marks realms) _ (of_realms spn_marks (λ realm. flat_map (λ account. account.spns) realm.accounts) (λ at realm. of_spns at 1 realm.accounts) 0 realms) past_entries.0;
    }

in_each : (found : ℕ → RealmRec → Option DirPlace) (at : ℕ) (realms : List RealmRec) → in_realms found at realms ≡ None
    → (i : ℕ) (realm : RealmRec) → slice_get realms i ≡ Some realm → (n : ℕ) × (found n realm ≡ None)
in_each found at [] h i realm e = absurd (cc)
in_each found at (first ∷ realms) h zero realm e =
    (at, ap (λ r. found at r) (only_some first realm e) ∙ (neither (found at first) (in_realms found (at + 1) realms) h).0)
  where
    only_some : (x y : RealmRec) → Some x ≡ Some y → y ≡ x
    only_some x y e = cc
in_each found at (first ∷ realms) h (suc i) realm e = in_each found (at + 1) realms (neither (found at first) (in_realms found (at + 1) realms) h).1 i realm e

pub apart_names : (dir : DirectoryValue) → is_well_formed dir ≡ true → (i : ℕ) (realm : RealmRec) → slice_get dir.realms i ≡ Some realm
    → all_distinct same_text (map (λ account. account.name) realm.accounts) ≡ true
apart_names dir h i realm e =
    let found = in_each (λ at other. first_repeat same_text (name_marks at other)) 0 dir.realms (are_apart dir h).accounts i realm e in
    apart (name_marks found.0 realm) _ (of_accounts (λ account. account.name) found.0 1 realm.accounts) found.1

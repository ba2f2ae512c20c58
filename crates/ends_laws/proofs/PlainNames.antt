-- An account that is found by a name of kind 1 and one part has that name.
use Rattle.std.proofs.Common.{◌≡◌, ◌∙◌, ℕ, pos, Bool, true, false, cond, List, [], ◌∷◌, Option, None, Some, refl, sym, ap}
use Rattle.std.specs.Prelude.{◌==◌, option_and_then, option_map, slice_get}
use lib.Pointwise.{bytes_decides}
use Rattle.kdc_prelude.specs.Steps.{◌>>=◌}
use Rattle.kdc_prelude.specs.Texts.{same_text}
use Rattle.kdc_prelude.proofs.Bools.{both}
use Rattle.krb_names.specs.declared.principal.Principal.{Principal}
use Rattle.kdc_records.specs.declared.subject.Subject.{Subject}
use Rattle.dir_records.specs.declared.records.Account.{Account as AccountRec}
use Rattle.dir_records.specs.declared.records.RealmRec.{RealmRec}
use Rattle.dir_records.specs.DirectoryValue.{DirectoryValue}
use Rattle.dir_core.specs.Lookups.{account_at, account_named}
use Rattle.route_rules.specs.Aims.{place_meant}
use Rattle.route_rules.specs.Meanings.{account_meant}
use Rattle.as_core.specs.AsRules.{client_account, client_index, index_in}
use Rattle.s4u_rules.specs.SelfRules.{is_user_of, user_asked, user_record, user_record_in}
use Rattle.tgs_core.specs.Grants.{principal_of_account, principal_of_subject}
use Rattle.tgs_core.proofs.FoundGrants.{step_of}
use Rattle.ends_laws.specs.Ends.{IsPlain}
use Rattle.ends_laws.proofs.NamedAccounts.{named_account}

-- ---- plain names

abbrev pub plain : List ℕ → List ℕ → Principal
plain part realm = record { kind = pos 1; parts = part ∷ []; realm = realm }

pub plain_is : (name : Principal) (h : IsPlain name) → plain h.part name.realm ≡ name
plain_is name h = λ i. record { kind = sym h.kind i; parts = sym h.lone i; realm = name.realm }

-- of the same part and realm
pub plain_same : (name : Principal) (part realm : List ℕ) (h : IsPlain name) → part ≡ h.part → realm ≡ name.realm → plain part realm ≡ name
plain_same name part realm h same here = (λ i. plain (same i) (here i)) ∙ plain_is name h

chosen_first : {A : Type 0} (b : Bool) (a : Option A) (x : A) → cond b a None ≡ Some x → (b ≡ true) × (a ≡ Some x)
chosen_first true a x h = (refl, h)
chosen_first false a x h = absurd (cc)

placed_account : (dir : DirectoryValue) (at k : ℕ) (realm : RealmRec) (account : AccountRec) → slice_get dir.realms at ≡ Some realm → account_at dir at k ≡ Some account → slice_get realm.accounts k ≡ Some account
placed_account dir at k realm account here e = sym (ap (option_and_then (λ (r : RealmRec). slice_get r.accounts k)) here) ∙ e

-- ---- the client of an AS-REQ

index_by : (at j : ℕ) (o : Option ℕ) → (place_meant (account_meant (option_map (λ (k : ℕ). let place : ℕ × ℕ = (at, k) in place) o)) >>= index_in at) ≡ Some j → o ≡ Some j
index_by at j None h = absurd (cc)
index_by at j (Some k) h = (chosen_first (at == at) (Some k) j h).1

index_of : (dir : DirectoryValue) (at j : ℕ) (part realm : List ℕ) → client_index dir at (plain part realm) ≡ Some j → account_named dir at part ≡ Some j
index_of dir at j part realm h = index_by at j (account_named dir at part) h

pub client_named : (dir : DirectoryValue) (at : ℕ) (realm : RealmRec) (account : AccountRec) (client : Principal) (h : IsPlain client) → slice_get dir.realms at ≡ Some realm
    → client_account dir at (Some client) ≡ Some account → account.name ≡ h.part
client_named dir at realm account client h here found =
    let own : client_account dir at (Some (plain h.part client.realm)) ≡ Some account = ap (λ (name : Principal). client_account dir at (Some name)) (plain_is client h) ∙ found in
    let index = step_of (client_index dir at (plain h.part client.realm)) (account_at dir at) account own in
    named_account dir at index.value realm account h.part here (index_of dir at index.value h.part client.realm index.was) (placed_account dir at index.value realm account here index.is)

-- ---- the user of S4U2self

asked_is : (part realm : List ℕ) → user_asked (plain part realm) ≡ (part, realm)
unfolding user_asked
asked_is part realm = refl

asked_by : (user : Principal) (h : IsPlain user) → user_asked user ≡ (h.part, user.realm)
asked_by user h = sym (ap user_asked (plain_is user h)) ∙ asked_is h.part user.realm

record UserFound (dir : DirectoryValue) (at : ℕ) (realm : RealmRec) (account : AccountRec) (part of : List ℕ) : Type 0 where
  here : of ≡ realm.name
  named : account.name ≡ part

user_in : (dir : DirectoryValue) (at : ℕ) (realm : RealmRec) (account : AccountRec) (part of : List ℕ) → slice_get dir.realms at ≡ Some realm → user_record_in dir at realm (part, of) ≡ Some account
    → UserFound dir at realm account part of
user_in dir at realm account part of here e =
    let own = chosen_first (same_text of realm.name) (account_named dir at part >>= account_at dir at) account e in
    let index = step_of (account_named dir at part) (account_at dir at) account own.1 in
    record {
      here = (bytes_decides of realm.name).0 own.0;
      named = named_account dir at index.value realm account part here index.was (placed_account dir at index.value realm account here index.is);
    }

user_found : (dir : DirectoryValue) (at : ℕ) (realm : RealmRec) (account : AccountRec) (user : Principal) (h : IsPlain user) → slice_get dir.realms at ≡ Some realm → user_record dir at user ≡ Some account
    → UserFound dir at realm account h.part user.realm
unfolding user_record
user_found dir at realm account user h here e =
    let by : Option RealmRec → Option AccountRec = λ (o : Option RealmRec). o >>= λ (r : RealmRec). user_record_in dir at r (user_asked user) in
    let in_realm : user_record_in dir at realm (user_asked user) ≡ Some account = sym (ap by here) ∙ e in
    user_in dir at realm account h.part user.realm here (sym (ap (user_record_in dir at realm) (asked_by user h)) ∙ in_realm)

-- the account's name
pub local_user : (dir : DirectoryValue) (at : ℕ) (realm : RealmRec) (account : AccountRec) (user : Principal) → IsPlain user → slice_get dir.realms at ≡ Some realm → user_record dir at user ≡ Some account
    → principal_of_account realm account ≡ user
local_user dir at realm account user h here e =
    let found = user_found dir at realm account user h here e in
    plain_same user account.name realm.name h found.named (sym found.here)

-- the name of the user of a ticket
pub told_user : (subject : Subject) (user : Principal) → IsPlain user → is_user_of subject user ≡ true → principal_of_subject subject ≡ user
told_user subject user h is =
    let asked = asked_by user h in
    let texts = both (same_text subject.realm (user_asked user).1) (same_text subject.name (user_asked user).0) is in
    let of_realm : subject.realm ≡ user.realm = (bytes_decides subject.realm (user_asked user).1).0 texts.0 ∙ ap (λ (p : List ℕ × List ℕ). p.1) asked in
    let of_name : subject.name ≡ h.part = (bytes_decides subject.name (user_asked user).0).0 texts.1 ∙ ap (λ (p : List ℕ × List ℕ). p.0) asked in
    plain_same user subject.name subject.realm h of_name of_realm

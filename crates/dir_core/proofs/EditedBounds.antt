-- How many realms, accounts and trusts there are after a change.
use Rattle.std.proofs.Common.{◌≤◌, ◌<◌, ◌+◌, ◌^◌, List, [], ◌∷◌, ◌++◌, Bool, true, false, not, length, map, get_or, arith, length-append}
use Rattle.std.specs.Prelude.{All, filter, if◌then◌else◌}
use Rattle.std.proofs.lemmas.List.{length-map}
use Rattle.std.proofs.lemmas.List.Elements.{All-map}
use Rattle.std.proofs.lemmas.List.Sums.{count_by-le-length, length-filter}
use Rattle.kdc_prelude.specs.Texts.{same_text}
use Rattle.dir_records.specs.declared.change.Change.{Change}
use Rattle.dir_records.specs.declared.change.Change.TheVariants.{AddAccount, RemoveAccount, SetMark, SetKey, AddSpn, RemoveSpn, AddClassic, RemoveClassic, AddResource, RemoveResource, AddGroup, RemoveGroup, SetLife, AddReach, RemoveReach}
use Rattle.dir_records.specs.declared.records.Account.{Account}
use Rattle.dir_records.specs.declared.records.RealmRec.{RealmRec}
use Rattle.dir_records.specs.Changes.{realm_of}
use Rattle.dir_records.proofs.Bounds.{AreBounded}
use Rattle.dir_core.specs.Edits.{account_after, accounts_after, edited_realm, new_account, realm_after, trust_after}

few_left : (p : Account → Bool) (accounts : List Account) → length (filter p accounts) ≤ length accounts
few_left p accounts = rw (length-filter p accounts) (count_by-le-length p accounts)

one_more : (account : Account) (accounts : List Account) → length (accounts ++ account ∷ []) ≤ length accounts + 1
one_more account accounts = omega (arith, length-append accounts (account ∷ []))

as_many : (change : Change) (accounts : List Account) → length (map (account_after change) accounts) ≤ length accounts + 1
as_many change accounts = omega (arith, length-map accounts (account_after change))

pub few_accounts_after : (change : Change) (accounts : List Account) → length (accounts_after change accounts) ≤ length accounts + 1
few_accounts_after (AddAccount realm name number key) accounts = one_more (new_account realm name number key) accounts
few_accounts_after (RemoveAccount realm name) accounts =
    let few = few_left (λ account. not (same_text account.name name)) accounts in omega arith
few_accounts_after (SetMark realm name mark on) accounts = as_many (SetMark realm name mark on) accounts
few_accounts_after (SetKey realm name key) accounts = as_many (SetKey realm name key) accounts
few_accounts_after (AddSpn realm name spn) accounts = as_many (AddSpn realm name spn) accounts
few_accounts_after (RemoveSpn realm name spn) accounts = as_many (RemoveSpn realm name spn) accounts
few_accounts_after (AddClassic realm name spn) accounts = as_many (AddClassic realm name spn) accounts
few_accounts_after (RemoveClassic realm name spn) accounts = as_many (RemoveClassic realm name spn) accounts
few_accounts_after (AddResource realm name sid) accounts = as_many (AddResource realm name sid) accounts
few_accounts_after (RemoveResource realm name sid) accounts = as_many (RemoveResource realm name sid) accounts
few_accounts_after (AddGroup realm name number) accounts = as_many (AddGroup realm name number) accounts
few_accounts_after (RemoveGroup realm name number) accounts = as_many (RemoveGroup realm name number) accounts
few_accounts_after (SetLife realm life) accounts = as_many (SetLife realm life) accounts
few_accounts_after (AddReach realm partner reach) accounts = as_many (AddReach realm partner reach) accounts
few_accounts_after (RemoveReach realm partner reach) accounts = as_many (RemoveReach realm partner reach) accounts

accounts_of_either : (b : Bool) (change : Change) (realm : RealmRec) → length realm.accounts ≤ 100000
    → length ((if b then edited_realm change realm else realm).accounts) < 2 ^ 32
accounts_of_either true change realm h = let few = few_accounts_after change realm.accounts in omega arith
accounts_of_either false change realm h = omega arith

trusts_of_either : (b : Bool) (change : Change) (realm : RealmRec) → length realm.trusts ≤ 32
    → length ((if b then edited_realm change realm else realm).trusts) ≤ 32
trusts_of_either true change realm h = omega (arith, length-map realm.trusts (trust_after change))
trusts_of_either false change realm h = h

pub few_realms_after : (change : Change) (realms : List RealmRec) → AreBounded realms → length (map (realm_after change) realms) ≤ 64
few_realms_after change realms h = let few = h.few in omega (arith, length-map realms (realm_after change))

pub accounts_bounded_after : (change : Change) (realms : List RealmRec) → AreBounded realms
    → All (λ realm. length realm.accounts < 2 ^ 32) (map (realm_after change) realms)
accounts_bounded_after change realms h =
    All-map (λ realm. length realm.accounts < 2 ^ 32) (realm_after change) realms
    (λ i d l. accounts_of_either (same_text (get_or realms i d).name (realm_of change)) change (get_or realms i d) (h.each i d l).accounts)

pub trusts_bounded_after : (change : Change) (realms : List RealmRec) → AreBounded realms
    → All (λ realm. length realm.trusts ≤ 32) (map (realm_after change) realms)
trusts_bounded_after change realms h =
    All-map (λ realm. length realm.trusts ≤ 32) (realm_after change) realms
    (λ i d l. trusts_of_either (same_text (get_or realms i d).name (realm_of change)) change (get_or realms i d) (h.each i d l).trusts)

-- A change whose values are in their ranges keeps a directory in range.
use Rattle.std.proofs.Common.{◌≡◌, ℕ, suc, zero, ◌<◌, ◌^◌, List, [], ◌∷◌, ◌++◌, Bool, true, false, not, map, nat_eq, refl}
use Rattle.std.proofs.lemmas.Str.{IsUtf8-append, IsUtf8-from_is_utf8, is_utf8-from_IsUtf8}
use Rattle.std.specs.List.{AllByRecursion}
use Rattle.std.specs.Option.{option_to_list}
use Rattle.std.specs.Prelude.{IfSome, Option, None, Some, filter, find, if◌then◌else◌, option_and_then, slice_get}
use Rattle.kdc_prelude.specs.Texts.{same_text}
use Rattle.krb_names.specs.Keys.{key_bytes}
use Rattle.krb_names.specs.SidValue.{SidValue, same_sid}
use Rattle.dir_records.specs.declared.change.Change.{Change}
use Rattle.dir_records.specs.declared.change.Change.TheVariants.{AddAccount, RemoveAccount, SetMark, SetKey, AddSpn, RemoveSpn, AddClassic, RemoveClassic, AddResource, RemoveResource, AddGroup, RemoveGroup, SetLife, AddReach, RemoveReach}
use Rattle.dir_records.specs.declared.change.Mark.{Mark}
use Rattle.dir_records.specs.declared.change.Mark.TheVariants.{Disabled, NotDelegated, TrustedToAuth, Preauth}
use Rattle.dir_records.specs.declared.records.Account.{Account}
use Rattle.dir_records.specs.declared.records.KeyRec.{KeyRec}
use Rattle.dir_records.specs.declared.records.RealmRec.{RealmRec}
use Rattle.dir_records.specs.declared.records.SpentNumber.{SpentNumber}
use Rattle.dir_records.specs.declared.records.Trust.{Trust}
use Rattle.dir_records.specs.Changes.{IsChangeInRange, named_account, partner_of, realm_of}
use Rattle.dir_records.specs.DirectoryValue.{DirectoryValue}
use Rattle.dir_records.specs.IsDirectory.{IsAccountInRange, IsInRange, IsKeyInRange, IsRealmInRange, IsSidInRange, IsSpentNumberInRange, IsText, IsTrustInRange}
use Rattle.dir_core.specs.Edits.{account_after, account_in, accounts_after, changed_account, edited, edited_account, edited_realm, edited_trust, is_named, key_taken, life_after, marked, new_account, number_taken, realm_after, trust_after, without}
use Rattle.dir_core.specs.Lookups.{account_at, account_named, realm_named}

pub all_append : {X : Type 0} (P : X → Type 0) (xs ys : List X) → AllByRecursion P xs → AllByRecursion P ys → AllByRecursion P (xs ++ ys)
all_append P [] ys h k = k
all_append P (x ∷ xs) ys h k = (h.0, all_append P xs ys h.1 k)

all_map : {X : Type 0} (P : X → Type 0) (f : X → X) → ((x : X) → P x → P (f x)) → (xs : List X) → AllByRecursion P xs → AllByRecursion P (map f xs)
all_map P f step [] h = tt
all_map P f step (x ∷ xs) h = (step x h.0, all_map P f step xs h.1)

all_filter : {X : Type 0} (P : X → Type 0) (test : X → Bool) (xs : List X) → AllByRecursion P xs → AllByRecursion P (filter test xs)
all_filter P test [] h = tt
all_filter {X} P test (x ∷ xs) h = by_test (test x) (filter test xs) (all_filter P test xs h.1)
  where
    by_test : (b : Bool) (rest : List X) → AllByRecursion P rest → AllByRecursion P (if b then x ∷ rest else rest)
    by_test true rest k = (h.0, k)
    by_test false rest k = k

either : {X : Type 0} (P : X → Type 0) (b : Bool) (old new : X) → P old → P new → P (if b then new else old)
either P true old new h k = k
either P false old new h k = h

new_in_range : (realm name : List ℕ) (number : ℕ) (key : KeyRec) → IsText realm → IsText name → number < 2 ^ 32 → IsKeyInRange key → IsAccountInRange (new_account realm name number key)
new_in_range realm name number key r n i k =
    record {
      name = n;
      number = i;
      key = k;
      salt = is_utf8-from_IsUtf8 (realm ++ name) (IsUtf8-append realm name (IsUtf8-from_is_utf8 realm r) (IsUtf8-from_is_utf8 name n));
      spns = tt;
      classic = tt;
      resource = tt;
      groups = tt;
    }

-- an account of the same name, number and salt
remade : (account other : Account) → IsAccountInRange account → other.name ≡ account.name → other.number ≡ account.number → other.salt ≡ account.salt
    → IsKeyInRange other.key → AllByRecursion IsText other.spns → AllByRecursion IsText other.classic → AllByRecursion IsSidInRange other.resource → AllByRecursion (λ (group : ℕ). group < 2 ^ 32) other.groups
    → IsAccountInRange other
remade account other h name number salt key spns classic resource groups =
    record {
      name = rw name h.name;
      number = rw number h.number;
      key = key;
      salt = rw salt h.salt;
      spns = spns;
      classic = classic;
      resource = resource;
      groups = groups;
    }

marked_in_range : (mark : Mark) (on : Bool) (account : Account) → IsAccountInRange account → IsAccountInRange (marked mark on account)
marked_in_range Disabled on account h = remade account (marked Disabled on account) h refl refl refl h.key h.spns h.classic h.resource h.groups
marked_in_range NotDelegated on account h = remade account (marked NotDelegated on account) h refl refl refl h.key h.spns h.classic h.resource h.groups
marked_in_range TrustedToAuth on account h = remade account (marked TrustedToAuth on account) h refl refl refl h.key h.spns h.classic h.resource h.groups
marked_in_range Preauth on account h = remade account (marked Preauth on account) h refl refl refl h.key h.spns h.classic h.resource h.groups

edited_account_in_range : (change : Change) → IsChangeInRange change → (account : Account) → IsAccountInRange account → IsAccountInRange (edited_account change account)
edited_account_in_range (SetMark realm name mark on) v account h = marked_in_range mark on account h
edited_account_in_range (SetKey realm name key) v account h =
    remade account (edited_account (SetKey realm name key) account) h refl refl refl v.2 h.spns h.classic h.resource h.groups
edited_account_in_range (AddSpn realm name spn) v account h =
    remade account (edited_account (AddSpn realm name spn) account) h refl refl refl h.key (all_append IsText account.spns (spn ∷ []) h.spns (v.2, tt)) h.classic h.resource h.groups
edited_account_in_range (RemoveSpn realm name spn) v account h =
    remade account (edited_account (RemoveSpn realm name spn) account) h refl refl refl h.key (all_filter IsText (λ other. not (same_text other spn)) account.spns h.spns) h.classic h.resource h.groups
edited_account_in_range (AddClassic realm name spn) v account h =
    remade account (edited_account (AddClassic realm name spn) account) h refl refl refl h.key h.spns (all_append IsText account.classic (spn ∷ []) h.classic (v.2, tt)) h.resource h.groups
edited_account_in_range (RemoveClassic realm name spn) v account h =
    remade account (edited_account (RemoveClassic realm name spn) account) h refl refl refl h.key h.spns (all_filter IsText (λ other. not (same_text other spn)) account.classic h.classic) h.resource h.groups
edited_account_in_range (AddResource realm name sid) v account h =
    remade account (edited_account (AddResource realm name sid) account) h refl refl refl h.key h.spns h.classic (all_append IsSidInRange account.resource (sid ∷ []) h.resource (v.2, tt)) h.groups
edited_account_in_range (RemoveResource realm name sid) v account h =
    remade account (edited_account (RemoveResource realm name sid) account) h refl refl refl h.key h.spns h.classic (all_filter IsSidInRange (λ other. not (same_sid other sid)) account.resource h.resource) h.groups
edited_account_in_range (AddGroup realm name number) v account h =
    remade account (edited_account (AddGroup realm name number) account) h refl refl refl h.key h.spns h.classic h.resource (all_append (λ (group : ℕ). group < 2 ^ 32) account.groups (number ∷ []) h.groups (v.2, tt))
edited_account_in_range (RemoveGroup realm name number) v account h =
    remade account (edited_account (RemoveGroup realm name number) account) h refl refl refl h.key h.spns h.classic h.resource (all_filter (λ (group : ℕ). group < 2 ^ 32) (λ other. not (nat_eq other number)) account.groups h.groups)
edited_account_in_range (AddAccount realm name number key) v account h = h
edited_account_in_range (RemoveAccount realm name) v account h = h
edited_account_in_range (SetLife realm life) v account h = h
edited_account_in_range (AddReach realm partner reach) v account h = h
edited_account_in_range (RemoveReach realm partner reach) v account h = h

after_in_range : (change : Change) → IsChangeInRange change → (account : Account) → IsAccountInRange account → IsAccountInRange (account_after change account)
after_in_range change v account h = either IsAccountInRange (is_named (named_account change) account.name) account (edited_account change account) h (edited_account_in_range change v account h)

mapped_in_range : (change : Change) → IsChangeInRange change → (accounts : List Account) → AllByRecursion IsAccountInRange accounts → AllByRecursion IsAccountInRange (map (account_after change) accounts)
mapped_in_range change v accounts h = all_map IsAccountInRange (account_after change) (after_in_range change v) accounts h

accounts_in_range : (change : Change) → IsChangeInRange change → (accounts : List Account) → AllByRecursion IsAccountInRange accounts → AllByRecursion IsAccountInRange (accounts_after change accounts)
accounts_in_range (AddAccount realm name number key) v accounts h =
    all_append IsAccountInRange accounts (new_account realm name number key ∷ []) h (new_in_range realm name number key v.0 v.1 v.2 v.3, tt)
accounts_in_range (RemoveAccount realm name) v accounts h = all_filter IsAccountInRange (λ account. not (same_text account.name name)) accounts h
accounts_in_range (SetMark realm name mark on) v accounts h = mapped_in_range (SetMark realm name mark on) v accounts h
accounts_in_range (SetKey realm name key) v accounts h = mapped_in_range (SetKey realm name key) v accounts h
accounts_in_range (AddSpn realm name spn) v accounts h = mapped_in_range (AddSpn realm name spn) v accounts h
accounts_in_range (RemoveSpn realm name spn) v accounts h = mapped_in_range (RemoveSpn realm name spn) v accounts h
accounts_in_range (AddClassic realm name spn) v accounts h = mapped_in_range (AddClassic realm name spn) v accounts h
accounts_in_range (RemoveClassic realm name spn) v accounts h = mapped_in_range (RemoveClassic realm name spn) v accounts h
accounts_in_range (AddResource realm name sid) v accounts h = mapped_in_range (AddResource realm name sid) v accounts h
accounts_in_range (RemoveResource realm name sid) v accounts h = mapped_in_range (RemoveResource realm name sid) v accounts h
accounts_in_range (AddGroup realm name number) v accounts h = mapped_in_range (AddGroup realm name number) v accounts h
accounts_in_range (RemoveGroup realm name number) v accounts h = mapped_in_range (RemoveGroup realm name number) v accounts h
accounts_in_range (SetLife realm life) v accounts h = mapped_in_range (SetLife realm life) v accounts h
accounts_in_range (AddReach realm partner reach) v accounts h = mapped_in_range (AddReach realm partner reach) v accounts h
accounts_in_range (RemoveReach realm partner reach) v accounts h = mapped_in_range (RemoveReach realm partner reach) v accounts h

edited_trust_in_range : (change : Change) → IsChangeInRange change → (trust : Trust) → IsTrustInRange trust → IsTrustInRange (edited_trust change trust)
edited_trust_in_range (AddReach realm partner reach) v trust h =
    record { partner = h.partner; key = h.key; reach = all_append IsText trust.reach (reach ∷ []) h.reach (v.2, tt) }
edited_trust_in_range (RemoveReach realm partner reach) v trust h =
    record { partner = h.partner; key = h.key; reach = all_filter IsText (λ other. not (same_text other reach)) trust.reach h.reach }
edited_trust_in_range (AddAccount realm name number key) v trust h = h
edited_trust_in_range (RemoveAccount realm name) v trust h = h
edited_trust_in_range (SetMark realm name mark on) v trust h = h
edited_trust_in_range (SetKey realm name key) v trust h = h
edited_trust_in_range (AddSpn realm name spn) v trust h = h
edited_trust_in_range (RemoveSpn realm name spn) v trust h = h
edited_trust_in_range (AddClassic realm name spn) v trust h = h
edited_trust_in_range (RemoveClassic realm name spn) v trust h = h
edited_trust_in_range (AddResource realm name sid) v trust h = h
edited_trust_in_range (RemoveResource realm name sid) v trust h = h
edited_trust_in_range (AddGroup realm name number) v trust h = h
edited_trust_in_range (RemoveGroup realm name number) v trust h = h
edited_trust_in_range (SetLife realm life) v trust h = h

trust_in_range : (change : Change) → IsChangeInRange change → (trust : Trust) → IsTrustInRange trust → IsTrustInRange (trust_after change trust)
trust_in_range change v trust h = either IsTrustInRange (is_named (partner_of change) trust.partner) trust (edited_trust change trust) h (edited_trust_in_range change v trust h)

life_in_range : (change : Change) → IsChangeInRange change → (old : ℕ) → old < 2 ^ 64 → life_after change old < 2 ^ 64
life_in_range (SetLife realm life) v old h = v.1
life_in_range (AddAccount realm name number key) v old h = h
life_in_range (RemoveAccount realm name) v old h = h
life_in_range (SetMark realm name mark on) v old h = h
life_in_range (SetKey realm name key) v old h = h
life_in_range (AddSpn realm name spn) v old h = h
life_in_range (RemoveSpn realm name spn) v old h = h
life_in_range (AddClassic realm name spn) v old h = h
life_in_range (RemoveClassic realm name spn) v old h = h
life_in_range (AddResource realm name sid) v old h = h
life_in_range (RemoveResource realm name sid) v old h = h
life_in_range (AddGroup realm name number) v old h = h
life_in_range (RemoveGroup realm name number) v old h = h
life_in_range (AddReach realm partner reach) v old h = h
life_in_range (RemoveReach realm partner reach) v old h = h

realm_in_range : (change : Change) → IsChangeInRange change → (realm : RealmRec) → IsRealmInRange realm → IsRealmInRange (realm_after change realm)
realm_in_range change v realm h =
    either IsRealmInRange (same_text realm.name (realm_of change)) realm (edited_realm change realm) h
    (record {
      name = h.name;
      sid = h.sid;
      krbtgt = h.krbtgt;
      life = life_in_range change v realm.max_life h.life;
      accounts = accounts_in_range change v realm.accounts h.accounts;
      trusts = all_map IsTrustInRange (trust_after change) (trust_in_range change v) realm.trusts h.trusts;
    })

-- what is found is of what is there
and_then : {X Y : Type 0} (P : X → Type 0) (Q : Y → Type 0) (f : X → Option Y) (found : Option X) → IfSome found P → ((x : X) → P x → IfSome (f x) Q) → IfSome (option_and_then f found) Q
and_then P Q f None h step = tt
and_then P Q f (Some x) h step = step x h

at_index : {X : Type 0} (P : X → Type 0) (xs : List X) (i : ℕ) → AllByRecursion P xs → IfSome (slice_get xs i) P
at_index P [] i h = tt
at_index P (x ∷ xs) zero h = h.0
at_index P (x ∷ xs) (suc i) h = at_index P xs i h.1

account_at_in_range : (dir : DirectoryValue) (realm account : ℕ) → IsInRange dir → IfSome (account_at dir realm account) IsAccountInRange
account_at_in_range dir realm account h =
    and_then IsRealmInRange IsAccountInRange (λ found. slice_get found.accounts account) (slice_get dir.realms realm) (at_index IsRealmInRange dir.realms realm h.realms)
    (λ found k. at_index IsAccountInRange found.accounts account k.accounts)

account_in_range : (dir : DirectoryValue) (realm : Option ℕ) (name : Option (List ℕ)) → IsInRange dir → IfSome (account_in dir realm name) IsAccountInRange
account_in_range dir None name h = tt
account_in_range dir (Some realm) None h = tt
account_in_range dir (Some realm) (Some name) h =
    and_then (λ (i : ℕ). Unit {0}) IsAccountInRange (account_at dir realm) (account_named dir realm name) (any (account_named dir realm name)) (λ i k. account_at_in_range dir realm i h)
  where
    any : (found : Option ℕ) → IfSome found (λ i. Unit {0})
    any None = tt
    any (Some i) = tt

key_in_range : (change : Change) (account : Account) → IsAccountInRange account → IfSome (key_taken change account) IsKeyInRange
key_in_range (RemoveAccount realm name) account h = h.key
key_in_range (SetKey realm name key) account h = by_test (same_text (key_bytes account.key.key) (key_bytes key.key))
  where
    by_test : (b : Bool) → IfSome (if b then None else Some account.key) IsKeyInRange
    by_test true = tt
    by_test false = h.key
key_in_range (AddAccount realm name number key) account h = tt
key_in_range (SetMark realm name mark on) account h = tt
key_in_range (AddSpn realm name spn) account h = tt
key_in_range (RemoveSpn realm name spn) account h = tt
key_in_range (AddClassic realm name spn) account h = tt
key_in_range (RemoveClassic realm name spn) account h = tt
key_in_range (AddResource realm name sid) account h = tt
key_in_range (RemoveResource realm name sid) account h = tt
key_in_range (AddGroup realm name number) account h = tt
key_in_range (RemoveGroup realm name number) account h = tt
key_in_range (SetLife realm life) account h = tt
key_in_range (AddReach realm partner reach) account h = tt
key_in_range (RemoveReach realm partner reach) account h = tt

number_in_range : (change : Change) → IsChangeInRange change → (account : Account) → IsAccountInRange account → IfSome (number_taken change account) IsSpentNumberInRange
number_in_range (RemoveAccount realm name) v account h = record { realm = v.0; number = h.number }
number_in_range (AddAccount realm name number key) v account h = tt
number_in_range (SetMark realm name mark on) v account h = tt
number_in_range (SetKey realm name key) v account h = tt
number_in_range (AddSpn realm name spn) v account h = tt
number_in_range (RemoveSpn realm name spn) v account h = tt
number_in_range (AddClassic realm name spn) v account h = tt
number_in_range (RemoveClassic realm name spn) v account h = tt
number_in_range (AddResource realm name sid) v account h = tt
number_in_range (RemoveResource realm name sid) v account h = tt
number_in_range (AddGroup realm name number) v account h = tt
number_in_range (RemoveGroup realm name number) v account h = tt
number_in_range (SetLife realm life) v account h = tt
number_in_range (AddReach realm partner reach) v account h = tt
number_in_range (RemoveReach realm partner reach) v account h = tt

listed : {X : Type 0} (P : X → Type 0) (found : Option X) → IfSome found P → AllByRecursion P (option_to_list found)
listed P None h = tt
listed P (Some x) h = (h, tt)

pub edited_in_range : (dir : DirectoryValue) (change : Change) → IsInRange dir → IsChangeInRange change → IsInRange (edited dir change)
unfolding edited
edited_in_range dir change h v =
    let found = account_in_range dir (realm_named dir (realm_of change)) (named_account change) h in
    let key = and_then IsAccountInRange IsKeyInRange (key_taken change) (changed_account dir change) found (key_in_range change) in
    let number = and_then IsAccountInRange IsSpentNumberInRange (number_taken change) (changed_account dir change) found (number_in_range change v) in
    record {
      realms = all_map IsRealmInRange (realm_after change) (realm_in_range change v) dir.realms h.realms;
      spent_keys = all_append IsKeyInRange dir.spent_keys _ h.spent_keys (listed IsKeyInRange _ key);
      spent_numbers = all_append IsSpentNumberInRange dir.spent_numbers _ h.spent_numbers (listed IsSpentNumberInRange _ number);
    }

-- A directory's contents after a change, where it is allowed (own choice; not_delegated and trusted_to_auth are the marks of MS-SFU, "Abstract Data Model").
use Rattle.std.specs.Prelude.{ℕ, ◌++◌, Bool, true, false, not, List, [], ◌∷◌, filter, find, map, nat_eq, Option, None, Some, option_and_then, slice_get, if◌then◌else◌}
use Rattle.std.specs.Option.{option_to_list}
use Rattle.kdc_prelude.specs.Texts.{same_text}
use Rattle.krb_names.specs.Keys.{key_bytes}
use Rattle.krb_names.specs.SidValue.{same_sid}
use Rattle.dir_records.specs.declared.change.Change.{Change}
use Rattle.dir_records.specs.declared.change.Change.TheVariants.{AddAccount, RemoveAccount, SetMark, SetKey, AddSpn, RemoveSpn, AddClassic, RemoveClassic, AddResource, RemoveResource, AddGroup, RemoveGroup, SetLife, AddReach, RemoveReach}
use Rattle.dir_records.specs.declared.change.Mark.{Mark}
use Rattle.dir_records.specs.declared.change.Mark.TheVariants.{Disabled, NotDelegated, TrustedToAuth, Preauth}
use Rattle.dir_records.specs.declared.records.Account.{Account}
use Rattle.dir_records.specs.declared.records.KeyRec.{KeyRec}
use Rattle.dir_records.specs.declared.records.RealmRec.{RealmRec}
use Rattle.dir_records.specs.declared.records.SpentNumber.{SpentNumber}
use Rattle.dir_records.specs.declared.records.Trust.{Trust}
use Rattle.dir_records.specs.Changes.{named_account, partner_of, realm_of}
use Rattle.dir_records.specs.DirectoryValue.{DirectoryValue}
use Rattle.dir_core.specs.Lookups.{account_at, account_named, realm_named}

-- the name is this one
abbrev pub is_named : Option (List ℕ) → List ℕ → Bool
is_named None text = false
is_named (Some name) text = same_text text name

-- the entries but those that are the same as one
abbrev pub without : {X : Type 0} → (X → X → Bool) → X → List X → List X
without same entry entries = filter (λ other. not (same other entry)) entries

-- the default salt is the realm's name and the account's (RFC 4120, section 4); an account has to pre-authenticate
abbrev pub new_account : List ℕ → List ℕ → ℕ → KeyRec → Account
new_account realm name number key = record {
  name = name;
  number = number;
  key = key;
  salt = realm ++ name;
  spns = [];
  disabled = false;
  not_delegated = false;
  trusted_to_auth = false;
  preauth = true;
  classic = [];
  resource = [];
  groups = [];
}

abbrev pub marked : Mark → Bool → Account → Account
marked Disabled on account = record account { disabled = on }
marked NotDelegated on account = record account { not_delegated = on }
marked TrustedToAuth on account = record account { trusted_to_auth = on }
marked Preauth on account = record account { preauth = on }

-- the account that is changed
abbrev pub edited_account : Change → Account → Account
edited_account (SetMark realm name mark on) account = marked mark on account
edited_account (SetKey realm name key) account = record account { key = key }
edited_account (AddSpn realm name spn) account = record account { spns = account.spns ++ spn ∷ [] }
edited_account (RemoveSpn realm name spn) account = record account { spns = without same_text spn account.spns }
edited_account (AddClassic realm name spn) account = record account { classic = account.classic ++ spn ∷ [] }
edited_account (RemoveClassic realm name spn) account = record account { classic = without same_text spn account.classic }
edited_account (AddResource realm name sid) account = record account { resource = account.resource ++ sid ∷ [] }
edited_account (RemoveResource realm name sid) account = record account { resource = without same_sid sid account.resource }
edited_account (AddGroup realm name number) account = record account { groups = account.groups ++ number ∷ [] }
edited_account (RemoveGroup realm name number) account = record account { groups = without nat_eq number account.groups }
edited_account _ account = account

abbrev pub account_after : Change → Account → Account
account_after change account = if is_named (named_account change) account.name then edited_account change account else account

abbrev pub accounts_after : Change → List Account → List Account
accounts_after (AddAccount realm name number key) accounts = accounts ++ new_account realm name number key ∷ []
accounts_after (RemoveAccount realm name) accounts = filter (λ account. not (same_text account.name name)) accounts
accounts_after change accounts = map (account_after change) accounts

-- the trust that is changed
abbrev pub edited_trust : Change → Trust → Trust
edited_trust (AddReach realm partner reach) trust = record trust { reach = trust.reach ++ reach ∷ [] }
edited_trust (RemoveReach realm partner reach) trust = record trust { reach = without same_text reach trust.reach }
edited_trust _ trust = trust

abbrev pub trust_after : Change → Trust → Trust
trust_after change trust = if is_named (partner_of change) trust.partner then edited_trust change trust else trust

abbrev pub life_after : Change → ℕ → ℕ
life_after (SetLife realm life) old = life
life_after _ old = old

-- the realm that is changed
abbrev pub edited_realm : Change → RealmRec → RealmRec
edited_realm change realm = record realm {
  max_life = life_after change realm.max_life;
  accounts = accounts_after change realm.accounts;
  trusts = map (trust_after change) realm.trusts;
}

abbrev pub realm_after : Change → RealmRec → RealmRec
realm_after change realm = if same_text realm.name (realm_of change) then edited_realm change realm else realm

-- the account of a name in the realm at an index
abbrev pub account_in : DirectoryValue → Option ℕ → Option (List ℕ) → Option Account
account_in dir None name = None
account_in dir (Some realm) None = None
account_in dir (Some realm) (Some name) = option_and_then (account_at dir realm) (account_named dir realm name)

-- the account that a change is made to, as it is before
abbrev pub changed_account : DirectoryValue → Change → Option Account
changed_account dir change = account_in dir (realm_named dir (realm_of change)) (named_account change)

-- the trust with a partner in the realm at an index
abbrev pub trust_with : DirectoryValue → Option ℕ → Option (List ℕ) → Option Trust
trust_with dir None partner = None
trust_with dir (Some realm) None = None
trust_with dir (Some realm) (Some partner) = option_and_then (λ found. find (λ trust. same_text trust.partner partner) found.trusts) (slice_get dir.realms realm)

-- the trust that a change is made to, as it is before
abbrev pub changed_trust : DirectoryValue → Change → Option Trust
changed_trust dir change = trust_with dir (realm_named dir (realm_of change)) (partner_of change)

-- the key that a change takes away from an account: a removal its key, a new key the one before, unless they are the same
abbrev pub key_taken : Change → Account → Option KeyRec
key_taken (RemoveAccount realm name) account = Some account.key
key_taken (SetKey realm name key) account = if same_text (key_bytes account.key.key) (key_bytes key.key) then None else Some account.key
key_taken _ account = None

-- the number that a change takes away from an account
abbrev pub number_taken : Change → Account → Option SpentNumber
number_taken (RemoveAccount realm name) account = Some (record { realm = realm; number = account.number })
number_taken _ account = None

-- the directory's contents after the change
unfoldable pub edited : DirectoryValue → Change → DirectoryValue
edited dir change = record {
  realms = map (realm_after change) dir.realms;
  spent_keys = dir.spent_keys ++ option_to_list (option_and_then (key_taken change) (changed_account dir change));
  spent_numbers = dir.spent_numbers ++ option_to_list (option_and_then (number_taken change) (changed_account dir change));
}

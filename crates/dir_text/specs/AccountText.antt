-- ACCOUNT: {"name", "number": 1 to 4294967295, "key": KEY, "salt"?, "spns"?, "disabled"?, "not_delegated"?,
-- "trusted_to_auth"?, "preauth"?, "classic"?, "resource"?, "groups"?}
use Rattle.std.specs.Prelude.{ℕ, ◌+◌, true, false, List, [], ◌∷◌, ◌++◌, codes, Option, Result, Ok}
use Rattle.kdc_prelude.specs.Results.{◌>>=◌}
use Rattle.serde_json.specs.Data.{Data, Items, no_items, item}
use Rattle.serde_json.specs.Find.{get}
use Rattle.dir_records.specs.declared.records.Account.{Account}
use Rattle.dir_records.specs.declared.refusal.DirPlace.{DirPlace}
use Rattle.dir_records.specs.declared.refusal.DirPlace.TheVariants.{Account as AccountPlace}
use Rattle.dir_records.specs.declared.refusal.DirRefusal.{DirRefusal}
use Rattle.dir_text.specs.declared.account.Marks.{Marks}
use Rattle.dir_text.specs.declared.account.Rights.{Rights}
use Rattle.dir_text.specs.KeyText.{key_in}
use Rattle.dir_text.specs.Lists.{list_in}
use Rattle.dir_text.specs.Members.{is_object, is_object_of, optional, passing, required}
use Rattle.dir_text.specs.Values.{account_name_of, flag_of, number_of, salt_of, sid_of, spn_of}

abbrev pub account_members : List (List ℕ)
account_members =
    codes "name" ∷ codes "number" ∷ codes "key" ∷ codes "salt" ∷ codes "spns" ∷ codes "disabled" ∷ codes "not_delegated"
    ∷ codes "trusted_to_auth" ∷ codes "preauth" ∷ codes "classic" ∷ codes "resource" ∷ codes "groups" ∷ []

-- the marks of an account
unfoldable pub marks_of : DirPlace → Data → Result Marks DirRefusal
marks_of place d = do
  disabled ← optional false (flag_of place) (get (codes "disabled") d)
  not_delegated ← optional false (flag_of place) (get (codes "not_delegated") d)
  trusted_to_auth ← optional false (flag_of place) (get (codes "trusted_to_auth") d)
  preauth ← optional true (flag_of place) (get (codes "preauth") d)
  Ok (record { disabled = disabled; not_delegated = not_delegated; trusted_to_auth = trusted_to_auth; preauth = preauth })

-- whom an account may act towards, who may act towards it, and its groups
unfoldable pub rights_of : DirPlace → Data → Result Rights DirRefusal
rights_of place d = do
  classic ← list_in place 256 (spn_of place) (get (codes "classic") d)
  resource ← list_in place 256 (sid_of place) (get (codes "resource") d)
  groups ← list_in place 128 (number_of place 0 4294967295) (get (codes "groups") d)
  Ok (record { classic = classic; resource = resource; groups = groups })

-- an account of the realm with this name; its default salt is the realm's name and its own (RFC 4120, section 4)
unfoldable pub account_reading : List ℕ → DirPlace → Data → Result Account DirRefusal
account_reading realm place value = do
  d ← passing place is_object value
  name ← required place (get (codes "name") d) >>= account_name_of place
  id ← required place (get (codes "number") d) >>= number_of place 1 4294967295
  key ← key_in place (get (codes "key") d)
  salt ← optional (realm ++ name) (salt_of place) (get (codes "salt") d)
  spns ← list_in place 32 (spn_of place) (get (codes "spns") d)
  marks ← marks_of place d
  rights ← rights_of place d
  whole ← passing place (is_object_of account_members) d
  Ok (record {
    name = name;
    number = id;
    key = key;
    salt = salt;
    spns = spns;
    disabled = marks.disabled;
    not_delegated = marks.not_delegated;
    trusted_to_auth = marks.trusted_to_auth;
    preauth = marks.preauth;
    classic = rights.classic;
    resource = rights.resource;
    groups = rights.groups;
  })

-- the accounts of realm i from account n on, counted from 1
abbrev pub accounts_of : List ℕ → ℕ → ℕ → Items → Result (List Account) DirRefusal
accounts_of realm i n no_items = Ok []
accounts_of realm i n (item d ds) = do
  account ← account_reading realm (AccountPlace i n) d
  accounts ← accounts_of realm i (n + 1) ds
  Ok (account ∷ accounts)

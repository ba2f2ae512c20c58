-- REALM: {"name", "sid", "krbtgt": KEY, "max_life"? 36000, "accounts"?, "trusts"?}
use Rattle.std.specs.Prelude.{ℕ, ◌+◌, ◌-◌, List, [], ◌∷◌, length, codes, Option, Result, Ok}
use Rattle.kdc_prelude.specs.Results.{◌>>=◌}
use Rattle.serde_json.specs.Data.{Data, Items, no_items, item}
use Rattle.serde_json.specs.Find.{get}
use Rattle.dir_records.specs.declared.records.Account.{Account}
use Rattle.dir_records.specs.declared.records.RealmRec.{RealmRec}
use Rattle.dir_records.specs.declared.records.Trust.{Trust}
use Rattle.dir_records.specs.declared.refusal.DirPlace.TheVariants.{Realm}
use Rattle.dir_records.specs.declared.refusal.DirRefusal.{DirRefusal}
use Rattle.dir_text.specs.AccountText.{accounts_of}
use Rattle.dir_text.specs.KeyText.{key_in}
use Rattle.dir_text.specs.Lists.{entries_in}
use Rattle.dir_text.specs.Members.{is_object, is_object_of, optional, passing, required}
use Rattle.dir_text.specs.TrustText.{trusts_of}
use Rattle.dir_text.specs.Values.{number_of, realm_name_of, realm_sid_of}

abbrev pub realm_members : List (List ℕ)
realm_members = codes "name" ∷ codes "sid" ∷ codes "krbtgt" ∷ codes "max_life" ∷ codes "accounts" ∷ codes "trusts" ∷ []

-- the accounts of realm i, with room for so many
unfoldable pub accounts_in : List ℕ → ℕ → ℕ → Option Data → Result (List Account) DirRefusal
accounts_in realm i room found = entries_in (Realm i) room found >>= accounts_of realm i 1

-- the trusts of realm i, at most 32
unfoldable pub trusts_in : ℕ → Option Data → Result (List Trust) DirRefusal
trusts_in i found = entries_in (Realm i) 32 found >>= trusts_of i 1

-- realm i, with room for so many accounts
unfoldable pub realm_of : ℕ → ℕ → Data → Result RealmRec DirRefusal
realm_of i room value = do
  d ← passing (Realm i) is_object value
  name ← required (Realm i) (get (codes "name") d) >>= realm_name_of (Realm i)
  sid ← required (Realm i) (get (codes "sid") d) >>= realm_sid_of (Realm i)
  krbtgt ← key_in (Realm i) (get (codes "krbtgt") d)
  max_life ← optional 36000 (number_of (Realm i) 1 31536000) (get (codes "max_life") d)
  accounts ← accounts_in name i room (get (codes "accounts") d)
  trusts ← trusts_in i (get (codes "trusts") d)
  whole ← passing (Realm i) (is_object_of realm_members) d
  Ok (record { name = name; sid = sid; krbtgt = krbtgt; max_life = max_life; accounts = accounts; trusts = trusts })

-- the realms from realm i on, counted from 0; they share the room for accounts
abbrev pub realms_of : ℕ → ℕ → Items → Result (List RealmRec) DirRefusal
realms_of i room no_items = Ok []
realms_of i room (item d ds) = do
  realm ← realm_of i room d
  realms ← realms_of (i + 1) (room - length realm.accounts) ds
  Ok (realm ∷ realms)

-- TRUST: {"partner", "key": KEY, "reach"?}
use Rattle.std.specs.Prelude.{ℕ, ◌+◌, List, [], ◌∷◌, codes, Result, Ok}
use Rattle.kdc_prelude.specs.Results.{◌>>=◌}
use Rattle.serde_json.specs.Data.{Data, Items, no_items, item}
use Rattle.serde_json.specs.Find.{get}
use Rattle.dir_records.specs.declared.records.Trust.{Trust}
use Rattle.dir_records.specs.declared.refusal.DirPlace.{DirPlace}
use Rattle.dir_records.specs.declared.refusal.DirPlace.TheVariants.{Trust as TrustPlace}
use Rattle.dir_records.specs.declared.refusal.DirRefusal.{DirRefusal}
use Rattle.dir_text.specs.KeyText.{key_in}
use Rattle.dir_text.specs.Lists.{list_in}
use Rattle.dir_text.specs.Members.{is_object, is_object_of, passing, required}
use Rattle.dir_text.specs.Values.{realm_name_of}

abbrev pub trust_members : List (List ℕ)
trust_members = codes "partner" ∷ codes "key" ∷ codes "reach" ∷ []

unfoldable pub trust_of : DirPlace → Data → Result Trust DirRefusal
trust_of place value = do
  d ← passing place is_object value
  partner ← required place (get (codes "partner") d) >>= realm_name_of place
  key ← key_in place (get (codes "key") d)
  reach ← list_in place 63 (realm_name_of place) (get (codes "reach") d)
  whole ← passing place (is_object_of trust_members) d
  Ok (record { partner = partner; key = key; reach = reach })

-- the trusts of realm i from trust n on, counted from 1
abbrev pub trusts_of : ℕ → ℕ → Items → Result (List Trust) DirRefusal
trusts_of i n no_items = Ok []
trusts_of i n (item d ds) = do
  trust ← trust_of (TrustPlace i n) d
  trusts ← trusts_of i (n + 1) ds
  Ok (trust ∷ trusts)

-- KEY: {"etype": 17 or 18, "kvno": 1 to 4294967295, "key": hex of the type's length}
use Rattle.std.specs.Prelude.{ℕ, ◌==◌, List, [], ◌∷◌, length, codes, if◌then◌else◌, Option, None, Some, Result, Ok}
use Rattle.std.specs.Result.{result_ok}
use Rattle.kdc_prelude.specs.Results.{◌>>=◌}
use Rattle.hex.specs.Hex.{decode_of}
use Rattle.serde_json.specs.Data.{Data}
use Rattle.serde_json.specs.Find.{get}
use Rattle.krb_names.specs.Etypes.{key_length}
use Rattle.krb_names.specs.Keys.{key_of}
use Rattle.krb_names.specs.declared.etype.Etype.{Etype}
use Rattle.krb_names.specs.declared.etype.Etype.TheVariants.{Aes128, Aes256}
use Rattle.krb_names.specs.declared.key.Key.{Key}
use Rattle.dir_records.specs.declared.records.KeyRec.{KeyRec}
use Rattle.dir_records.specs.declared.refusal.DirPlace.{DirPlace}
use Rattle.dir_records.specs.declared.refusal.DirRefusal.{DirRefusal}
use Rattle.dir_text.specs.Members.{is_object, is_object_of, or_bad, passing, required}
use Rattle.dir_text.specs.Values.{number_of, text_of}

abbrev pub key_members : List (List ℕ)
key_members = codes "etype" ∷ codes "kvno" ∷ codes "key" ∷ []

abbrev pub etype_of : ℕ → Etype
etype_of n = if n == 17 then Aes128 else Aes256

-- the octets of a hex text
unfoldable pub octets_of : DirPlace → List ℕ → Result (List ℕ) DirRefusal
octets_of place text = or_bad place (result_ok (decode_of text))

-- the key with these octets, which are as many as its type has
unfoldable pub key_with : DirPlace → Etype → List ℕ → Result Key DirRefusal
key_with place etype bytes = passing place (λ octets. length octets == key_length etype) bytes >>= λ octets. Ok (key_of etype octets)

-- a fault of a key stands at its owner
unfoldable pub key_in : DirPlace → Option Data → Result KeyRec DirRefusal
key_in place found = do
  value ← required place found
  d ← passing place is_object value
  type ← required place (get (codes "etype") d) >>= number_of place 17 18
  version ← required place (get (codes "kvno") d) >>= number_of place 1 4294967295
  text ← required place (get (codes "key") d) >>= text_of place
  octets ← octets_of place text
  key ← key_with place (etype_of type) octets
  whole ← passing place (is_object_of key_members) d
  Ok (record { key = key; version = version })

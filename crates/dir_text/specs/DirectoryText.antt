-- The directory that a text is: {"realms": [REALM]}
use Rattle.std.specs.Prelude.{ℕ, List, [], ◌∷◌, length, codes, nat_lt, if◌then◌else◌, Option, None, Some, Result, Ok}
use Rattle.std.specs.Str.{is_utf8}
use Rattle.kdc_prelude.specs.Results.{◌>>=◌}
use Rattle.serde_json.specs.Data.{Data, Items, no_items, item}
use Rattle.serde_json.specs.Find.{get}
use Rattle.serde_json.specs.Read.{read}
use Rattle.dir_records.specs.DirectoryValue.{DirectoryValue}
use Rattle.dir_records.specs.WellFormed.{directory_of_realms}
use Rattle.dir_records.specs.declared.records.RealmRec.{RealmRec}
use Rattle.dir_records.specs.declared.refusal.DirCause.TheVariants.{NotJson, MissingField, TooMany}
use Rattle.dir_records.specs.declared.refusal.DirPlace.TheVariants.{Whole}
use Rattle.dir_records.specs.declared.refusal.DirRefusal.{DirRefusal}
use Rattle.dir_text.specs.Lists.{entries_of}
use Rattle.dir_text.specs.Members.{is_object, is_object_of, passing, refused, required}
use Rattle.dir_text.specs.RealmText.{realms_of}

-- a list of realms has one
abbrev pub some_of : Items → Result Items DirRefusal
some_of no_items = refused MissingField Whole
some_of (item d ds) = Ok (item d ds)

-- all members, from top to bottom; 64 realms at most, with 100,000 accounts over all
unfoldable pub realms_in : Data → Result (List RealmRec) DirRefusal
realms_in value = do
  d ← passing Whole is_object value
  ds ← required Whole (get (codes "realms") d) >>= entries_of Whole 64 >>= some_of
  realms ← realms_of 0 100000 ds
  whole ← passing Whole (is_object_of (codes "realms" ∷ [])) d
  Ok realms

-- the JSON value of a text (RFC 8259)
abbrev pub json_of : List ℕ → Option Data
json_of text = if is_utf8 text then read text else None

abbrev pub or_not_json : Option Data → Result Data DirRefusal
or_not_json None = refused NotJson Whole
or_not_json (Some d) = Ok d

unfoldable pub value_of : List ℕ → Result Data DirRefusal
value_of text = if nat_lt 16777216 (length text) then refused TooMany Whole else or_not_json (json_of text)

-- the directory of a text, or the first fault: of the text, of members, of what the realms are together
abbrev pub directory_of : List ℕ → Result DirectoryValue DirRefusal
directory_of text = value_of text >>= realms_in >>= directory_of_realms

-- The members of JSON objects: which are there, and which may be (own choice).
use Rattle.std.specs.Prelude.{ℕ, ◌&&◌, Bool, true, false, List, if◌then◌else◌, Option, None, Some, Result, Ok, Err}
use Rattle.kdc_prelude.specs.Texts.{is_one_of}
use Rattle.serde_json.specs.Data.{Data, null, boolean, number, string, array, object, Members, no_members, member}
use Rattle.serde_json.specs.Find.{as_object}
use Rattle.dir_records.specs.declared.refusal.DirCause.{DirCause}
use Rattle.dir_records.specs.declared.refusal.DirCause.TheVariants.{MissingField, BadField, NoMemory}
use Rattle.dir_records.specs.declared.refusal.DirPlace.{DirPlace}
use Rattle.dir_records.specs.declared.refusal.DirPlace.TheVariants.{Whole}
use Rattle.dir_records.specs.declared.refusal.DirRefusal.{DirRefusal}

abbrev pub refused : {X : Type 0} → DirCause → DirPlace → Result X DirRefusal
refused cause place = Err (record { cause = cause; place = place })

-- what is read, or BadField where it is nothing
abbrev pub or_bad : {X : Type 0} → DirPlace → Option X → Result X DirRefusal
or_bad place None = refused BadField place
or_bad place (Some x) = Ok x

-- what passes a test, or BadField
abbrev pub passing : {X : Type 0} → DirPlace → (X → Bool) → X → Result X DirRefusal
passing place test x = if test x then Ok x else refused BadField place

-- a member that has to be there
abbrev pub required : DirPlace → Option Data → Result Data DirRefusal
required place None = refused MissingField place
required place (Some d) = Ok d

-- what a member is read as, or the default where it is not there
abbrev pub optional : {X : Type 0} → X → (Data → Result X DirRefusal) → Option Data → Result X DirRefusal
optional default reading None = Ok default
optional default reading (Some d) = reading d

-- each member has one of these names
abbrev pub has_only : List (List ℕ) → Members → Bool
has_only names no_members = true
has_only names (member name d members) = is_one_of names name && has_only names members

-- an object whose members all have one of these names
abbrev pub is_object_of : List (List ℕ) → Data → Bool
is_object_of names null = false
is_object_of names (boolean b) = false
is_object_of names (number n) = false
is_object_of names (string s) = false
is_object_of names (array ds) = false
is_object_of names (object members) = has_only names members

abbrev pub is_object : Data → Bool
is_object null = false
is_object (boolean b) = false
is_object (number n) = false
is_object (string s) = false
is_object (array ds) = false
is_object (object _) = true

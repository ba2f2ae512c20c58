-- Lists of entries, with TooMany before the faults of entries (own choice).
use Rattle.std.specs.Prelude.{ℕ, suc, Bool, nat_lt, List, [], ◌∷◌, if◌then◌else◌, Option, None, Some, Result, Ok}
use Rattle.kdc_prelude.specs.Results.{◌>>=◌}
use Rattle.serde_json.specs.Data.{Data, Items, no_items, item}
use Rattle.serde_json.specs.Find.{as_array}
use Rattle.dir_records.specs.declared.refusal.DirCause.TheVariants.{TooMany}
use Rattle.dir_records.specs.declared.refusal.DirPlace.{DirPlace}
use Rattle.dir_records.specs.declared.refusal.DirRefusal.{DirRefusal}
use Rattle.dir_text.specs.Members.{or_bad, passing, refused}

abbrev pub count_of : Items → ℕ
count_of no_items = 0
count_of (item d ds) = suc (count_of ds)

-- the entries of a list of at most limit
abbrev pub entries_of : DirPlace → ℕ → Data → Result Items DirRefusal
entries_of place limit d = or_bad place (as_array d) >>= λ ds. if nat_lt limit (count_of ds) then refused TooMany place else Ok ds

-- the entries of a member, none where it is not there
abbrev pub entries_in : DirPlace → ℕ → Option Data → Result Items DirRefusal
entries_in place limit None = Ok no_items
entries_in place limit (Some d) = entries_of place limit d

-- what the entries are read as, each by itself
abbrev pub each_of : {X : Type 0} → (Data → Result X DirRefusal) → Items → Result (List X) DirRefusal
each_of reading no_items = Ok []
each_of reading (item d ds) = do
  x ← reading d
  xs ← each_of reading ds
  Ok (x ∷ xs)

-- what a member's list of at most limit entries is read as
unfoldable pub list_in : {X : Type 0} → DirPlace → ℕ → (Data → Result X DirRefusal) → Option Data → Result (List X) DirRefusal
list_in place limit reading found = entries_in place limit found >>= each_of reading

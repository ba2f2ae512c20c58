-- When realms make a directory, and why they do not (the order of the causes is an own choice).
use Rattle.std.specs.Prelude.{◌&&◌, Bool, nat_le, List, [], ◌∷◌, length, Option, None, Some, is_none, option_map, Result}
use Rattle.kdc_prelude.specs.Results.{unless_refused}
use Rattle.kdc_prelude.specs.Verdicts.{first_failing, ◌or_else◌}
use Rattle.dir_records.specs.declared.records.RealmRec.{RealmRec}
use Rattle.dir_records.specs.declared.refusal.DirCause.{DirCause}
use Rattle.dir_records.specs.declared.refusal.DirCause.TheVariants.{Duplicate, NoMemory, SameKey, TooMany, UnknownRef}
use Rattle.dir_records.specs.declared.refusal.DirPlace.{DirPlace}
use Rattle.dir_records.specs.declared.refusal.DirPlace.TheVariants.{Whole}
use Rattle.dir_records.specs.declared.refusal.DirRefusal.{DirRefusal}
use Rattle.dir_records.specs.Clashes.{duplicate, shared_key, unknown_reference}
use Rattle.dir_records.specs.DirectoryValue.{DirectoryValue}
use Rattle.dir_records.specs.Members.{members_refusal, refused_at}

-- a refusal of this cause, if there is a place
abbrev pub refused_for : DirCause → Option DirPlace → Option DirRefusal
refused_for cause found = option_map (λ place. record { cause = cause; place = place }) found

-- at most 100,000 spent keys, and as many spent numbers
abbrev pub has_few_spent : DirectoryValue → Bool
has_few_spent dir = nat_le (length dir.spent_keys) 100000 && nat_le (length dir.spent_numbers) 100000

-- what stands twice; else two equal keys; else a reference to what is not there
abbrev pub clash_refusal : DirectoryValue → Option DirRefusal
clash_refusal dir =
    refused_for Duplicate (duplicate dir.spent_numbers dir.realms)
    or_else refused_for SameKey (shared_key dir.spent_keys dir.realms)
    or_else refused_for UnknownRef (unknown_reference dir.realms)

-- the first refusal: of a member by itself, else of what clashes
abbrev pub first_refusal : DirectoryValue → Option DirRefusal
first_refusal dir =
    members_refusal dir.realms
    or_else refused_at Whole (first_failing ((TooMany, has_few_spent dir) ∷ []))
    or_else clash_refusal dir

unfoldable pub is_well_formed : DirectoryValue → Bool
is_well_formed dir = is_none (first_refusal dir)

-- the same conditions in the order in which a change tells them. After a change to a well-formed directory whose values have
-- their forms, a member can break no more than a limit
abbrev pub kept_rows : DirectoryValue → List (DirCause × Bool)
kept_rows dir =
    (UnknownRef, is_none (unknown_reference dir.realms))
    ∷ (Duplicate, is_none (duplicate dir.spent_numbers dir.realms))
    ∷ (SameKey, is_none (shared_key dir.spent_keys dir.realms))
    ∷ (TooMany, is_none (members_refusal dir.realms) && has_few_spent dir)
    ∷ []

-- realms before any change
abbrev pub unchanged : List RealmRec → DirectoryValue
unchanged realms = record { realms = realms; spent_keys = []; spent_numbers = [] }

-- the directory of these realms, or why they make none
abbrev pub directory_of_realms : List RealmRec → Result DirectoryValue DirRefusal
directory_of_realms realms = unless_refused (first_refusal (unchanged realms)) (unchanged realms)

-- the answer for want of memory
abbrev pub no_memory : DirRefusal
no_memory = record { cause = NoMemory; place = Whole }

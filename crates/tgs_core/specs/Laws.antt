-- What holds of what requests are granted.
use Rattle.std.specs.Prelude.{◌≡◌, ℕ, true, List, length, None, Some, is_some}
use Rattle.der_core.specs.Laws.{IsBytes}
use Rattle.krb_names.specs.declared.moment.Moment.{Moment}
use Rattle.dir_records.specs.DirectoryValue.{DirectoryValue}
use Rattle.dir_records.specs.IsDirectory.{IsDirectory}
use Rattle.ticket_parts.specs.Sound.{IsSound}
use Rattle.tgs_core.specs.Grants.{Grant, granted_record, grant_in}
use Rattle.tgs_core.specs.Verdicts.{verdict}

-- a ticket can be made of the record of what is granted to a request that no rule denies
abbrev pub GrantsAreSound : Type 0
GrantsAreSound =
    (dir : DirectoryValue) (now : Moment) (bytes block : List ℕ) (grant : Grant) → IsDirectory dir → IsBytes bytes → IsBytes block → length block ≡ 64
    → verdict dir now bytes ≡ None → grant_in dir now bytes ≡ Some grant → IsSound (granted_record grant block)

-- where no rule denies a request, something is granted to it
abbrev pub GrantsAreGiven : Type 0
GrantsAreGiven = (dir : DirectoryValue) (now : Moment) (bytes : List ℕ) → verdict dir now bytes ≡ None → is_some (grant_in dir now bytes) ≡ true

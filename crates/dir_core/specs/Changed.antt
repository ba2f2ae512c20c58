-- When a change is allowed, and why it is not (own choice).
use Rattle.std.specs.Prelude.{◌||◌, Bool, true, nat_eq, List, [], ◌∷◌, Option, is_none, is_some, Result}
use Rattle.std.specs.List.{list_any}
use Rattle.kdc_prelude.specs.Options.{holds_of}
use Rattle.kdc_prelude.specs.Results.{unless_refused}
use Rattle.kdc_prelude.specs.Texts.{is_one_of}
use Rattle.kdc_prelude.specs.Verdicts.{first_failing, ◌or_else◌}
use Rattle.krb_names.specs.SidValue.{same_sid}
use Rattle.dir_records.specs.declared.change.Change.{Change}
use Rattle.dir_records.specs.declared.change.Change.TheVariants.{RemoveSpn, RemoveClassic, RemoveResource, RemoveGroup, RemoveReach}
use Rattle.dir_records.specs.declared.records.Account.{Account}
use Rattle.dir_records.specs.declared.records.Trust.{Trust}
use Rattle.dir_records.specs.declared.refusal.DirCause.{DirCause}
use Rattle.dir_records.specs.declared.refusal.DirCause.TheVariants.{BadField, UnknownRef}
use Rattle.dir_records.specs.Changes.{named_account, has_forms, partner_of, realm_of}
use Rattle.dir_records.specs.DirectoryValue.{DirectoryValue}
use Rattle.dir_records.specs.WellFormed.{kept_rows}
use Rattle.dir_core.specs.Edits.{changed_account, changed_trust, edited}
use Rattle.dir_core.specs.Lookups.{realm_named}

-- the account has the entry that is to be removed
abbrev pub has_entry : Change → Account → Bool
has_entry (RemoveSpn realm name spn) account = is_one_of account.spns spn
has_entry (RemoveClassic realm name spn) account = is_one_of account.classic spn
has_entry (RemoveResource realm name sid) account = list_any (same_sid sid) account.resource
has_entry (RemoveGroup realm name number) account = list_any (nat_eq number) account.groups
has_entry _ account = true

-- the trust reaches the realm that is to be removed
abbrev pub has_reach : Change → Trust → Bool
has_reach (RemoveReach realm partner reach) trust = is_one_of trust.reach reach
has_reach _ trust = true

-- what can be told before the change is made: the forms of its values; then whether its realm, its account or its trust,
-- and the entry to be removed are there
abbrev pub own_rows : DirectoryValue → Change → List (DirCause × Bool)
own_rows dir change =
    (BadField, has_forms change)
    ∷ (UnknownRef, is_some (realm_named dir (realm_of change)))
    ∷ (UnknownRef, is_none (named_account change) || holds_of (has_entry change) (changed_account dir change))
    ∷ (UnknownRef, is_none (partner_of change) || holds_of (has_reach change) (changed_trust dir change))
    ∷ []

-- why a change is refused: by itself; else because what it makes is no directory. In this order: a form; what it refers to is
-- not there, or a reached realm is no other realm; a name, number, service principal name or entry is there already, or a
-- number is spent; a key has another holder, or is spent; a limit
abbrev pub change_cause : DirectoryValue → Change → Option DirCause
change_cause dir change = first_failing (own_rows dir change) or_else first_failing (kept_rows (edited dir change))

-- the directory after a change, or why it is refused
unfoldable pub changed : DirectoryValue → Change → Result DirectoryValue DirCause
changed dir change = unless_refused (change_cause dir change) (edited dir change)

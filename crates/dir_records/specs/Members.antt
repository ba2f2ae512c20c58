-- The conditions and limits that the members of realms keep, each by itself, in the order in which they are told.
-- Names are those of RFC 4120, section 6, SIDs those of MS-DTYP, section 2.4.2; the limits and causes are an own choice.
use Rattle.std.specs.Prelude.{ℕ, ◌+◌, ◌&&◌, Bool, nat_le, nat_lt, List, [], ◌∷◌, length, Option, None, option_map}
use Rattle.std.specs.List.{list_all, enumerate_from}
use Rattle.kdc_prelude.specs.Verdicts.{first_failing, ◌or_else◌}
use Rattle.krb_names.specs.Pieces.{is_name}
use Rattle.dir_records.specs.declared.records.Account.{Account}
use Rattle.dir_records.specs.declared.records.Trust.{Trust}
use Rattle.dir_records.specs.declared.records.RealmRec.{RealmRec}
use Rattle.dir_records.specs.declared.refusal.DirCause.{DirCause}
use Rattle.dir_records.specs.declared.refusal.DirCause.TheVariants.{MissingField, BadField, TooMany}
use Rattle.dir_records.specs.declared.refusal.DirPlace.{DirPlace}
use Rattle.dir_records.specs.declared.refusal.DirPlace.TheVariants.{Whole, Realm, Account as AtAccount, Trust as AtTrust}
use Rattle.dir_records.specs.declared.refusal.DirRefusal.{DirRefusal}
use Rattle.dir_records.specs.Forms.{is_account_name, is_key, is_positive, is_service_name}

-- what refuses the first item that is refused
abbrev pub first_of : {X R : Type 0} → (X → Option R) → List X → Option R
first_of refusal [] = None
first_of refusal (x ∷ xs) = refusal x or_else first_of refusal xs

-- the first row that fails, as a refusal at a place
abbrev pub refused_at : DirPlace → Option DirCause → Option DirRefusal
refused_at place fault = option_map (λ cause. record { cause = cause; place = place }) fault

-- an account's name, number, key and salt
abbrev pub identity_rows : Account → List (DirCause × Bool)
identity_rows account =
    (BadField, is_account_name account.name)
    ∷ (BadField, is_positive account.number)
    ∷ (BadField, is_key account.key)
    ∷ (BadField, nat_le (length account.salt) 1024)
    ∷ []

-- its lists: service principal names, services to which it may delegate, who may delegate to it, groups
abbrev pub list_rows : Account → List (DirCause × Bool)
list_rows account =
    (TooMany, nat_le (length account.spns) 32)
    ∷ (BadField, list_all is_service_name account.spns)
    ∷ (TooMany, nat_le (length account.classic) 256)
    ∷ (BadField, list_all is_service_name account.classic)
    ∷ (TooMany, nat_le (length account.resource) 256)
    ∷ (TooMany, nat_le (length account.groups) 128)
    ∷ []

abbrev pub account_fault : Account → Option DirCause
account_fault account = first_failing (identity_rows account) or_else first_failing (list_rows account)

abbrev pub trust_rows : Trust → List (DirCause × Bool)
trust_rows trust =
    (BadField, is_name trust.partner)
    ∷ (BadField, is_key trust.key)
    ∷ (TooMany, nat_le (length trust.reach) 63)
    ∷ (BadField, list_all is_name trust.reach)
    ∷ []

-- a realm's name, its SID, which leaves room for an account's number, its key, its longest ticket (a second to a year),
-- and, after so many accounts of other realms, how many accounts it has
abbrev pub realm_rows : ℕ → RealmRec → List (DirCause × Bool)
realm_rows others realm =
    (BadField, is_name realm.name)
    ∷ (BadField, nat_le (length realm.sid.numbers) 14)
    ∷ (BadField, is_key realm.krbtgt)
    ∷ (BadField, nat_lt 0 realm.max_life && nat_le realm.max_life 31536000)
    ∷ (TooMany, nat_le (others + length realm.accounts) 100000)
    ∷ []

-- the accounts of the realm at an index, which are counted from a number on
abbrev pub accounts_refusal : ℕ → ℕ → List Account → Option DirRefusal
accounts_refusal at number accounts = first_of (λ entry. refused_at (AtAccount at entry.0) (account_fault entry.1)) (enumerate_from number accounts)

abbrev pub trusts_refusal : ℕ → ℕ → List Trust → Option DirRefusal
trusts_refusal at number trusts = first_of (λ entry. refused_at (AtTrust at entry.0) (first_failing (trust_rows entry.1))) (enumerate_from number trusts)

-- the realm at an index, after so many accounts of other realms
abbrev pub realm_refusal : ℕ → ℕ → RealmRec → Option DirRefusal
realm_refusal at others realm =
    refused_at (Realm at) (first_failing (realm_rows others realm))
    or_else accounts_refusal at 1 realm.accounts
    or_else refused_at (Realm at) (first_failing ((TooMany, nat_le (length realm.trusts) 32) ∷ []))
    or_else trusts_refusal at 1 realm.trusts

-- realms, which are counted from an index on, after so many accounts
abbrev pub realms_refusal : ℕ → ℕ → List RealmRec → Option DirRefusal
realms_refusal at others [] = None
realms_refusal at others (realm ∷ realms) = realm_refusal at others realm or_else realms_refusal (at + 1) (others + length realm.accounts) realms

-- 1 to 64 realms
abbrev pub whole_rows : List RealmRec → List (DirCause × Bool)
whole_rows realms = (MissingField, nat_lt 0 (length realms)) ∷ (TooMany, nat_le (length realms) 64) ∷ []

-- the first member that breaks a condition or a limit
abbrev pub members_refusal : List RealmRec → Option DirRefusal
members_refusal realms = refused_at Whole (first_failing (whole_rows realms)) or_else realms_refusal 0 0 realms

-- Looking things up: each is a filter of the directory's lists (RFC 4120, section 3.1.3).
use Rattle.std.specs.Prelude.{ℕ, ◌+◌, ◌==◌, ◌&&◌, ◌||◌, if◌then◌else◌, Bool, false, List, [], ◌∷◌, Option, None, Some, position, slice_get, option_and_then, option_map}
use Rattle.std.specs.List.{list_any}
use Rattle.kdc_prelude.specs.Texts.{same_text, is_one_of}
use Rattle.krb_names.specs.declared.principal.Principal.{Principal}
use Rattle.krb_names.specs.SidValue.{SidValue, followed_by, same_sid}
use Rattle.dir_records.specs.declared.records.RealmRec.{RealmRec}
use Rattle.dir_records.specs.declared.records.Trust.{Trust}
use Rattle.dir_records.specs.declared.records.Account.{Account}
use Rattle.dir_records.specs.DirectoryValue.{DirectoryValue}

-- the index of the realm of this name
abbrev pub realm_named : DirectoryValue → List ℕ → Option ℕ
realm_named dir name = position (λ realm. same_text realm.name name) dir.realms

-- the index of the account of this name in the realm at an index
abbrev pub account_named : DirectoryValue → ℕ → List ℕ → Option ℕ
account_named dir at name = option_and_then (λ realm. position (λ account. same_text account.name name) realm.accounts) (slice_get dir.realms at)

-- the accounts, and the trusts, of a realm, where there is one
abbrev pub accounts_of : Option RealmRec → List Account
accounts_of None = []
accounts_of (Some realm) = realm.accounts

abbrev pub trusts_of : Option RealmRec → List Trust
trusts_of None = []
trusts_of (Some realm) = realm.trusts

-- those of the realm at an index
abbrev pub accounts_at : DirectoryValue → ℕ → List Account
accounts_at dir realm = accounts_of (slice_get dir.realms realm)

abbrev pub trusts_at : DirectoryValue → ℕ → List Trust
trusts_at dir realm = trusts_of (slice_get dir.realms realm)

-- the account at an index in the realm at an index
abbrev pub account_at : DirectoryValue → ℕ → ℕ → Option Account
account_at dir realm account = option_and_then (λ found. slice_get found.accounts account) (slice_get dir.realms realm)

-- its SID: the realm's, followed by its number (MS-DTYP, section 2.4.2)
abbrev pub sid_at : DirectoryValue → ℕ → ℕ → Option SidValue
sid_at dir realm account = option_and_then (λ found. option_map (λ one. followed_by found.sid one.number) (slice_get found.accounts account)) (slice_get dir.realms realm)

-- the one part of a name of one part
abbrev pub only_part : List (List ℕ) → Option (List ℕ)
only_part [] = None
only_part (part ∷ []) = Some part
only_part (part ∷ more ∷ parts) = None

-- where the account stands that a name of one part names in its realm
abbrev pub place_in : DirectoryValue → Option (List ℕ) → Option ℕ → Option (ℕ × ℕ)
place_in dir None realm = None
place_in dir (Some part) None = None
place_in dir (Some part) (Some realm) = option_map (λ account. (realm, account)) (account_named dir realm part)

-- where the account of this name stands: the index of its realm, and its own there
abbrev pub place_of : DirectoryValue → Principal → Option (ℕ × ℕ)
place_of dir name = place_in dir (only_part name.parts) (realm_named dir name.realm)

-- the account of this name, by one part and its realm
abbrev pub account_of : DirectoryValue → Principal → Option Account
account_of dir name = option_and_then (λ place. account_at dir place.0 place.1) (place_of dir name)

abbrev pub has_spn : List ℕ → Account → Bool
has_spn spn account = is_one_of account.spns spn

-- an account of the realm at i, or else a place in a later one
abbrev pub first_place : ℕ → Option ℕ → Option (ℕ × ℕ) → Option (ℕ × ℕ)
first_place i None later = later
first_place i (Some account) later = Some (i, account)

-- where the account stands that has the SPN, in the realms from i on
abbrev pub spn_place_from : List ℕ → ℕ → List RealmRec → Option (ℕ × ℕ)
spn_place_from spn i [] = None
spn_place_from spn i (realm ∷ realms) = first_place i (position (has_spn spn) realm.accounts) (spn_place_from spn (i + 1) realms)

-- where the account stands that has the SPN, in the whole directory
abbrev pub spn_place : DirectoryValue → List ℕ → Option (ℕ × ℕ)
spn_place dir spn = spn_place_from spn 0 dir.realms

-- the place is in the realm
abbrev pub is_of_realm : Option ℕ → Option (ℕ × ℕ) → Bool
is_of_realm None place = false
is_of_realm (Some realm) None = false
is_of_realm (Some realm) (Some place) = place.0 == realm

-- the account of the realm of this name that has the SPN
abbrev pub account_serving : DirectoryValue → List ℕ → List ℕ → Option Account
account_serving dir realm spn =
    if is_of_realm (realm_named dir realm) (spn_place dir spn)
    then option_and_then (λ place. account_at dir place.0 place.1) (spn_place dir spn)
    else None

-- the account of a realm of one SID has the other, that SID followed by its number
abbrev pub has_sid : SidValue → SidValue → Account → Bool
has_sid realm sid account = same_sid (followed_by realm account.number) sid

-- where an account stands that has the SID, in the realms from i on
abbrev pub sid_place_from : SidValue → ℕ → List RealmRec → Option (ℕ × ℕ)
sid_place_from sid i [] = None
sid_place_from sid i (realm ∷ realms) = first_place i (position (has_sid realm.sid sid) realm.accounts) (sid_place_from sid (i + 1) realms)

-- where an account stands that has the SID, in the whole directory
abbrev pub sid_place : DirectoryValue → SidValue → Option (ℕ × ℕ)
sid_place dir sid = sid_place_from sid 0 dir.realms

-- a trust reaches its partner, and the realms of its reach list
abbrev pub leads_to : List ℕ → Trust → Bool
leads_to name trust = same_text trust.partner name || is_one_of trust.reach name

-- the index of the first trust of the realm at one index that reaches the realm at another
abbrev pub next_hop : DirectoryValue → ℕ → ℕ → Option ℕ
next_hop dir from to =
    option_and_then (λ other. option_and_then (λ realm. position (leads_to other.name) realm.trusts) (slice_get dir.realms from)) (slice_get dir.realms to)

-- a trust with this partner reaches the realm of this name
abbrev pub reaches_from : List ℕ → List ℕ → Trust → Bool
reaches_from partner name trust = same_text trust.partner partner && leads_to name trust

-- whether a trust of the first realm with the second has what is asked of it
abbrev pub has_trust_with : (List ℕ → Trust → Bool) → Option RealmRec → Option RealmRec → Bool
has_trust_with test None other = false
has_trust_with test (Some realm) None = false
has_trust_with test (Some realm) (Some other) = list_any (test other.name) realm.trusts

-- the realm at one index has a trust with the realm at another that reaches the realm of this name
abbrev pub is_reached : DirectoryValue → ℕ → ℕ → List ℕ → Bool
is_reached dir at from name = has_trust_with (λ partner. reaches_from partner name) (slice_get dir.realms at) (slice_get dir.realms from)

-- What the name of a server means in a realm (RFC 4120, sections 6.2 and 7.3; which account a name gives is an own choice).
use Rattle.std.specs.Prelude.{ℕ, ℤ, pos, negsuc, nat_eq, ◌<◌, Bool, false, List, [], ◌∷◌, length, codes, Option, None, Some, option_map, if◌then◌else◌}
use Rattle.std.specs.List.{join_with_byte}
use Rattle.kdc_prelude.specs.Texts.{same_text}
use Rattle.krb_names.specs.declared.principal.Principal.{Principal}
use Rattle.krb_names.specs.Principals.{round_last_at}
use Rattle.dir_records.specs.DirectoryValue.{DirectoryValue}
use Rattle.dir_core.specs.Lookups.{accounts_at, place_in, realm_named, spn_place}
use Rattle.route_rules.specs.declared.meaning.Meaning.{Meaning}
use Rattle.route_rules.specs.declared.meaning.Meaning.TheVariants.{RealmAt, AccountAt}

-- NT-ENTERPRISE (RFC 4120, section 6.2)
abbrev pub is_enterprise : ℤ → Bool
is_enterprise (pos n) = nat_eq n 10
is_enterprise (negsuc n) = false

-- the account and the realm that a part `a@C` has, cut at its last `@`, in a name of that kind (RFC 6806, section 5)
abbrev pub enterprise_pieces : ℤ → List ℕ → Option (List ℕ × List ℕ)
enterprise_pieces kind part = if is_enterprise kind then round_last_at part else None

-- the account of one part: of the two pieces `a@C` the account a of realm C, else the account of this realm of that name
abbrev pub place_of_part : DirectoryValue → ℕ → List ℕ → Option (List ℕ × List ℕ) → Option (ℕ × ℕ)
place_of_part dir realm part None = place_in dir (Some part) (Some realm)
place_of_part dir realm part (Some pieces) = place_in dir (Some pieces.0) (realm_named dir pieces.1)

-- what a name means that is a realm's ticket-granting service
abbrev pub service_meant : Option ℕ → Option Meaning
service_meant realm = option_map RealmAt realm

-- what a name means that gives the account at a place
abbrev pub account_meant : Option (ℕ × ℕ) → Option Meaning
account_meant place = option_map (λ found. AccountAt found.0 found.1) place

-- what the parts mean: one an account by its name; `krbtgt`, C the ticket-granting service of realm C; any other two, or
-- three, joined by `/`, the account that has this SPN, in the whole directory
abbrev pub meaning_of_parts : DirectoryValue → ℕ → ℤ → List (List ℕ) → Option Meaning
meaning_of_parts dir realm kind [] = None
meaning_of_parts dir realm kind (part ∷ []) = account_meant (place_of_part dir realm part (enterprise_pieces kind part))
meaning_of_parts dir realm kind (first ∷ second ∷ []) =
    if same_text first (codes "krbtgt")
    then service_meant (realm_named dir second)
    else account_meant (spn_place dir (join_with_byte 47 (first ∷ second ∷ [])))
meaning_of_parts dir realm kind (first ∷ second ∷ third ∷ []) = account_meant (spn_place dir (join_with_byte 47 (first ∷ second ∷ third ∷ [])))
meaning_of_parts dir realm kind (first ∷ second ∷ third ∷ fourth ∷ more) = None

-- what a name means in the realm at an index; the realm beside the name plays no part
abbrev pub meaning : DirectoryValue → ℕ → Principal → Option Meaning
meaning dir realm name = meaning_of_parts dir realm name.kind name.parts

-- the directory has this account
abbrev pub HasAccount : DirectoryValue → ℕ → ℕ → Type 0
HasAccount dir realm at = (realm < length dir.realms) × (at < length (accounts_at dir realm))

-- the directory has what is meant
abbrev pub HasMeant : DirectoryValue → Meaning → Type 0
HasMeant dir (RealmAt realm) = realm < length dir.realms
HasMeant dir (AccountAt realm at) = HasAccount dir realm at

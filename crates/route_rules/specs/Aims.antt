-- What a realm aims at for the name of a server (RFC 4120, section 3.3.3): its own service or account, or a trust.
use Rattle.std.specs.Prelude.{ℕ, ◌==◌, ◌<◌, length, Option, None, Some, option_map, if◌then◌else◌}
use Rattle.krb_names.specs.declared.principal.Principal.{Principal}
use Rattle.dir_records.specs.DirectoryValue.{DirectoryValue}
use Rattle.dir_core.specs.Lookups.{accounts_at, next_hop, trusts_at}
use Rattle.kdc_records.specs.declared.decision.Aim.{Aim}
use Rattle.kdc_records.specs.declared.decision.Aim.TheVariants.{Krbtgt, Hop, Account}
use Rattle.route_rules.specs.declared.meaning.Meaning.{Meaning}
use Rattle.route_rules.specs.declared.meaning.Meaning.TheVariants.{RealmAt, AccountAt}
use Rattle.route_rules.specs.Meanings.{meaning}

-- another realm is aimed at by the first trust that leads there
abbrev pub hop_to : DirectoryValue → ℕ → ℕ → Option Aim
hop_to dir realm other = option_map Hop (next_hop dir realm other)

-- what the realm at an index aims at for what a name means
abbrev pub aim_at : DirectoryValue → ℕ → Option Meaning → Option Aim
aim_at dir realm None = None
aim_at dir realm (Some (RealmAt other)) = if other == realm then Some Krbtgt else hop_to dir realm other
aim_at dir realm (Some (AccountAt other at)) = if other == realm then Some (Account at) else hop_to dir realm other

-- what the realm at an index aims at for a name
unfoldable pub resolve : DirectoryValue → ℕ → Principal → Option Aim
resolve dir realm name = aim_at dir realm (meaning dir realm name)

-- the account that is meant, if it is one
abbrev pub place_meant : Option Meaning → Option (ℕ × ℕ)
place_meant None = None
place_meant (Some (RealmAt realm)) = None
place_meant (Some (AccountAt realm at)) = Some (realm, at)

-- the account that a name gives in the realm at an index, whether or not a trust leads to it
abbrev pub resolve_account : DirectoryValue → ℕ → Principal → Option (ℕ × ℕ)
resolve_account dir realm name = place_meant (meaning dir realm name)

-- the realm at an index has what it aims at
abbrev pub HasAim : DirectoryValue → ℕ → Aim → Type 0
HasAim dir realm Krbtgt = realm < length dir.realms
HasAim dir realm (Hop at) = at < length (trusts_at dir realm)
HasAim dir realm (Account at) = at < length (accounts_at dir realm)

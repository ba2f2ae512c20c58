-- Whose key opens a ticket, by the ticket's own realm and name as the directory is now (own choice).
use Rattle.std.specs.Prelude.{ℕ, ◌==◌, ◌++◌, List, [], ◌∷◌, codes, Option, None, Some, option_map, slice_get, if◌then◌else◌}
use Rattle.kdc_prelude.specs.Steps.{◌>>=◌}
use Rattle.kdc_prelude.specs.Texts.{same_text}
use Rattle.krb_names.specs.declared.principal.Principal.{Principal}
use Rattle.krb_names.specs.NameTexts.{at_realm}
use Rattle.krb_names.specs.SidValue.{followed_by, sid_text}
use Rattle.krb_tickets.specs.declared.ticket.Ticket.{Ticket}
use Rattle.kdc_records.specs.declared.decision.Aim.{Aim}
use Rattle.kdc_records.specs.declared.decision.Aim.TheVariants as aims
use Rattle.dir_core.specs.Lookups.{realm_named}
use Rattle.dir_records.specs.declared.records.Account.{Account}
use Rattle.dir_records.specs.declared.records.RealmRec.{RealmRec}
use Rattle.dir_records.specs.declared.records.Trust.{Trust}
use Rattle.dir_records.specs.DirectoryValue.{DirectoryValue}
use Rattle.route_rules.specs.Aims.{resolve_account}
use Rattle.ticket_codec.specs.Holdings.{aim_holding, trust_in}
use Rattle.ticket_explain.specs.declared.holders.Held.{Held}

-- the realm of a name `krbtgt/REALM`
abbrev pub krbtgt_realm : List (List ℕ) → Option (List ℕ)
krbtgt_realm [] = None
krbtgt_realm (part ∷ []) = None
krbtgt_realm (part ∷ name ∷ []) = if same_text part (codes "krbtgt") then Some name else None
krbtgt_realm (part ∷ name ∷ more ∷ parts) = None

-- `trust REALM PARTNER`
abbrev pub trust_text : RealmRec → Trust → List ℕ
trust_text realm trust = codes "trust " ++ realm.name ++ codes " " ++ trust.partner

-- `NAME@REALM SID`
abbrev pub account_text : RealmRec → Account → List ℕ
account_text realm account = at_realm account.name realm.name ++ codes " " ++ sid_text (followed_by realm.sid account.number)

-- an aim of a realm: `krbtgt@REALM`, a trust, an account
abbrev pub aim_text : RealmRec → Aim → Option (List ℕ)
aim_text realm aims.Krbtgt = Some (at_realm (codes "krbtgt") realm.name)
aim_text realm (aims.Hop at) = option_map (trust_text realm) (slice_get realm.trusts at)
aim_text realm (aims.Account at) = option_map (account_text realm) (slice_get realm.accounts at)

-- the account at a place, where that is in the realm at an index; an account of another realm holds no key of its tickets
abbrev pub account_there : ℕ → ℕ × ℕ → Option ℕ
account_there at place = if place.0 == at then Some place.1 else None

-- the index of the account of the realm at an index that a name gives
unfoldable pub account_given : DirectoryValue → ℕ → Principal → Option ℕ
account_given dir at name = resolve_account dir at name >>= account_there at

-- what the realm at an index has sealed a ticket for, by the realm of its name `krbtgt/REALM`, if it is one
abbrev pub aim_named : DirectoryValue → ℕ → RealmRec → Principal → Option (List ℕ) → Option Aim
aim_named dir at realm name (Some other) = if same_text other realm.name then Some aims.Krbtgt else option_map aims.Hop (trust_in dir at other)
aim_named dir at realm name None = option_map aims.Account (account_given dir at name)

-- the holder of an aim of the realm at an index, in words too
abbrev pub held_by : DirectoryValue → ℕ → RealmRec → Aim → Option Held
held_by dir at realm aim = aim_holding dir at aim >>= λ holding. option_map (λ text. record { realm = at; holding = holding; text = text }) (aim_text realm aim)

-- the holder of a ticket's key: of its realm the ticket-granting service, the trust in the realm that it is named for, or the
-- account that its name gives
unfoldable pub held : DirectoryValue → Ticket → Option Held
held dir t = realm_named dir t.realm >>= λ at. slice_get dir.realms at >>= λ realm. aim_named dir at realm t.sname (krbtgt_realm t.sname.parts) >>= held_by dir at realm

-- For whom a realm seals tickets, and with which key (RFC 4120, section 3.3.3).
use Rattle.std.specs.Prelude.{ℕ, List, Option, None, Some, option_and_then, option_map, position, slice_get}
use Rattle.kdc_prelude.specs.Steps.{◌>>=◌}
use Rattle.kdc_prelude.specs.Texts.{same_text}
use Rattle.kdc_records.specs.declared.decision.Aim.{Aim}
use Rattle.kdc_records.specs.declared.decision.Aim.TheVariants as aims
use Rattle.kdc_records.specs.declared.holder.Holder.TheVariants.{Krbtgt, Trust, Account}
use Rattle.dir_records.specs.declared.records.Account.{Account as AccountRec}
use Rattle.dir_records.specs.declared.records.RealmRec.{RealmRec}
use Rattle.dir_records.specs.declared.records.Trust.{Trust as TrustRec}
use Rattle.dir_records.specs.DirectoryValue.{DirectoryValue}
use Rattle.ticket_codec.specs.declared.holding.Holding.{Holding}

-- the realm's ticket-granting service: a local ticket-granting ticket is sealed for it
abbrev pub krbtgt_holding : RealmRec → Holding
krbtgt_holding realm = record { holder = Krbtgt realm.name realm.krbtgt.version; key = realm.krbtgt }

-- a trust of the realm: a cross-realm ticket-granting ticket to its partner is sealed for it
abbrev pub hop_holding : RealmRec → TrustRec → Holding
hop_holding realm trust = record { holder = Trust realm.name trust.partner trust.key.version; key = trust.key }

-- an account of the realm: a service ticket is sealed for it
abbrev pub account_holding : RealmRec → AccountRec → Holding
account_holding realm account = record { holder = Account realm.name account.number account.key.version; key = account.key }

-- what the realm aims at: its own ticket-granting service, the trust or the account at an index of its lists
abbrev pub aim_holding_in : RealmRec → Aim → Option Holding
aim_holding_in realm aims.Krbtgt = Some (krbtgt_holding realm)
aim_holding_in realm (aims.Hop at) = option_map (hop_holding realm) (slice_get realm.trusts at)
aim_holding_in realm (aims.Account at) = option_map (account_holding realm) (slice_get realm.accounts at)

-- the holder and the key of an aim of the realm at an index; none where there is no such realm, trust or account
unfoldable pub aim_holding : DirectoryValue → ℕ → Aim → Option Holding
aim_holding dir at aim = slice_get dir.realms at >>= λ realm. aim_holding_in realm aim

-- the index of the trust in a partner, the first of the list of the realm at an index
unfoldable pub trust_in : DirectoryValue → ℕ → List ℕ → Option ℕ
trust_in dir at partner = option_and_then (λ realm. position (λ trust. same_text trust.partner partner) realm.trusts) (slice_get dir.realms at)

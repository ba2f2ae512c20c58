-- Whose key opens a ticket that is shown, by the role that it is shown in (RFC 4120, section 3.3.2; MS-SFU, section 3.2.5.2).
use Rattle.std.specs.Prelude.{ℕ, ◌==◌, ◌&&◌, not, Bool, false, List, [], ◌∷◌, codes, Option, None, Some, slice_get, if◌then◌else◌}
use lib.Pointwise.{pointwise}
use Rattle.kdc_prelude.specs.Steps.{◌>>=◌}
use Rattle.kdc_prelude.specs.Texts.{same_text}
use Rattle.krb_names.specs.declared.principal.Principal.{Principal}
use Rattle.krb_tickets.specs.declared.ticket.Ticket.{Ticket}
use Rattle.kdc_records.specs.declared.decision.Aim.{Aim}
use Rattle.kdc_records.specs.declared.decision.Aim.TheVariants.{Krbtgt, Hop, Account}
use Rattle.kdc_records.specs.declared.rule.Rule.{Rule}
use Rattle.kdc_records.specs.declared.rule.Rule.TheVariants.{G2, G3, G4, G12, P2, P3, P4, P5}
use Rattle.dir_core.specs.Lookups.{realm_named}
use Rattle.dir_records.specs.declared.records.RealmRec.{RealmRec}
use Rattle.dir_records.specs.DirectoryValue.{DirectoryValue}
use Rattle.route_rules.specs.Aims.{resolve_account}
use Rattle.ticket_codec.specs.declared.holding.Holding.{Holding}
use Rattle.ticket_codec.specs.declared.role.Role.{Role}
use Rattle.ticket_codec.specs.declared.role.Role.TheVariants.{Header, Evidence, CrossEvidence}
use Rattle.ticket_codec.specs.Holdings.{aim_holding, trust_in}

-- ---- the rules of a role

-- the ticket is for the realm or the account
abbrev pub name_rule : Role → Rule
name_rule Header = G2
name_rule (Evidence account) = P2
name_rule CrossEvidence = P2

-- the key's version and type are the ticket's
abbrev pub key_rule : Role → Rule
key_rule Header = G3
key_rule (Evidence account) = P3
key_rule CrossEvidence = P3

-- the ticket opens and reads
abbrev pub opening_rule : Role → Rule
opening_rule Header = G4
opening_rule (Evidence account) = P4
opening_rule CrossEvidence = P4

-- the PAC reads, and its signatures are right
abbrev pub pac_rule : Role → Rule
pac_rule Header = G12
pac_rule (Evidence account) = P5
pac_rule CrossEvidence = P5

-- ---- holders

-- the ticket is named krbtgt of the realm of this name
abbrev pub is_krbtgt_of : List ℕ → Principal → Bool
is_krbtgt_of realm name = pointwise same_text name.parts (codes "krbtgt" ∷ realm ∷ [])

-- a cross-realm ticket-granting ticket into a realm: another realm has sealed it, for its trust in this one
abbrev pub cross_place : DirectoryValue → RealmRec → Ticket → Option (ℕ × Aim)
cross_place dir realm ticket =
    if is_krbtgt_of realm.name ticket.sname && not (same_text ticket.realm realm.name)
    then (realm_named dir ticket.realm >>= λ issuer. trust_in dir issuer realm.name >>= λ hop. Some (issuer, Hop hop))
    else None

-- a header is a ticket-granting ticket of the realm, local or cross-realm
abbrev pub header_place : DirectoryValue → ℕ → RealmRec → Ticket → Option (ℕ × Aim)
header_place dir at realm ticket =
    if is_krbtgt_of realm.name ticket.sname && same_text ticket.realm realm.name
    then Some (at, Krbtgt)
    else cross_place dir realm ticket

-- it is this account, of the realm at this index
abbrev pub is_place : ℕ → ℕ → Option (ℕ × ℕ) → Bool
is_place realm account None = false
is_place realm account (Some place) = place.0 == realm && place.1 == account

-- the evidence of an account of the realm: a ticket of this realm for that account
abbrev pub evidence_place : DirectoryValue → ℕ → RealmRec → ℕ → Ticket → Option (ℕ × Aim)
evidence_place dir at realm account ticket =
    if same_text ticket.realm realm.name && is_place at account (resolve_account dir at ticket.sname)
    then Some (at, Account account)
    else None

abbrev pub place_in_role : DirectoryValue → ℕ → RealmRec → Role → Ticket → Option (ℕ × Aim)
place_in_role dir at realm Header ticket = header_place dir at realm ticket
place_in_role dir at realm (Evidence account) ticket = evidence_place dir at realm account ticket
place_in_role dir at realm CrossEvidence ticket = cross_place dir realm ticket

-- for whom a ticket is sealed that is shown at the realm at an index: the index of the realm that sealed it, and its aim there
unfoldable pub holder_place : DirectoryValue → ℕ → Role → Ticket → Option (ℕ × Aim)
holder_place dir at role ticket = slice_get dir.realms at >>= λ realm. place_in_role dir at realm role ticket

-- whose key opens a ticket that is shown at the realm at an index
unfoldable pub holding : DirectoryValue → ℕ → Role → Ticket → Option Holding
holding dir at role ticket = holder_place dir at role ticket >>= λ place. aim_holding dir place.0 place.1

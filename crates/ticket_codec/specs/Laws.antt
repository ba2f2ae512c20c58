-- What holds of tickets that are shown.
use Rattle.std.specs.Prelude.{◌≡◌, ◌⊎◌, ℕ, true, List, [], ◌∷◌, Option, None, Some, Ok, slice_get}
use Rattle.aes_core.specs.Inverses.{IsBlock}
use Rattle.kdc_prelude.specs.Verdicts.{first_failing}
use Rattle.krb_names.specs.declared.key.Key.{Key}
use Rattle.krb_names.specs.declared.principal.Principal.{Principal}
use Rattle.krb_crypto.specs.BlockCipher.{IsKey}
use Rattle.krb_tickets.specs.declared.ticket.Ticket.{Ticket}
use Rattle.kdc_records.specs.declared.ticket_rec.TicketRec.{TicketRec}
use Rattle.kdc_records.specs.Parties.{Krbtgt, Trust, Account, party_of, version_of}
use Rattle.dir_records.specs.declared.records.Account.{Account as AccountRec}
use Rattle.dir_records.specs.declared.records.RealmRec.{RealmRec}
use Rattle.dir_records.specs.DirectoryValue.{DirectoryValue}
use Rattle.dir_core.specs.Lookups.{account_at}
use Rattle.route_rules.specs.Requestor.{requestor_account}
use Rattle.ticket_parts.specs.Parts.{part}
use Rattle.ticket_parts.specs.Records.{record_of}
use Rattle.ticket_parts.specs.Sound.{IsSound}
use Rattle.ticket_codec.specs.declared.opening.Opened.{Opened}
use Rattle.ticket_codec.specs.declared.role.Role.{Role}
use Rattle.ticket_codec.specs.declared.role.Role.TheVariants.{Header, Evidence, CrossEvidence}
use Rattle.ticket_codec.specs.Made.{ticket_of}
use Rattle.ticket_codec.specs.Opening.{unsealed}
use Rattle.ticket_codec.specs.Presented.{realm_key, Shown, shown}
use Rattle.ticket_codec.specs.Roles.{holding}
use Rattle.ticket_codec.specs.Rules.{opening_rules, refusal_of, shown_rules}

-- ---- a ticket shows the record that it was made of

-- the realm's key is the one that the KDC signature is compared under, if there is one
abbrev pub IsRealmKey : Option Key → Key → Type 0
IsRealmKey None key = Unit {0}
IsRealmKey (Some wanted) key = wanted ≡ key

-- A ticket that is made of a sound record, under a name by which the realm at an index takes it, in a role, for the record's
-- holder and its present key, shows that record and the part that was sealed, and its client information agrees.
abbrev pub TicketsAreShown : Type 0
TicketsAreShown = (dir : DirectoryValue) (at : ℕ) (realm : RealmRec) (role : Role) (t : TicketRec) (sname : Principal) (issuer : List ℕ) (holder granting : Key) (conf : List ℕ)
    → IsSound t → IsKey holder → IsBlock conf
    → slice_get dir.realms at ≡ Some realm
    → holding dir at role (ticket_of t sname issuer holder granting conf) ≡ Some (record { holder = t.holder; key = record { key = holder; version = version_of t.holder } })
    → IsRealmKey (realm_key realm t.holder) granting
    → shown dir at role (ticket_of t sname issuer holder granting conf) ≡ Ok (record { holder = t.holder; part = part t holder granting; rec = t; agrees = true })

-- ---- what is shown

-- the record is the one that the part tells for the holder
abbrev pub ShownIsTold : Type 0
ShownIsTold = (dir : DirectoryValue) (at : ℕ) (role : Role) (ticket : Ticket) (s : Shown) → shown dir at role ticket ≡ Ok s
    → record_of s.holder s.part ≡ Some (record { rec = s.rec; agrees = s.agrees })

-- the first rule that fails is told
abbrev pub FirstRuleIsTold : Type 0
FirstRuleIsTold = (dir : DirectoryValue) (at : ℕ) (role : Role) (ticket : Ticket)
    → (refusal_of (unsealed dir at role ticket) ≡ first_failing (opening_rules dir at role ticket))
    × (refusal_of (shown dir at role ticket) ≡ first_failing (shown_rules dir at role ticket))

-- ---- for whom a ticket is sealed that opens

-- a header, for this realm's ticket-granting service, which issued it, or for the issuing realm's trust in this one
abbrev pub HeadersAreOfThisRealm : Type 0
HeadersAreOfThisRealm = (dir : DirectoryValue) (at : ℕ) (realm : RealmRec) (ticket : Ticket) (opened : Opened)
    → slice_get dir.realms at ≡ Some realm → unsealed dir at Header ticket ≡ Ok opened
    → ((ticket.realm ≡ realm.name) × (party_of opened.holder ≡ Krbtgt realm.name)) ⊎ (party_of opened.holder ≡ Trust ticket.realm realm.name)

-- a cross-realm evidence ticket, for the issuing realm's trust in this one
abbrev pub CrossEvidenceIsOfThisRealm : Type 0
CrossEvidenceIsOfThisRealm = (dir : DirectoryValue) (at : ℕ) (realm : RealmRec) (ticket : Ticket) (opened : Opened)
    → slice_get dir.realms at ≡ Some realm → unsealed dir at CrossEvidence ticket ≡ Ok opened
    → party_of opened.holder ≡ Trust ticket.realm realm.name

-- evidence of a requestor of this realm, for the account whose name and realm that client has
abbrev pub EvidenceIsOfTheRequestor : Type 0
EvidenceIsOfTheRequestor = (dir : DirectoryValue) (at account : ℕ) (realm : RealmRec) (client : Principal) (ticket : Ticket) (opened : Opened)
    → slice_get dir.realms at ≡ Some realm → requestor_account dir at client ≡ Some account → unsealed dir at (Evidence account) ticket ≡ Ok opened
    → (found : AccountRec) × (account_at dir at account ≡ Some found) × (client.realm ≡ realm.name) × (client.parts ≡ found.name ∷ []) × (party_of opened.holder ≡ Account realm.name found.number)

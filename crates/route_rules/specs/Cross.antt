-- What a ticket of another realm, a header or evidence, may tell at the realm that it is for (RFC 4120, section 2.7; MS-PAC, section 4.1.2.2).
use Rattle.std.specs.Prelude.{ℕ, ◌&&◌, Bool, true, nat_lt, List, [], ◌∷◌, length, Option, None, Some, slice_get}
use Rattle.std.specs.List.{list_all}
use Rattle.kdc_prelude.specs.Options.{holds_of}
use Rattle.kdc_prelude.specs.Steps.{◌>>=◌}
use Rattle.krb_names.specs.SidValue.{SidValue, domain_of, same_sid}
use Rattle.kdc_records.specs.declared.holder.Holder.{Holder}
use Rattle.kdc_records.specs.declared.holder.Holder.TheVariants.{Krbtgt, Trust, Account}
use Rattle.kdc_records.specs.declared.rule.Rule.{Rule}
use Rattle.kdc_records.specs.declared.rule.Rule.TheVariants.{G15, G16}
use Rattle.kdc_records.specs.declared.ticket_rec.TicketRec.{TicketRec}
use Rattle.dir_records.specs.declared.records.RealmRec.{RealmRec}
use Rattle.dir_records.specs.DirectoryValue.{DirectoryValue}
use Rattle.dir_core.specs.Lookups.{is_reached, realm_named}

-- ---- a ticket that the realm at the index `from` issued for the realm at the index `at`

-- the SID is a realm's and one number
abbrev pub is_sid_of : SidValue → RealmRec → Bool
is_sid_of sid realm = nat_lt 0 (length sid.numbers) && same_sid (domain_of sid) realm.sid

-- the SID is that of the realm of this name and one number
abbrev pub is_sid_in : DirectoryValue → SidValue → List ℕ → Bool
is_sid_in dir sid name = holds_of (is_sid_of sid) (realm_named dir name >>= slice_get dir.realms)

-- the trust reaches the user's realm, and the user's SID is that realm's and one number
abbrev pub subject_is_reached : DirectoryValue → ℕ → ℕ → TicketRec → Bool
subject_is_reached dir at from rec = is_reached dir at from rec.subject.realm && is_sid_in dir rec.subject.sid rec.subject.realm

-- the trust reaches each transited realm, and there are fewer than 32
abbrev pub way_is_reached : DirectoryValue → ℕ → ℕ → TicketRec → Bool
way_is_reached dir at from rec = list_all (is_reached dir at from) rec.transited && nat_lt (length rec.transited) 32

-- in the order in which they are tried
abbrev pub cross_rules : DirectoryValue → ℕ → ℕ → TicketRec → List (Rule × Bool)
cross_rules dir at from rec = (G15, subject_is_reached dir at from rec) ∷ (G16, way_is_reached dir at from rec) ∷ []

-- ---- a header

-- the realm that issued a cross-realm ticket: its trust in the realm that the ticket is for holds it
abbrev pub issuing_realm : Holder → Option (List ℕ)
issuing_realm (Krbtgt realm version) = None
issuing_realm (Trust realm partner version) = Some realm
issuing_realm (Account realm number version) = None

-- what is asked of a cross-realm ticket, by the index of the realm that issued it; nothing of another
abbrev pub if_cross : DirectoryValue → (ℕ → Bool) → Option (List ℕ) → Bool
if_cross dir test None = true
if_cross dir test (Some issuer) = holds_of test (realm_named dir issuer)

-- G15: the trust with the issuing realm reaches the user's realm, and the user's SID is that realm's and one number
abbrev pub is_reached_subject : DirectoryValue → ℕ → TicketRec → Bool
is_reached_subject dir at rec = if_cross dir (λ from. subject_is_reached dir at from rec) (issuing_realm rec.holder)

-- G16: the trust with the issuing realm reaches each transited realm, and there are fewer than 32
abbrev pub is_reached_way : DirectoryValue → ℕ → TicketRec → Bool
is_reached_way dir at rec = if_cross dir (λ from. way_is_reached dir at from rec) (issuing_realm rec.holder)

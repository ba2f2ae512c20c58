-- What is known of the entry of an answered exchange.
use Rattle.std.proofs.Common.{◌≡◌, ◌∙◌, ℕ, List, None, Some, refl, sym, ap, subst, Bool, true, Option}
use Rattle.std.specs.Prelude.{if◌then◌else◌, is_some, option_map}
use Rattle.krb_names.specs.declared.moment.Moment.{Moment}
use Rattle.kdc_records.specs.declared.wish.Branch.{Branch}
use Rattle.kdc_records.specs.declared.wish.Branch.TheVariants.{Initial, Ordinary, SelfTicket, Proxy}
use Rattle.dir_records.specs.DirectoryValue.{DirectoryValue}
use Rattle.ticket_parts.specs.Sound.{IsSound}
use Rattle.tgs_requests.specs.Askings.{branch_of}
use Rattle.tgs_core.specs.Grants.{Grant, grant_in, granted_record}
use Rattle.tgs_core.specs.Verdicts.{verdict}
use Rattle.tgs_core.proofs.GivenGrants.{grants_are_given}
use Rattle.tgs_core.proofs.GrantedRequests.{granted_in_is_grant}
use Rattle.tgs_core.proofs.Openings.{branch_known, initial_known}
use Rattle.tgs_core.proofs.SoundGrants.{grant_is_sound}
use Rattle.tgs_core.proofs.TgsVerdicts.{ordinary_kept, proxy_kept, self_kept}
use Rattle.kdc_frames.specs.Exchanges.{Exchange}
use Rattle.history_laws.specs.Entries.{Entry, IsAnswered, entry_at, entry_of, holds_ticket}
use Rattle.history_laws.specs.Openings.{EntriesAreGranted}
use Rattle.history_laws.proofs.Answered.{holds_granted, none_denies}
use Rattle.history_laws.proofs.Granted.{GrantBy, IsGranted}
use Rattle.history_laws.proofs.GrantsOf.{IsGrantOf, grant_parts}
use Rattle.history_laws.proofs.Rows.{initial_row, ordinary_row, proxy_row, self_row}
use Rattle.history_laws.proofs.Steps.{chosen, mapped}

-- ---- the exchange

-- no rule denies its request, and this is granted to it
pub record IsEntryOf (exchange : Exchange) (entry : Entry) : Type 0 where
  pub grant : Grant
  pub none : verdict exchange.directory exchange.moment exchange.request ≡ None
  pub granted : grant_in exchange.directory exchange.moment exchange.request ≡ Some grant
  pub made : entry_of exchange.directory exchange.moment exchange.block grant ≡ entry

pub entry_parts : (exchange : Exchange) (entry : Entry) → IsAnswered exchange → entry_at exchange ≡ Some entry → IsEntryOf exchange entry
entry_parts exchange entry answered e =
    let made : Grant → Entry = entry_of exchange.directory exchange.moment exchange.block in
    let holds = chosen (holds_ticket exchange.reply) (option_map made (grant_in exchange.directory exchange.moment exchange.request)) entry e in
    let grant = mapped made (grant_in exchange.directory exchange.moment exchange.request) entry holds.1 in
    record {
      grant = grant.0;
      none = none_denies exchange.directory exchange.moment exchange.block exchange.request (ap holds_ticket (sym answered.replied) ∙ holds.0);
      granted = grant.1;
      made = grant.2;
    }

-- a value that is there
there : {A : Type 0} (a : Option A) → is_some a ≡ true → (x : A) × (a ≡ Some x)
there None h = absurd (cc)
there (Some x) h = (x, refl)

pub entry_granted : (exchange : Exchange) → IsAnswered exchange → verdict exchange.directory exchange.moment exchange.request ≡ None → is_some (entry_at exchange) ≡ true
entry_granted exchange answered none =
    let made : Grant → Entry = entry_of exchange.directory exchange.moment exchange.block in
    let grant = there (grant_in exchange.directory exchange.moment exchange.request) (grants_are_given exchange.directory exchange.moment exchange.request none) in
    let holds : holds_ticket exchange.reply ≡ true =
    ap holds_ticket answered.replied ∙ holds_granted exchange.directory exchange.moment exchange.block exchange.request grant.0 none grant.1 in
    let shown : Bool → Option Grant → Option Entry = λ (b : Bool) (found : Option Grant). if b then option_map made found else None in
    ap is_some ((λ k. shown (holds k) (grant.1 k)))

entry_none : (exchange : Exchange) → IsAnswered exchange → is_some (entry_at exchange) ≡ true → verdict exchange.directory exchange.moment exchange.request ≡ None
entry_none exchange answered h =
    let entry = there (entry_at exchange) h in
    (entry_parts exchange entry.0 answered entry.1).none

pub entries_are_granted : EntriesAreGranted
entries_are_granted exchange answered = (entry_granted exchange answered, entry_none exchange answered)

-- ---- its row

row_by : (dir : DirectoryValue) (now : Moment) (block bytes : List ℕ) (grant : Grant) (branch : Branch) → verdict dir now bytes ≡ None → IsGrantOf dir now bytes grant
    → branch_of grant.request.message ≡ branch → GrantBy (entry_of dir now block grant) grant.grounds
row_by dir now block bytes grant Initial none of is = initial_row dir now block bytes grant of is (initial_known dir now bytes grant.request none of.asked is)
row_by dir now block bytes grant Ordinary none of is =
    ordinary_row dir now block bytes grant of is (ordinary_kept dir now grant.request (branch_known dir now bytes grant.request Ordinary none of.asked is))
row_by dir now block bytes grant SelfTicket none of is =
    self_row dir now block bytes grant of is (self_kept dir now grant.request (branch_known dir now bytes grant.request SelfTicket none of.asked is))
row_by dir now block bytes grant Proxy none of is =
    proxy_row dir now block bytes grant of is (proxy_kept dir now grant.request (branch_known dir now bytes grant.request Proxy none of.asked is))

-- its record is sound
pub entry_sound : (exchange : Exchange) → IsAnswered exchange → (grant : Grant) → verdict exchange.directory exchange.moment exchange.request ≡ None
    → grant_in exchange.directory exchange.moment exchange.request ≡ Some grant → IsSound (granted_record grant exchange.block)
entry_sound exchange answered grant none granted =
    grant_is_sound grant exchange.block (granted_in_is_grant exchange.directory exchange.moment exchange.request grant answered.directory_is answered.request_is none granted) answered.block_has answered.block_is

pub of_exchange : (exchange : Exchange) → IsAnswered exchange → (entry : Entry) → entry_at exchange ≡ Some entry → IsGranted entry
of_exchange exchange answered entry e =
    let parts = entry_parts exchange entry answered e in
    let dir = exchange.directory in
    let now = exchange.moment in
    let grant = parts.grant in
    subst IsGranted parts.made
    (record {
      holder_key = grant.holding.key.key;
      realm_key = grant.realm.krbtgt.key;
      part_is = refl;
      sound = entry_sound exchange answered grant parts.none parts.granted;
      row = row_by dir now exchange.block exchange.request grant (branch_of grant.request.message) parts.none (grant_parts dir now exchange.request grant parts.granted) refl;
    })

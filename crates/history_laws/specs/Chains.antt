-- When an entry unfolds, step by permitted step, to the first grant of its user.
use Rattle.std.specs.Prelude.{◌≡◌, ℕ, ◌&&◌, ◌||◌, Bool, true, false, List, [], ◌∷◌, flat_map, Option, None, Some, option_map, reverse, slice_get, if◌then◌else◌}
use Rattle.std.specs.List.{AllByRecursion, list_any}
use Rattle.kdc_prelude.specs.Options.{holds_of}
use Rattle.krb_names.specs.declared.principal.Principal.{Principal}
use Rattle.krb_names.specs.SidValue.{SidValue, followed_by}
use Rattle.kdc_records.specs.declared.decision.Aim.{Aim}
use Rattle.kdc_records.specs.declared.decision.Aim.TheVariants as aims
use Rattle.kdc_records.specs.declared.ticket_rec.TicketRec.{TicketRec}
use Rattle.kdc_records.specs.declared.wish.Branch.{Branch}
use Rattle.kdc_records.specs.declared.wish.Wish.{Wish}
use Rattle.kdc_records.specs.Bits.{has_bit}
use Rattle.kdc_records.specs.Parties.{Account, Krbtgt, Party, Trust, party_of}
use Rattle.s4u_padata.specs.declared.x509_user.X509User.{X509User}
use Rattle.dir_records.specs.declared.records.Account.{Account as AccountRec}
use Rattle.dir_records.specs.declared.records.RealmRec.{RealmRec}
use Rattle.dir_core.specs.Lookups.{realm_named}
use Rattle.route_rules.specs.Aims.{resolve}
use Rattle.as_core.specs.AsRequests.{as_ask}
use Rattle.as_core.specs.AsRules.{AsGrants, client_account}
use Rattle.ticket_parts.specs.Parts.{is_service}
use Rattle.ticket_parts.specs.Records.{record_of}
use Rattle.s4u_rules.specs.SelfRules.{is_user_of, server_is_the_requestor, user_fits_header, user_is_enabled, user_is_known, user_is_local, user_record}
use Rattle.s4u_rules.specs.TgsRules.{is_for_its_client, is_self, requestor_is_known}
use Rattle.proxy_rules.specs.ProxyRules.{ShownEvidence, chain_is_short, delegation_is_allowed, evidence_agrees, evidence_is_reached, evidence_may_be_used, requestor_is_local, requestor_text, user_is_delegable}
use Rattle.tgs_requests.specs.Askings.{branch_of}
use Rattle.tgs_core.specs.Grants.{ByAccount, ByEvidence, ByHeader, ForHeadersUser, ForUser, Grounds, Presented, ShownTicket, subject_of_account, ticket_presented}
use Rattle.tgs_core.specs.Judged.{is_proxy}
use Rattle.history_laws.specs.Entries.{Entry}
use Rattle.history_laws.specs.Places.{Place, place, user_line}

-- ---- the services that delegated

-- S4U2proxy
abbrev pub is_delegated : Grounds → Bool
is_delegated (ByAccount account) = false
is_delegated (ByHeader shown) = false
is_delegated (ForUser shown account asked) = false
is_delegated (ForHeadersUser shown asked) = false
is_delegated (ByEvidence shown evidence) = true

-- of S4U2proxy the requestor, `name@REALM`, where it is of the realm that granted
abbrev pub link : RealmRec → Grounds → List (List ℕ)
link realm (ByAccount account) = []
link realm (ByHeader shown) = []
link realm (ForUser shown account asked) = []
link realm (ForHeadersUser shown asked) = []
link realm (ByEvidence shown evidence) = requestor_text realm shown.rec

-- the services of a user's line from its root on; nothing where no entry of it is one of S4U2proxy
abbrev pub links : List Entry → Option (List (List ℕ))
links line =
    if list_any (λ entry. is_delegated entry.grant.grounds) line
    then Some (flat_map (λ entry. link entry.grant.realm entry.grant.grounds) (reverse line))
    else None

-- the services that a ticket lists, if it was delegated
abbrev pub services_told : TicketRec → Option (List (List ℕ))
services_told ticket = option_map (λ delegation. delegation.services) ticket.delegation

-- ---- tickets on behalf of a user

-- S4U2self or S4U2proxy
abbrev pub is_by_s4u : Grounds → Bool
is_by_s4u (ByAccount account) = false
is_by_s4u (ByHeader shown) = false
is_by_s4u (ForUser shown account asked) = true
is_by_s4u (ForHeadersUser shown asked) = true
is_by_s4u (ByEvidence shown evidence) = true

-- a service ticket that a service got on behalf of a user
abbrev pub is_impersonating : Entry → Bool
is_impersonating entry = is_service entry.ticket.holder && is_by_s4u entry.grant.grounds

-- how the request of an entry asks, and what its ticket is for
abbrev pub branch_asked : Entry → Branch
branch_asked entry = branch_of entry.grant.request.message

abbrev pub aim_granted : Entry → Aim
aim_granted entry = entry.grant.terms.aim

-- an account is aimed at
abbrev pub is_account : Aim → Bool
is_account aims.Krbtgt = false
is_account (aims.Hop at) = false
is_account (aims.Account at) = true

-- an account is aimed at, and S4U2self or S4U2proxy is asked for
abbrev pub asks_to_impersonate : Entry → Bool
asks_to_impersonate entry = is_account (aim_granted entry) && (is_self (branch_asked entry) || is_proxy (branch_asked entry))

-- granted to the account that asks, or by S4U2self for a user of the realm: a line has no entry behind it
abbrev pub is_root : Grounds → Bool
is_root (ByAccount account) = true
is_root (ByHeader shown) = false
is_root (ForUser shown account asked) = true
is_root (ForHeadersUser shown asked) = false
is_root (ByEvidence shown evidence) = false

-- a line goes back to a root
abbrev pub ends_in_root : List Entry → Bool
ends_in_root [] = false
ends_in_root (entry ∷ []) = is_root entry.grant.grounds
ends_in_root (entry ∷ next ∷ line) = ends_in_root (next ∷ line)

-- the line of the entry's user goes back to a root, and all along it the user is the same: name, realm, SID, control and groups
pub record IsTraced (earlier : List Entry) (entry : Entry) : Type 0 where
  pub root : ends_in_root (user_line earlier entry) ≡ true
  pub user : AllByRecursion (λ step. step.ticket.subject ≡ entry.ticket.subject) (user_line earlier entry)

-- ---- a step: what held in the directory of the entry's own exchange

-- the index of the realm that is asked, and what is asked for
abbrev pub realm_asked : Entry → ℕ
realm_asked entry = entry.grant.request.realm

abbrev pub wish_asked : Entry → Wish
wish_asked entry = entry.grant.request.wish

-- for whom the realm seals tickets by an aim: for its ticket-granting service, or for the trust or the account at an index
abbrev pub party_aimed : RealmRec → Aim → Option Party
party_aimed realm aims.Krbtgt = Some (Krbtgt realm.name)
party_aimed realm (aims.Hop at) = option_map (λ trust. Trust realm.name trust.partner) (slice_get realm.trusts at)
party_aimed realm (aims.Account at) = option_map (λ account. Account realm.name account.number) (slice_get realm.accounts at)

-- the server that is asked for is this to the realm that is asked, and the ticket is for that
pub record Step (entry : Entry) (aim : Aim) : Type 0 where
  pub known : realm_named entry.dir (wish_asked entry).realm ≡ Some (realm_asked entry)
  pub realm : slice_get entry.dir.realms (realm_asked entry) ≡ Some entry.grant.realm
  pub server : (wish_asked entry).server ≡ Some entry.grant.asked
  pub aimed : resolve entry.dir (realm_asked entry) entry.grant.asked ≡ Some aim
  pub held : party_aimed entry.grant.realm aim ≡ Some (party_of entry.ticket.holder)

-- a step of S4U2self on this header, for this user: G13 and S4 to S7
pub record SelfStep (entry : Entry) (header : TicketRec) (user : Principal) : Type 0 where
  pub aim : Aim
  pub step : Step entry aim
  pub wished : (wish_asked entry).user ≡ Some user
  pub requestor_known : requestor_is_known entry.dir (realm_asked entry) header ≡ true
  pub served : server_is_the_requestor entry.dir (realm_asked entry) (wish_asked entry) header ≡ true
  pub fits : user_fits_header entry.dir (realm_asked entry) header user ≡ true
  pub user_known : user_is_known entry.dir (realm_asked entry) user ≡ true
  pub user_enabled : user_is_enabled entry.dir (realm_asked entry) user ≡ true

-- an evidence as the rules see it
abbrev pub evidence_told : ShownTicket → ShownEvidence
evidence_told shown = record {
  rec = shown.rec;
  invalid = has_bit 7 shown.part.flags;
  agrees = holds_of (λ told. told.agrees) (record_of shown.rec.holder shown.part);
}

-- the party is an account of the realm, and has the SID
pub record IsAccountOf (realm : RealmRec) (sid : SidValue) (party : Party) : Type 0 where
  pub index : ℕ
  pub account : AccountRec
  pub listed : slice_get realm.accounts index ≡ Some account
  pub numbered : followed_by realm.sid account.number ≡ sid
  pub held : party ≡ Account realm.name account.number

-- a step of S4U2proxy on this header and evidence: P6 and P8 to P12; the header is its client's own, and where that is of the realm, the
-- evidence is for its account
pub record ProxyStep (entry : Entry) (header : TicketRec) (evidence : ShownTicket) : Type 0 where
  pub aim : Aim
  pub step : Step entry aim
  pub agrees : evidence_agrees (wish_asked entry) header (evidence_told evidence) ≡ true
  pub reached : evidence_is_reached entry.dir (realm_asked entry) evidence.rec ≡ true
  pub usable : evidence_may_be_used (wish_asked entry) evidence.rec ≡ true
  pub delegable : user_is_delegable evidence.rec ≡ true
  pub allowed : delegation_is_allowed entry.dir (realm_asked entry) (wish_asked entry) header evidence.rec aim ≡ true
  pub short : chain_is_short entry.dir (realm_asked entry) header evidence.rec ≡ true
  pub own : is_for_its_client header ≡ true
  pub own_evidence : requestor_is_local entry.dir (realm_asked entry) header ≡ true → IsAccountOf entry.grant.realm header.subject.sid (party_of evidence.rec.holder)

-- ---- the rows: what is asked of an entry, and of the tickets that earlier entries issued

-- it was granted on these grounds, and lists the services of its user's line
pub record IsListed (earlier : List Entry) (entry : Entry) (grounds : Grounds) : Type 0 where
  pub granted : entry.grant.grounds ≡ grounds
  pub list : services_told entry.ticket ≡ links (user_line earlier entry)

-- the first entry that issued a shown ticket: the ticket is for the same party, and shows that entry's record but for the key's version
pub record IsPlace (earlier : List Entry) (shown : ShownTicket) (at : Place) : Type 0 where
  pub found : place earlier shown ≡ Some at
  pub party : party_of shown.rec.holder ≡ party_of at.entry.ticket.holder
  pub same : shown.rec ≡ record at.entry.ticket { holder = shown.rec.holder }

-- an initial grant: the rules of an AS-REQ hold, and the user is the account of the realm that asks
pub record InitialRow (entry : Entry) (account : AccountRec) : Type 0 where
  pub realm : slice_get entry.dir.realms (realm_asked entry) ≡ Some entry.grant.realm
  pub rules : AsGrants (as_ask entry.dir (realm_asked entry) entry.now entry.grant.request.message)
  pub found : client_account entry.dir (realm_asked entry) entry.grant.request.message.req_body.cname ≡ Some account
  pub subject : entry.ticket.subject ≡ subject_of_account entry.grant.realm account

-- an ordinary ticket: user and client are those of the header
pub record OrdinaryRow (entry : Entry) (header : TicketRec) : Type 0 where
  pub subject : header.subject ≡ entry.ticket.subject
  pub client : header.client ≡ entry.ticket.client

-- S4U2self for a user of the realm: the header's user is the requestor, its client, and the ticket's user is the account of the user
pub record OwnUserRow (entry : Entry) (shown : TicketRec) (account : AccountRec) (header : TicketRec) : Type 0 where
  pub user : Principal
  pub step : SelfStep entry shown user
  pub requestor : is_for_its_client header ≡ true
  pub client : header.client ≡ shown.client
  pub local : user_is_local entry.dir (realm_asked entry) user ≡ true
  pub found : user_record entry.dir (realm_asked entry) user ≡ Some account
  pub subject : entry.ticket.subject ≡ subject_of_account entry.grant.realm account

-- S4U2self for another realm's user: the header's user is that user and the ticket's, and its client is the requestor
pub record OtherUserRow (entry : Entry) (shown : TicketRec) (header : TicketRec) : Type 0 where
  pub user : Principal
  pub step : SelfStep entry shown user
  pub other : user_is_local entry.dir (realm_asked entry) user ≡ false
  pub is_user : is_user_of header.subject user ≡ true
  pub client : header.client ≡ shown.client
  pub subject : header.subject ≡ entry.ticket.subject

-- S4U2proxy: the header's user is the requestor, its client, and the evidence's user is the ticket's
pub record ProxyRow (entry : Entry) (shown : TicketRec) (shown_evidence : ShownTicket) (header evidence : TicketRec) : Type 0 where
  pub step : ProxyStep entry shown shown_evidence
  pub requestor : is_for_its_client header ≡ true
  pub client : header.client ≡ shown.client
  pub subject : evidence.subject ≡ entry.ticket.subject

-- ---- the chain

-- An entry unfolds: its row holds, and so do the chains of the entries that issued what was shown for it. The earlier entries are given
-- from the newest on.
pub data Chain : List Entry → Entry → Type 0 where
  InitialEntry : {earlier : List Entry} {entry : Entry} (account : AccountRec) →
      IsListed earlier entry (ByAccount account) →
      InitialRow entry account →
      Chain earlier entry
  OrdinaryEntry : {earlier : List Entry} {entry : Entry} (header : Presented) (at : Place) →
      IsListed earlier entry (ByHeader header) →
      IsPlace earlier (ticket_presented header) at → Chain at.before at.entry →
      OrdinaryRow entry at.entry.ticket →
      Chain earlier entry
  OwnUserEntry : {earlier : List Entry} {entry : Entry} (header : Presented) (account : AccountRec) (asked : Option X509User) (at : Place) →
      IsListed earlier entry (ForUser header account asked) →
      IsPlace earlier (ticket_presented header) at → Chain at.before at.entry →
      OwnUserRow entry header.rec account at.entry.ticket →
      Chain earlier entry
  OtherUserEntry : {earlier : List Entry} {entry : Entry} (header : Presented) (asked : Option X509User) (at : Place) →
      IsListed earlier entry (ForHeadersUser header asked) →
      IsPlace earlier (ticket_presented header) at → Chain at.before at.entry →
      OtherUserRow entry header.rec at.entry.ticket →
      Chain earlier entry
  ProxyEntry : {earlier : List Entry} {entry : Entry} (header : Presented) (evidence : ShownTicket) (at from : Place) →
      IsListed earlier entry (ByEvidence header evidence) →
      IsPlace earlier (ticket_presented header) at → Chain at.before at.entry →
      IsPlace earlier evidence from → Chain from.before from.entry →
      ProxyRow entry header.rec evidence at.entry.ticket from.entry.ticket →
      Chain earlier entry

-- What a granted request is given: the record of its ticket.
use Rattle.std.specs.Prelude.{◌≡◌, ℕ, pos, ◌+◌, ◌<◌, ◌≤◌, ◌^◌, Bool, true, false, List, [], ◌∷◌, ◌++◌, codes, length, take, drop, Option, None, Some, is_some, option_map, option_to_list, slice_get, unwrap_or, IfSome, if◌then◌else◌}
use Rattle.kdc_prelude.specs.Steps.{◌>>=◌}
use Rattle.der_forms.specs.Values.{nonce}
use Rattle.krb_names.specs.declared.etype.Etype.{Etype}
use Rattle.krb_names.specs.declared.key.Key.{Key}
use Rattle.krb_names.specs.declared.moment.Moment.{Moment}
use Rattle.krb_names.specs.declared.principal.Principal.{Principal}
use Rattle.krb_names.specs.Etypes.{key_length}
use Rattle.krb_names.specs.Keys.{key_of}
use Rattle.krb_names.specs.SidValue.{followed_by}
use Rattle.krb_tickets.specs.declared.enc_ticket_part.EncTicketPart.{EncTicketPart}
use Rattle.krb_tickets.specs.Transited.{are_realms}
use Rattle.krb_messages.specs.declared.kdc_req.KdcReq.{KdcReq}
use Rattle.s4u_padata.specs.declared.x509_user.X509User.{X509User}
use Rattle.s4u_padata.specs.X509User.{x509_user}
use Rattle.kdc_records.specs.declared.decision.Aim.{Aim}
use Rattle.kdc_records.specs.declared.decision.Aim.TheVariants.{Krbtgt, Hop, Account}
use Rattle.kdc_records.specs.declared.decision.Terms.{Terms}
use Rattle.kdc_records.specs.declared.subject.Delegation.{Delegation}
use Rattle.kdc_records.specs.declared.subject.Subject.{Subject}
use Rattle.kdc_records.specs.declared.ticket_rec.TicketRec.{TicketRec}
use Rattle.kdc_records.specs.declared.wish.Branch.{Branch}
use Rattle.kdc_records.specs.declared.wish.Branch.TheVariants.{Initial, Ordinary, SelfTicket, Proxy}
use Rattle.dir_records.specs.declared.records.Account.{Account as AccountRec}
use Rattle.dir_records.specs.declared.records.RealmRec.{RealmRec}
use Rattle.dir_records.specs.declared.records.Trust.{Trust}
use Rattle.dir_records.specs.DirectoryValue.{DirectoryValue}
use Rattle.dir_records.specs.IsDirectory.{IsAccount, IsAccountInRange, IsRealm, IsRealmInRange}
use Rattle.as_core.specs.AsRequests.{as_ask}
use Rattle.as_core.specs.AsRules.{as_terms, client_account}
use Rattle.route_rules.specs.Cross.{issuing_realm}
use Rattle.s4u_rules.specs.SelfRules.{enterprise_user, self_terms, user_is_local, user_record}
use Rattle.s4u_rules.specs.TgsRules.{aim_of, ordinary_terms}
use Rattle.ticket_codec.specs.declared.holding.Holding.{Holding}
use Rattle.ticket_codec.specs.Holdings.{aim_holding}
use Rattle.ticket_codec.specs.Made.{IsTicketName}
use Rattle.proxy_rules.specs.ProxyRules.{delegation_made, proxy_terms}
use Rattle.pac_laws.specs.Writable.{IsWritableDelegation}
use Rattle.ticket_parts.specs.Parts.{delegation_of}
use Rattle.ticket_parts.specs.Sound.{IsSound}
use Rattle.tgs_requests.specs.declared.asking.SelfAsked.{SelfAsked}
use Rattle.tgs_requests.specs.declared.header.Header.{Header}
use Rattle.tgs_requests.specs.Askings.{branch_of, self_asked}
use Rattle.tgs_requests.specs.Headers.{header_in, record_in}
use Rattle.proxy_requests.specs.declared.evidence.Evidence.{Evidence}
use Rattle.proxy_requests.specs.Evidences.{evidence_in}
use Rattle.tgs_core.specs.Requests.{Request, request_in}

-- ---- the user of an account

-- UserAccountControl of an account (MS-PAC, section 2.5): USER_NORMAL_ACCOUNT; USER_ACCOUNT_DISABLED, USER_NOT_DELEGATED and
-- USER_TRUSTED_TO_AUTHENTICATE_FOR_DELEGATION by its marks
abbrev pub control_of : AccountRec → ℕ
control_of account =
    0x10 + (if account.disabled then 0x1 else 0) + (if account.not_delegated then 0x4000 else 0) + (if account.trusted_to_auth then 0x40000 else 0)

abbrev pub subject_of_account : RealmRec → AccountRec → Subject
subject_of_account realm account = record {
  name = account.name;
  realm = realm.name;
  sid = followed_by realm.sid account.number;
  control = control_of account;
  groups = account.groups;
}

-- its principal, of kind 1 (NT-PRINCIPAL) and one part
abbrev pub principal_of_account : RealmRec → AccountRec → Principal
principal_of_account realm account = record { kind = pos 1; parts = account.name ∷ []; realm = realm.name }

-- ---- on what a grant stands

-- a ticket that was shown, and opened: its record, and what was sealed in it
pub record ShownTicket : Type 0 where
  pub rec : TicketRec
  pub part : EncTicketPart

-- the header of a TGS-REQ, with the subkey of its authenticator
pub record Presented : Type 0 where
  pub rec : TicketRec
  pub part : EncTicketPart
  pub subkey : Option Key

-- the ticket
abbrev pub ticket_presented : Presented → ShownTicket
ticket_presented shown = record { rec = shown.rec; part = shown.part }

pub data Grounds : Type 0 where
  ByAccount : (account : AccountRec) → Grounds  -- the account that asks, of the realm that is asked
  ByHeader : (shown : Presented) → Grounds  -- the header
  ForUser : (shown : Presented) → (account : AccountRec) → (asked : Option X509User) → Grounds  -- S4U2self for a user of the realm: the header, the user's account, and PA-S4U-X509-USER
  ForHeadersUser : (shown : Presented) → (asked : Option X509User) → Grounds  -- S4U2self for a user of another realm, who is the header's
  ByEvidence : (shown : Presented) → (evidence : ShownTicket) → Grounds  -- S4U2proxy: the header and the evidence

-- a granted request: the realm that is asked, the server that is asked for, the ticket's name, and for whom the ticket is sealed
pub record Grant : Type 0 where
  pub realm : RealmRec
  pub request : Request
  pub asked : Principal
  pub server : Principal
  pub terms : Terms
  pub holding : Holding
  pub grounds : Grounds

-- a header that shows this record
abbrev pub presented_with : Header → TicketRec → Presented
presented_with header rec = record { rec = rec; part = header.opened.part; subkey = header.auth.subkey }

-- the header of a request, where it shows a record
abbrev pub presented_in : DirectoryValue → Request → Option Presented
presented_in dir request = header_in dir request.realm request.message >>= λ header. option_map (presented_with header) (record_in header)

-- what an evidence shows
abbrev pub ticket_shown_by : Evidence → ShownTicket
ticket_shown_by evidence = record { rec = evidence.certified.rec; part = evidence.opened.part }

-- the evidence of a request, by the header's record
abbrev pub evidence_presented : DirectoryValue → Request → TicketRec → Option ShownTicket
evidence_presented dir request header = option_map ticket_shown_by (evidence_in dir request.realm request.message header)

-- PA-S4U-X509-USER of padata of S4U2self, where they are there
abbrev pub x509_in : Option SelfAsked → Option X509User
x509_in None = None
x509_in (Some asked) = asked.x509_user

-- that of a request
abbrev pub x509_asked : KdcReq → Option X509User
x509_asked message = x509_in (self_asked message)

-- S4U2self for a user, where it is of the realm or not
abbrev pub user_grounds : Presented → Option X509User → Bool → Option AccountRec → Option Grounds
user_grounds shown asked false account = Some (ForHeadersUser shown asked)
user_grounds shown asked true account = option_map (λ found. ForUser shown found asked) account

-- for the user that is asked for
abbrev pub self_grounds : DirectoryValue → ℕ → Presented → Option X509User → Principal → Option Grounds
self_grounds dir at shown asked user = user_grounds shown asked (user_is_local dir at user) (user_record dir at user)

-- for the user that is asked for, if one is
abbrev pub grounds_for : DirectoryValue → ℕ → Presented → Option X509User → Option Principal → Option Grounds
grounds_for dir at shown asked user = user >>= self_grounds dir at shown asked

-- on this header, by how the request asks
abbrev pub grounds_on : DirectoryValue → Request → Presented → Branch → Option Grounds
grounds_on dir request shown Initial = None
grounds_on dir request shown Ordinary = Some (ByHeader shown)
grounds_on dir request shown SelfTicket = grounds_for dir request.realm shown (x509_asked request.message) request.wish.user
grounds_on dir request shown Proxy = option_map (ByEvidence shown) (evidence_presented dir request shown.rec)

-- by how the request asks
abbrev pub grounds_of : DirectoryValue → Request → Branch → Option Grounds
grounds_of dir request Initial = option_map ByAccount (client_account dir request.realm request.message.req_body.cname)
grounds_of dir request Ordinary = presented_in dir request >>= λ shown. grounds_on dir request shown Ordinary
grounds_of dir request SelfTicket = presented_in dir request >>= λ shown. grounds_on dir request shown SelfTicket
grounds_of dir request Proxy = presented_in dir request >>= λ shown. grounds_on dir request shown Proxy

abbrev pub terms_of : DirectoryValue → Moment → Request → Grounds → Option Terms
terms_of dir now request (ByAccount account) = Some (as_terms (as_ask dir request.realm now request.message))
terms_of dir now request (ByHeader shown) =
    option_map (ordinary_terms dir request.realm now request.wish shown.rec) (aim_of dir request.realm request.wish)
terms_of dir now request (ForUser shown account asked) =
    option_map (self_terms dir request.realm now request.wish shown.rec) (aim_of dir request.realm request.wish)
terms_of dir now request (ForHeadersUser shown asked) =
    option_map (self_terms dir request.realm now request.wish shown.rec) (aim_of dir request.realm request.wish)
terms_of dir now request (ByEvidence shown evidence) =
    option_map (proxy_terms dir request.realm now request.wish shown.rec evidence.rec) (aim_of dir request.realm request.wish)

-- ---- the ticket's name

-- an account that is asked for by an enterprise name of one part `a@C` (RFC 6806, section 5) has its own, of kind 1 and one part; else it
-- has the one that is asked for
abbrev pub account_name : RealmRec → Principal → AccountRec → Principal
account_name realm asked account = if is_some (enterprise_user asked) then principal_of_account realm account else asked

-- krbtgt of a partner, of kind 2 (NT-SRV-INST), as this realm issues it
abbrev pub hop_name : RealmRec → Trust → Principal
hop_name realm trust = record { kind = pos 2; parts = codes "krbtgt" ∷ trust.partner ∷ []; realm = realm.name }

-- in the realm that is asked; of a referral, that of the partner's ticket-granting service
abbrev pub ticket_name : RealmRec → Principal → Aim → Principal
ticket_name realm asked Krbtgt = asked
ticket_name realm asked (Hop trust) = unwrap_or (option_map (hop_name realm) (slice_get realm.trusts trust)) asked
ticket_name realm asked (Account at) = unwrap_or (option_map (account_name realm asked) (slice_get realm.accounts at)) asked

-- ---- the grant

-- with these terms on these grounds
abbrev pub grant_with : DirectoryValue → Request → Grounds → Terms → Option Grant
grant_with dir request grounds terms =
    slice_get dir.realms request.realm >>= λ realm.
    request.wish.server >>= λ server.
    aim_holding dir request.realm terms.aim >>= λ holding.
    Some (record { realm = realm; request = request; asked = server; server = ticket_name realm server terms.aim; terms = terms; holding = holding; grounds = grounds })

abbrev pub grant_of : DirectoryValue → Moment → Request → Option Grant
grant_of dir now request =
    grounds_of dir request (branch_of request.message) >>= λ grounds. terms_of dir now request grounds >>= λ terms. grant_with dir request grounds terms

-- what is granted to the request that bytes are, where no rule denies it
unfoldable pub grant_in : DirectoryValue → Moment → List ℕ → Option Grant
grant_in dir now bytes = request_in dir bytes >>= grant_of dir now

-- ---- the columns of the ticket's record, by the grounds

-- a user's principal, of kind 1 (NT-PRINCIPAL) and one part
abbrev pub principal_of_subject : Subject → Principal
principal_of_subject subject = record { kind = pos 1; parts = subject.name ∷ []; realm = subject.realm }

-- a ticket for a service is the user's; a referral is the requestor's
abbrev pub client_for : Aim → Principal → Principal → Principal
client_for Krbtgt user requestor = requestor
client_for (Hop trust) user requestor = requestor
client_for (Account account) user requestor = user

-- the account; the header's; of S4U2self and S4U2proxy the user, or the header's of a referral
abbrev pub client_by : RealmRec → Aim → Grounds → Principal
client_by realm aim (ByAccount account) = principal_of_account realm account
client_by realm aim (ByHeader shown) = shown.rec.client
client_by realm aim (ForUser shown account asked) = client_for aim (principal_of_account realm account) shown.rec.client
client_by realm aim (ForHeadersUser shown asked) = client_for aim (principal_of_subject shown.rec.subject) shown.rec.client
client_by realm aim (ByEvidence shown evidence) = client_for aim (principal_of_subject evidence.rec.subject) shown.rec.client

-- the account; the header's; the evidence's
abbrev pub subject_by : RealmRec → Grounds → Subject
subject_by realm (ByAccount account) = subject_of_account realm account
subject_by realm (ByHeader shown) = shown.rec.subject
subject_by realm (ForUser shown account asked) = subject_of_account realm account
subject_by realm (ForHeadersUser shown asked) = shown.rec.subject
subject_by realm (ByEvidence shown evidence) = evidence.rec.subject

-- an initial ticket is authenticated when it starts, others when the header was, or the evidence
abbrev pub auth_by : Terms → Grounds → ℕ
auth_by terms (ByAccount account) = terms.start
auth_by terms (ByHeader shown) = shown.rec.auth
auth_by terms (ForUser shown account asked) = shown.rec.auth
auth_by terms (ForHeadersUser shown asked) = shown.rec.auth
auth_by terms (ByEvidence shown evidence) = evidence.rec.auth

-- the realms on the way of a ticket, and the one that issued it behind them where that is to be appended
abbrev pub way_behind : Bool → TicketRec → List (List ℕ)
way_behind false rec = rec.transited
way_behind true rec = rec.transited ++ option_to_list (issuing_realm rec.holder)

-- the header's, or the evidence's; of a user of this realm none
abbrev pub transited_by : Terms → Grounds → List (List ℕ)
transited_by terms (ByAccount account) = []
transited_by terms (ByHeader shown) = way_behind terms.append shown.rec
transited_by terms (ForUser shown account asked) = []
transited_by terms (ForHeadersUser shown asked) = way_behind terms.append shown.rec
transited_by terms (ByEvidence shown evidence) = way_behind terms.append evidence.rec

-- of S4U2proxy alone: to the name that is asked for
abbrev pub delegation_by : RealmRec → Principal → Grounds → Option Delegation
delegation_by realm asked (ByAccount account) = None
delegation_by realm asked (ByHeader shown) = None
delegation_by realm asked (ForUser shown account user) = None
delegation_by realm asked (ForHeadersUser shown user) = None
delegation_by realm asked (ByEvidence shown evidence) = Some (delegation_made realm asked shown.rec evidence.rec)

-- ---- the random block of a request, of 64 bytes

-- the session key: the first 16 or 32 bytes
abbrev pub session_key : Etype → List ℕ → Key
session_key etype block = key_of etype (take (key_length etype) block)

-- the ticket's confounder: the bytes 32 to 47
abbrev pub ticket_confounder : List ℕ → List ℕ
ticket_confounder block = take 16 (drop 32 block)

-- the reply part's confounder: the bytes 48 to 63
abbrev pub reply_confounder : List ℕ → List ℕ
reply_confounder block = take 16 (drop 48 block)

-- ---- the record

unfoldable pub granted_record : Grant → List ℕ → TicketRec
granted_record grant block = record {
  holder = grant.holding.holder;
  client = client_by grant.realm grant.terms.aim grant.grounds;
  subject = subject_by grant.realm grant.grounds;
  flags = grant.terms.flags;
  session = session_key grant.terms.session block;
  auth = auth_by grant.terms grant.grounds;
  start = grant.terms.start;
  end = grant.terms.end;
  transited = transited_by grant.terms grant.grounds;
  delegation = delegation_by grant.realm grant.asked grant.grounds;
}

-- ---- what a grant is made of

-- padata whose user-id, as received, can be written again
pub record IsEchoable (asked : X509User) : Type 0 where
  pub fits : x509_user.Fits asked
  pub few : length asked.id_bytes < 2 ^ 24

-- an account of a directory, the record of a ticket that was read, and padata that were read
abbrev pub IsGrounds : Grounds → Type 0
IsGrounds (ByAccount account) = IsAccount account × IsAccountInRange account
IsGrounds (ByHeader shown) = IsSound shown.rec
IsGrounds (ForUser shown account asked) = (IsAccount account × IsAccountInRange account) × (IsSound shown.rec × IfSome asked IsEchoable)
IsGrounds (ForHeadersUser shown asked) = IsSound shown.rec × IfSome asked IsEchoable
IsGrounds (ByEvidence shown evidence) = IsSound shown.rec × IsSound evidence.rec

-- the realms on the way, and the delegation, can be written
pub record IsGrantable (realm : RealmRec) (asked : Principal) (terms : Terms) (grounds : Grounds) : Type 0 where
  pub way : are_realms (transited_by terms grounds) ≡ true
  pub delegation : IfSome (delegation_by realm asked grounds) (λ made. IsWritableDelegation (delegation_of made))

-- a realm and grounds of a directory, a name and a nonce that were read, and terms that a ticket can have (times go to
-- 9999-12-31T23:59:59)
pub record IsGrant (grant : Grant) : Type 0 where
  pub realm : IsRealm grant.realm
  pub range : IsRealmInRange grant.realm
  pub grounds : IsGrounds grant.grounds
  pub grantable : IsGrantable grant.realm grant.asked grant.terms grant.grounds
  pub server : IsTicketName grant.realm.name grant.server
  pub nonce : nonce.Fits (record { 0 = grant.request.wish.nonce })
  pub flags : grant.terms.flags < 2 ^ 32
  pub start : grant.terms.start ≤ 253402300799
  pub end : grant.terms.end ≤ 253402300799

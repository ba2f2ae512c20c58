-- How a TGS-REQ is judged, group by group.
use Rattle.std.proofs.Common.{◌≡◌, ◌∙◌, ℕ, Bool, true, false, List, drop, Option, Some, None, refl, sym, ap}
use Rattle.std.specs.Prelude.{◌||◌, is_some, not, if◌then◌else◌}
use Rattle.kdc_prelude.proofs.Verdicts.{neither_fails, passes}
use Rattle.kdc_prelude.specs.Options.{holds_of}
use Rattle.kdc_prelude.specs.Verdicts.{first_failing}
use Rattle.krb_names.specs.declared.moment.Moment.{Moment}
use Rattle.krb_messages.specs.declared.kdc_req.KdcReq.{KdcReq}
use Rattle.krb_messages.specs.KdcReq.{is_as_req}
use Rattle.kdc_records.specs.declared.decision.Aim.{Aim}
use Rattle.kdc_records.specs.declared.rule.Rule.{Rule}
use Rattle.kdc_records.specs.declared.rule.Rule.TheVariants.{G1, G2, G3, G4, G5}
use Rattle.kdc_records.specs.declared.ticket_rec.TicketRec.{TicketRec}
use Rattle.kdc_records.specs.declared.wish.Branch.{Branch}
use Rattle.kdc_records.specs.declared.wish.Branch.TheVariants.{Initial, Ordinary, SelfTicket, Proxy}
use Rattle.kdc_records.specs.declared.wish.Wish.{Wish}
use Rattle.kdc_records.specs.Decisions.{decided, is_grant}
use Rattle.dir_records.specs.DirectoryValue.{DirectoryValue}
use Rattle.as_core.specs.AsRequests.{as_wish}
use Rattle.s4u_rules.proofs.Grants.{header_known, ordinary_known, self_known}
use Rattle.s4u_rules.specs.Granted.{SelfGrants}
use Rattle.s4u_rules.specs.Headers.{Shown, record_of}
use Rattle.s4u_rules.specs.SelfRules.{self_rules, self_terms, user_is_local, user_record}
use Rattle.s4u_rules.specs.SelfRules as selves
use Rattle.s4u_rules.specs.TgsRules.{aim_of, header_rules, ordinary_rules, ordinary_terms}
use Rattle.proxy_rules.proofs.Grants.{granted as proxy_known}
use Rattle.proxy_rules.specs.ProxyRules.{proxy_rules}
use Rattle.proxy_requests.proofs.EvidenceFound.{evidence_kept}
use Rattle.proxy_requests.specs.declared.evidence.Evidence.{Evidence}
use Rattle.proxy_requests.specs.Evidences.{evidence_in, evidence_reading_rules, evidence_seen_of}
use Rattle.ticket_codec.specs.Rules.{header_is_for_this_realm, header_key_fits, header_opens}
use Rattle.tgs_requests.specs.declared.header.Header.{Header}
use Rattle.tgs_requests.specs.Askings.{asks_proxy, asks_self, branch_of, tgs_branch, tgs_wish, wish_of}
use Rattle.tgs_requests.specs.Headers.{ap_req_of, header_in, reading_rules, record_in, shown_header}
use Rattle.tgs_requests.specs.SelfSums.{user_rules}
use Rattle.tgs_core.specs.Requests.{Request, opening_rules, request_to}
use Rattle.tgs_core.specs.Verdicts.{HeaderKept, OrdinaryGrants, ProxyTicketGrants, SelfTicketGrants, aimed_rows, branch_rows, evidence_rows, opened_rows, ordinary_rows, proxy_rows, rules_of_branch, self_rows, tgs_rules, verdict}
use Rattle.tgs_core.proofs.Openings.{IsOpened, branch_verdict}

-- ---- what is known where none fails

-- of the header, and of the branch
pub record IsKept (dir : DirectoryValue) (now : Moment) (request : Request) (branch : Branch) : Type 0 where
  pub kept : HeaderKept dir now request
  pub behind : first_failing (branch_rows dir now request kept.header branch) ≡ None

opened_known : (dir : DirectoryValue) (now : Moment) (request : Request) (branch : Branch) (found : Option Header) → header_in dir request.realm request.message ≡ found
    → first_failing (reading_rules dir request.realm request.message) ≡ None → first_failing (opened_rows dir now request branch found) ≡ None → is_some found ≡ true → IsKept dir now request branch
opened_known dir now request branch None e reading h some = absurd (cc)
opened_known dir now request branch (Some header) e reading h some =
    let groups = neither_fails (header_rules dir request.realm now request.wish (shown_header header)) (branch_rows dir now request header branch) h in
    let g = header_known dir request.realm now request.wish (Shown (shown_header header)) groups.0 in
    record {
      kept = record { header = header; rec = g.rec; opened = e; shown = ap record_of g.shown ∙ g.certified; reading = reading; granted = g };
      behind = groups.1;
    }

pub tgs_known : (dir : DirectoryValue) (now : Moment) (request : Request) (branch : Branch) → first_failing (tgs_rules dir now request branch) ≡ None → IsKept dir now request branch
tgs_known dir now request branch h =
    let at = request.realm in
    let message = request.message in
    let rows = reading_rules dir at message in
    let groups = neither_fails rows (opened_rows dir now request branch (header_in dir at message)) h in
    let g1 = passes G1 (is_some (ap_req_of message)) (drop 1 rows) groups.0 in
    let g2 = passes G2 (holds_of (λ ap. header_is_for_this_realm dir at ap.ticket) (ap_req_of message)) (drop 2 rows) g1.1 in
    let g3 = passes G3 (holds_of (λ ap. header_key_fits dir at ap.ticket) (ap_req_of message)) (drop 3 rows) g2.1 in
    let g4 = passes G4 (holds_of (λ ap. header_opens dir at ap.ticket) (ap_req_of message)) (drop 4 rows) g3.1 in
    let g5 = passes G5 (is_some (header_in dir at message)) (drop 5 rows) g4.1 in
    opened_known dir now request branch (header_in dir at message) refl groups.0 groups.1 g5.0

-- of an ordinary request
pub ordinary_kept : (dir : DirectoryValue) (now : Moment) (request : Request) → first_failing (tgs_rules dir now request Ordinary) ≡ None → OrdinaryGrants dir now request
ordinary_kept dir now request h =
    let g = tgs_known dir now request Ordinary h in
    let at = request.realm in
    let rec = g.kept.rec in
    let none : first_failing (ordinary_rules dir at now request.wish rec) ≡ None = sym (ap (λ (found : Option TicketRec). first_failing (ordinary_rows dir now request found)) g.kept.shown) ∙ g.behind in
    let terms = ordinary_terms dir at now request.wish rec g.kept.granted.aim in
    record {
      kept = g.kept;
      lasting = ordinary_known dir at now request.wish rec g.kept.granted.aim (ap (λ (failing : Option Rule). is_grant (decided failing terms)) none);
    }

-- of S4U2self
pub self_kept : (dir : DirectoryValue) (now : Moment) (request : Request) → first_failing (tgs_rules dir now request SelfTicket) ≡ None → SelfTicketGrants dir now request
self_kept dir now request h =
    let g = tgs_known dir now request SelfTicket h in
    let at = request.realm in
    let rec = g.kept.rec in
    let groups = neither_fails (user_rules g.kept.header request.message) (self_rows dir now request (record_in g.kept.header)) g.behind in
    let none : first_failing (self_rules dir at now request.wish rec) ≡ None = sym (ap (λ (found : Option TicketRec). first_failing (self_rows dir now request found)) g.kept.shown) ∙ groups.1 in
    let terms = self_terms dir at now request.wish rec g.kept.granted.aim in
    record {
      kept = g.kept;
      named = groups.0;
      granted = self_known dir at now request.wish rec g.kept.granted.aim selves.Shown (ap (λ (failing : Option Rule). is_grant (decided failing terms)) none);
    }

-- of S4U2proxy

-- what is there
pub record IsThere {X : Type 0} (found : Option X) : Type 0 where
  pub value : X
  pub is : found ≡ Some value

pub there : {X : Type 0} (found : Option X) → is_some found ≡ true → IsThere found
there None h = absurd cc
there (Some x) h = record { value = x; is = refl }

pub evidence_there : (dir : DirectoryValue) (at : ℕ) (message : KdcReq) (header : TicketRec) → first_failing (evidence_reading_rules dir at message header) ≡ None → IsThere (evidence_in dir at message header)
evidence_there dir at message header h =
    let kept = evidence_kept dir at message header h in
    record { value = kept.evidence; is = kept.found }

pub proxy_kept : (dir : DirectoryValue) (now : Moment) (request : Request) → first_failing (tgs_rules dir now request Proxy) ≡ None → ProxyTicketGrants dir now request
proxy_kept dir now request h =
    let g = tgs_known dir now request Proxy h in
    let at = request.realm in
    let message = request.message in
    let rec = g.kept.rec in
    let aim = g.kept.granted.aim in
    let rows : first_failing (proxy_rows dir now request (Some rec)) ≡ None = sym (ap (λ (found : Option TicketRec). first_failing (proxy_rows dir now request found)) g.kept.shown) ∙ g.behind in
    let groups = neither_fails (evidence_reading_rules dir at message rec) (evidence_rows dir now request rec (evidence_in dir at message rec)) rows in
    let evidence = evidence_there dir at message rec groups.0 in
    let aimed : first_failing (aimed_rows dir now request rec evidence.value (aim_of dir at request.wish)) ≡ None =
    sym (ap (λ (found : Option Evidence). first_failing (evidence_rows dir now request rec found)) evidence.is) ∙ groups.1 in
    let none : first_failing (proxy_rules dir at now request.wish rec aim (evidence_seen_of evidence.value)) ≡ None =
    sym (ap (λ (found : Option Aim). first_failing (aimed_rows dir now request rec evidence.value found)) g.kept.granted.aimed) ∙ aimed in
    record {
      kept = g.kept;
      evidence = evidence.value;
      found = evidence.is;
      reading = groups.0;
      granted = proxy_known dir at now request.wish rec aim (evidence_seen_of evidence.value) none;
    }

-- ---- the user of S4U2self

known_by : (local known : Bool) → local ≡ true → (not local || known) ≡ true → known ≡ true
known_by true known e h = h
known_by false known e h = absurd cc

-- a user of this realm has an account
pub user_there : (dir : DirectoryValue) (at : ℕ) (now : Moment) (wish : Wish) (rec : TicketRec) (g : SelfGrants dir at now wish rec selves.Shown) → user_is_local dir at g.user ≡ true
    → IsThere (user_record dir at g.user)
user_there dir at now wish rec g local = there (user_record dir at g.user) (known_by (user_is_local dir at g.user) _ local g.user_known)

-- ---- the branch of a TGS-REQ

pub tgs_branch_is : (message : KdcReq) → is_as_req message ≡ false → branch_of message ≡ tgs_branch message
tgs_branch_is message e = ap (λ (b : Bool). if b then Initial else tgs_branch message) e

rules_by : (dir : DirectoryValue) (now : Moment) (request : Request) (self proxy : Bool)
    → (let branch : Branch = (if self then SelfTicket else (if proxy then Proxy else Ordinary)) in rules_of_branch dir now request branch ≡ tgs_rules dir now request branch)
rules_by dir now request true proxy = refl
rules_by dir now request false true = refl
rules_by dir now request false false = refl

pub tgs_rules_are : (dir : DirectoryValue) (now : Moment) (request : Request) (message : KdcReq)
    → rules_of_branch dir now request (tgs_branch message) ≡ tgs_rules dir now request (tgs_branch message)
tgs_rules_are dir now request message = rules_by dir now request (asks_self message) (asks_proxy message)

-- the verdict on a TGS-REQ that is opened
pub tgs_verdict : (dir : DirectoryValue) (now : Moment) (bytes : List ℕ) (message : KdcReq) (realm : ℕ) → first_failing (opening_rules dir bytes) ≡ None
    → IsOpened dir bytes message realm (tgs_branch message) → verdict dir now bytes ≡ first_failing (tgs_rules dir now (request_to message realm) (tgs_branch message))
tgs_verdict dir now bytes message realm opens h =
    branch_verdict dir now bytes message realm (tgs_branch message) opens h ∙ ap (λ (rows : List (Rule × Bool)). first_failing rows) (tgs_rules_are dir now (request_to message realm) message)

-- what it asks for
pub tgs_wish_is : (message : KdcReq) → is_as_req message ≡ false → wish_of message ≡ tgs_wish message
tgs_wish_is message e = ap (λ (b : Bool). if b then as_wish message.req_body else tgs_wish message) e

-- What is decided of a TGS-REQ whose header is opened is what its rules say.
use Rattle.std.proofs.Common.{◌≡◌, ◌∙◌, ℕ, Bool, true, false, List, ◌++◌, Option, Some, None, refl, sym, ap, subst}
use Rattle.std.specs.Prelude.{IfErr, IfOk, IsErr, IsErrAnd, MatchResult, Result, Ok, Err, is_some, if◌then◌else◌, option_map}
use Rattle.kdc_prelude.proofs.Verdicts.{fails_first, fails_later}
use Rattle.kdc_prelude.specs.Steps.{◌>>=◌}
use Rattle.kdc_prelude.specs.Verdicts.{first_failing}
use Rattle.krb_names.specs.declared.moment.Moment.{Moment}
use Rattle.krb_names.specs.declared.principal.Principal.{Principal}
use Rattle.s4u_padata.specs.declared.x509_user.X509User.{X509User}
use Rattle.krb_messages.specs.declared.kdc_req.KdcReq.{KdcReq}
use Rattle.krb_messages.specs.KdcReq.{is_as_req}
use Rattle.kdc_records.specs.declared.decision.Aim.{Aim}
use Rattle.kdc_records.specs.declared.decision.Decision.TheVariants.{Grant, Deny}
use Rattle.kdc_records.specs.declared.decision.Terms.{Terms}
use Rattle.kdc_records.specs.declared.rule.Rule.{Rule}
use Rattle.kdc_records.specs.declared.ticket_rec.TicketRec.{TicketRec}
use Rattle.kdc_records.specs.declared.wish.Branch.{Branch}
use Rattle.kdc_records.specs.declared.wish.Branch.TheVariants.{Initial, Ordinary, SelfTicket, Proxy}
use Rattle.kdc_records.specs.declared.wish.Wish.{Wish}
use Rattle.kdc_records.specs.Decisions.{decided, is_grant}
use Rattle.dir_records.specs.declared.records.Account.{Account as AccountRec}
use Rattle.dir_records.specs.DirectoryValue.{DirectoryValue}
use Rattle.as_core.specs.AsRequests.{as_wish}
use Rattle.s4u_rules.proofs.Grants.{self_known}
use Rattle.s4u_rules.specs.HeaderViews.{self_seen}
use Rattle.s4u_rules.specs.Granted.{SelfGrants}
use Rattle.s4u_rules.specs.SelfRules.{self_decision, self_rules, self_terms, user_is_local, user_record}
use Rattle.s4u_rules.specs.SelfRules as selves
use Rattle.s4u_rules.specs.TgsRules.{aim_of, header_rules, ordinary_decision, ordinary_rules, ordinary_terms}
use Rattle.proxy_rules.specs.ProxyRules.{proxy_decision, proxy_terms, proxy_verdict}
use Rattle.proxy_rules.specs.ProxyRules.{Shown as SeenProxy}
use Rattle.proxy_requests.specs.declared.evidence.Evidence.{Evidence}
use Rattle.proxy_requests.specs.Evidences.{evidence_in, evidence_reading_rules, evidence_seen_of}
use Rattle.ticket_codec.specs.declared.fault.ShowFault.{ShowFault}
use Rattle.ticket_codec.specs.declared.fault.ShowFault.TheVariants as faults
use Rattle.tgs_requests.specs.declared.header.Header.{Header}
use Rattle.tgs_requests.specs.Askings.{asks_proxy, asks_self, branch_of, tgs_branch, tgs_wish, wish_of}
use Rattle.tgs_requests.specs.Headers.{header_in, reading_rules, record_in, shown_header}
use Rattle.tgs_requests.specs.HeaderSteps.{IsDenial}
use Rattle.tgs_requests.specs.SelfSums.{user_rules, view_of}
use Rattle.tgs_core.specs.Grants.{ByEvidence, ByHeader, ForHeadersUser, ForUser, Grounds, Presented, ShownTicket, grant_of, grant_with, grounds_of, grounds_on, presented_in, presented_with, self_grounds, terms_of, ticket_shown_by, user_grounds, x509_asked}
use Rattle.tgs_core.specs.Judged.{IsGranted, IsKept, branch_decision, is_proxy}
use Rattle.tgs_core.specs.declared.tgs.Kept.{Kept}
use Rattle.tgs_core.specs.Requests.{Request, request_to}
use Rattle.tgs_core.specs.GrantViews.{presented_seen}
use Rattle.tgs_core.specs.Verdicts.{aimed_rows, branch_rows, evidence_rows, opened_rows, ordinary_rows, proxy_rows, rules_of_branch, self_rows, tgs_rules}
use Rattle.tgs_core.proofs.FoundGrants.{mapped_of, some_is, step_of}
use Rattle.tgs_core.proofs.Openings.{decided_deny, decided_grant}
use Rattle.tgs_core.proofs.TgsVerdicts.{IsThere, tgs_rules_are, user_there}

-- ---- how a TGS-REQ asks

initial_by : (self proxy : Bool) → (let branch : Branch = (if self then SelfTicket else (if proxy then Proxy else Ordinary)) in branch ≡ Initial) → ⊥
initial_by true proxy e = cc
initial_by false true e = cc
initial_by false false e = cc

not_initial : (message : KdcReq) → tgs_branch message ≡ Initial → ⊥
not_initial message e = initial_by (asks_self message) (asks_proxy message) e

wish_by : (is_as : Bool) (message : KdcReq) → (if is_as then Initial else tgs_branch message) ≡ tgs_branch message → (if is_as then as_wish message.req_body else tgs_wish message) ≡ tgs_wish message
wish_by true message e = absurd (not_initial message (sym e))
wish_by false message e = refl

pub wish_is : (message : KdcReq) → branch_of message ≡ tgs_branch message → wish_of message ≡ tgs_wish message
wish_is message e = wish_by (is_as_req message) message e

-- ---- an ordinary request

ordinary_granted : (dir : DirectoryValue) (now : Moment) (request : Request) (header : Header) (rec : TicketRec) (aim : Aim) (terms : Terms) → record_in header ≡ Some rec
    → ordinary_decision dir request.realm now request.wish rec aim ≡ Grant terms
    → (first_failing (branch_rows dir now request header Ordinary) ≡ None) × (terms ≡ ordinary_terms dir request.realm now request.wish rec aim)
ordinary_granted dir now request header rec aim terms shows e =
    let both = decided_grant (first_failing (ordinary_rules dir request.realm now request.wish rec)) (ordinary_terms dir request.realm now request.wish rec aim) terms e in
    (ap (λ (found : Option TicketRec). first_failing (ordinary_rows dir now request found)) shows ∙ both.0, both.1)

ordinary_denied : (dir : DirectoryValue) (now : Moment) (request : Request) (header : Header) (rec : TicketRec) (aim : Aim) (rule : Rule) → record_in header ≡ Some rec
    → ordinary_decision dir request.realm now request.wish rec aim ≡ Deny rule → first_failing (branch_rows dir now request header Ordinary) ≡ Some rule
ordinary_denied dir now request header rec aim rule shows e =
    ap (λ (found : Option TicketRec). first_failing (ordinary_rows dir now request found)) shows
    ∙ decided_deny (first_failing (ordinary_rules dir request.realm now request.wish rec)) (ordinary_terms dir request.realm now request.wish rec aim) rule e

-- ---- S4U2self

-- S4 to S7 and T1, where none of S1 to S3 fails
behind_users : (dir : DirectoryValue) (now : Moment) (request : Request) (header : Header) (rec : TicketRec) → record_in header ≡ Some rec → first_failing (user_rules header request.message) ≡ None
    → first_failing (branch_rows dir now request header SelfTicket) ≡ first_failing (self_rules dir request.realm now request.wish rec)
behind_users dir now request header rec shows none =
    fails_later (user_rules header request.message) (self_rows dir now request (record_in header)) none ∙ ap (λ (found : Option TicketRec). first_failing (self_rows dir now request found)) shows

-- what is granted of S4U2self
record IsSelf (dir : DirectoryValue) (now : Moment) (request : Request) (header : Header) (rec : TicketRec) (aim : Aim) (terms : Terms) : Type 0 where
  rows : first_failing (branch_rows dir now request header SelfTicket) ≡ None
  own : first_failing (self_rules dir request.realm now request.wish rec) ≡ None
  are : terms ≡ self_terms dir request.realm now request.wish rec aim

self_granted_by : (dir : DirectoryValue) (now : Moment) (request : Request) (header : Header) (rec : TicketRec) (aim : Aim) (terms : Terms) (users : Option Rule) → record_in header ≡ Some rec
    → first_failing (user_rules header request.message) ≡ users → self_decision dir request.realm now request.wish rec aim (self_seen (view_of users)) ≡ Grant terms
    → IsSelf dir now request header rec aim terms
self_granted_by dir now request header rec aim terms None shows was e =
    let both = decided_grant (first_failing (self_rules dir request.realm now request.wish rec)) (self_terms dir request.realm now request.wish rec aim) terms e in
    record { rows = behind_users dir now request header rec shows was ∙ both.0; own = both.0; are = both.1 }
self_granted_by dir now request header rec aim terms (Some rule) shows was e = absurd cc

self_granted : (dir : DirectoryValue) (now : Moment) (request : Request) (header : Header) (rec : TicketRec) (aim : Aim) (terms : Terms) → record_in header ≡ Some rec
    → branch_decision dir now request header rec aim SelfTicket ≡ Grant terms → IsSelf dir now request header rec aim terms
self_granted dir now request header rec aim terms shows e = self_granted_by dir now request header rec aim terms (first_failing (user_rules header request.message)) shows refl e

self_denied_by : (dir : DirectoryValue) (now : Moment) (request : Request) (header : Header) (rec : TicketRec) (aim : Aim) (rule : Rule) (users : Option Rule) → record_in header ≡ Some rec
    → first_failing (user_rules header request.message) ≡ users → self_decision dir request.realm now request.wish rec aim (self_seen (view_of users)) ≡ Deny rule
    → first_failing (branch_rows dir now request header SelfTicket) ≡ Some rule
self_denied_by dir now request header rec aim rule None shows was e =
    behind_users dir now request header rec shows was
    ∙ decided_deny (first_failing (self_rules dir request.realm now request.wish rec)) (self_terms dir request.realm now request.wish rec aim) rule e
self_denied_by dir now request header rec aim rule (Some other) shows was e =
    let same : other ≡ rule = cc in
    fails_first (user_rules header request.message) (self_rows dir now request (record_in header)) rule (was ∙ ap (λ (r : Rule). Some r) same)

self_denied : (dir : DirectoryValue) (now : Moment) (request : Request) (header : Header) (rec : TicketRec) (aim : Aim) (rule : Rule) → record_in header ≡ Some rec
    → branch_decision dir now request header rec aim SelfTicket ≡ Deny rule → first_failing (branch_rows dir now request header SelfTicket) ≡ Some rule
self_denied dir now request header rec aim rule shows e = self_denied_by dir now request header rec aim rule (first_failing (user_rules header request.message)) shows refl e

-- ---- in its branch

-- what the header brings
pub record IsPresented (header : Header) (shown : Presented) : Type 0 where
  pub shows : record_in header ≡ Some shown.rec
  pub is : presented_with header shown.rec ≡ shown

pub presented_as : (header : Header) (shown : Presented) → Some shown ≡ option_map (presented_with header) (record_in header) → IsPresented header shown
presented_as header shown e =
    let found = mapped_of (record_in header) (presented_with header) shown (sym e) in
    let same : found.value ≡ shown.rec = ap (λ (p : Presented). p.rec) found.is in
    record { shows = found.was ∙ ap (λ (rec : TicketRec). Some rec) same; is = ap (presented_with header) (sym same) ∙ found.is }

pub header_kept : (dir : DirectoryValue) (now : Moment) (message : KdcReq) (i : ℕ) (wish : Wish) (header : Header) (shown : Presented) (aim : Aim)
    → header_in dir i message ≡ Some header → wish ≡ wish_of message → IsPresented header shown
    → (first_failing (header_rules dir i now wish (shown_header header)) ≡ None) × (aim_of dir i wish ≡ Some aim) → IsKept dir now message i header shown aim
header_kept dir now message i wish header shown aim opened e presented kept = record {
  opened = opened;
  shows = presented.shows;
  is = presented.is;
  ruled = subst (λ (w : Wish). first_failing (header_rules dir i now w (shown_header header)) ≡ None) e kept.0;
  aims = subst (λ (w : Wish). aim_of dir i w ≡ Some aim) e kept.1;
}

-- where a rule of the header fails
pub header_denies : (dir : DirectoryValue) (now : Moment) (message : KdcReq) (i : ℕ) (wish : Wish) (header : Header) (rule : Rule) → wish ≡ wish_of message
    → first_failing (header_rules dir i now wish (shown_header header)) ≡ Some rule
    → first_failing (opened_rows dir now (request_to message i) (tgs_branch message) (Some header)) ≡ Some rule
header_denies dir now message i wish header rule e denied =
    fails_first (header_rules dir i now (wish_of message) (shown_header header)) (branch_rows dir now (request_to message i) header (tgs_branch message)) rule
    (subst (λ (w : Wish). first_failing (header_rules dir i now w (shown_header header)) ≡ Some rule) e denied)

denied_in : (dir : DirectoryValue) (now : Moment) (message : KdcReq) (i : ℕ) (header : Header) (shown : Presented) (aim : Aim) (rule : Rule) (branch : Branch) → IsKept dir now message i header shown aim
    → tgs_branch message ≡ branch → is_proxy branch ≡ false → branch_decision dir now (request_to message i) header shown.rec aim branch ≡ Deny rule
    → first_failing (branch_rows dir now (request_to message i) header branch) ≡ Some rule
denied_in dir now message i header shown aim rule Initial h asked other e = absurd (not_initial message asked)
denied_in dir now message i header shown aim rule Ordinary h asked other e = ordinary_denied dir now (request_to message i) header shown.rec aim rule h.shows e
denied_in dir now message i header shown aim rule SelfTicket h asked other e = self_denied dir now (request_to message i) header shown.rec aim rule h.shows e
denied_in dir now message i header shown aim rule Proxy h asked other e = absurd cc

pub decision_denies : (dir : DirectoryValue) (now : Moment) (message : KdcReq) (i : ℕ) (header : Header) (shown : Presented) (aim : Aim) (rule : Rule) → IsKept dir now message i header shown aim
    → is_proxy (tgs_branch message) ≡ false → Deny rule ≡ branch_decision dir now (request_to message i) header shown.rec aim (tgs_branch message)
    → first_failing (opened_rows dir now (request_to message i) (tgs_branch message) (Some header)) ≡ Some rule
decision_denies dir now message i header shown aim rule h other e =
    fails_later (header_rules dir i now (wish_of message) (shown_header header)) (branch_rows dir now (request_to message i) header (tgs_branch message)) h.ruled
    ∙ denied_in dir now message i header shown aim rule (tgs_branch message) h refl other (sym e)

-- the header of a request
pub presented_is : (dir : DirectoryValue) (now : Moment) (message : KdcReq) (i : ℕ) (header : Header) (shown : Presented) (aim : Aim) → IsKept dir now message i header shown aim
    → presented_in dir (request_to message i) ≡ Some shown
presented_is dir now message i header shown aim h =
    ap (λ (found : Option Header). found >>= λ (header : Header). option_map (presented_with header) (record_in header)) h.opened ∙ ap (option_map (presented_with header)) h.shows ∙ ap (λ (p : Presented). Some p) h.is

-- the terms of S4U2self, for a user of the realm or of another
self_terms_by : (dir : DirectoryValue) (now : Moment) (request : Request) (shown : Presented) (asked : Option X509User) (local : Bool) (account : Option AccountRec) (aim : Aim) (grounds : Grounds) (terms : Terms)
    → user_grounds shown asked local account ≡ Some grounds → aim_of dir request.realm request.wish ≡ Some aim
    → terms ≡ self_terms dir request.realm now request.wish shown.rec aim → terms_of dir now request grounds ≡ Some terms
self_terms_by dir now request shown asked false account aim grounds terms on aims are =
    let is : ForHeadersUser shown asked ≡ grounds = some_is (ForHeadersUser shown asked) grounds on in
    ap (terms_of dir now request) (sym is) ∙ ap (option_map (self_terms dir request.realm now request.wish shown.rec)) aims ∙ ap (λ (terms : Terms). Some terms) (sym are)
self_terms_by dir now request shown asked true account aim grounds terms on aims are =
    let found = mapped_of account (λ (found : AccountRec). ForUser shown found asked) grounds on in
    ap (terms_of dir now request) (sym found.is) ∙ ap (option_map (self_terms dir request.realm now request.wish shown.rec)) aims ∙ ap (λ (terms : Terms). Some terms) (sym are)

self_terms_of : (dir : DirectoryValue) (now : Moment) (request : Request) (shown : Presented) (asked : Option X509User) (user : Option Principal) (aim : Aim) (grounds : Grounds) (terms : Terms)
    → (user >>= self_grounds dir request.realm shown asked) ≡ Some grounds → aim_of dir request.realm request.wish ≡ Some aim
    → terms ≡ self_terms dir request.realm now request.wish shown.rec aim → terms_of dir now request grounds ≡ Some terms
self_terms_of dir now request shown asked user aim grounds terms on aims are =
    let named = step_of user (self_grounds dir request.realm shown asked) grounds on in
    self_terms_by dir now request shown asked (user_is_local dir request.realm named.value) (user_record dir request.realm named.value) aim grounds terms named.is aims are

on_header : (dir : DirectoryValue) (now : Moment) (message : KdcReq) (i : ℕ) (header : Header) (shown : Presented) (aim : Aim) (branch : Branch) → IsKept dir now message i header shown aim
    → (presented_in dir (request_to message i) >>= λ (shown : Presented). grounds_on dir (request_to message i) shown branch) ≡ grounds_on dir (request_to message i) shown branch
on_header dir now message i header shown aim branch h =
    ap (λ (found : Option Presented). found >>= λ (shown : Presented). grounds_on dir (request_to message i) shown branch) (presented_is dir now message i header shown aim h)

granted_in : (dir : DirectoryValue) (now : Moment) (message : KdcReq) (i : ℕ) (header : Header) (shown : Presented) (aim : Aim) (terms : Terms) (grounds : Grounds) (branch : Branch)
    → IsKept dir now message i header shown aim → tgs_branch message ≡ branch → is_proxy branch ≡ false → branch_decision dir now (request_to message i) header shown.rec aim branch ≡ Grant terms
    → grounds_on dir (request_to message i) shown branch ≡ Some grounds
    → IsGranted dir now (request_to message i) branch header grounds terms
granted_in dir now message i header shown aim terms grounds Initial h asked other e on = absurd (not_initial message asked)
granted_in dir now message i header shown aim terms grounds Ordinary h asked other e on =
    let request : Request = request_to message i in
    let rec = shown.rec in
    let g = ordinary_granted dir now request header rec aim terms h.shows e in
    let is : ByHeader shown ≡ grounds = some_is (ByHeader shown) grounds on in
    record {
      allowed = fails_later (header_rules dir i now (wish_of message) (shown_header header)) (branch_rows dir now request header Ordinary) h.ruled ∙ g.0;
      stands = on_header dir now message i header shown aim Ordinary h ∙ on;
      given = ap (terms_of dir now request) (sym is) ∙ ap (option_map (ordinary_terms dir i now request.wish rec)) h.aims ∙ ap (λ (terms : Terms). Some terms) (sym g.1);
    }
granted_in dir now message i header shown aim terms grounds SelfTicket h asked other e on =
    let request : Request = request_to message i in
    let g = self_granted dir now request header shown.rec aim terms h.shows e in
    record {
      allowed = fails_later (header_rules dir i now (wish_of message) (shown_header header)) (branch_rows dir now request header SelfTicket) h.ruled ∙ g.rows;
      stands = on_header dir now message i header shown aim SelfTicket h ∙ on;
      given = self_terms_of dir now request shown (x509_asked message) request.wish.user aim grounds terms on h.aims g.are;
    }
granted_in dir now message i header shown aim terms grounds Proxy h asked other e on = absurd cc

pub decision_grants : (dir : DirectoryValue) (now : Moment) (message : KdcReq) (i : ℕ) (header : Header) (shown : Presented) (aim : Aim) (terms : Terms) (grounds : Grounds)
    → IsKept dir now message i header shown aim → is_proxy (tgs_branch message) ≡ false → Grant terms ≡ branch_decision dir now (request_to message i) header shown.rec aim (tgs_branch message)
    → Some grounds ≡ grounds_on dir (request_to message i) shown (tgs_branch message)
    → IsGranted dir now (request_to message i) (tgs_branch message) header grounds terms
decision_grants dir now message i header shown aim terms grounds h other e on = granted_in dir now message i header shown aim terms grounds (tgs_branch message) h refl other (sym e) (sym on)

-- a user that keeps its rules has grounds
pub user_has_grounds : (dir : DirectoryValue) (at : ℕ) (now : Moment) (wish : Wish) (rec : TicketRec) (shown : Presented) (asked : Option X509User) (local : Bool) (g : SelfGrants dir at now wish rec selves.Shown)
    → user_is_local dir at g.user ≡ local → IsThere (user_grounds shown asked local (user_record dir at g.user))
user_has_grounds dir at now wish rec shown asked false g is = record { value = ForHeadersUser shown asked; is = refl }
user_has_grounds dir at now wish rec shown asked true g is =
    let account = user_there dir at now wish rec g is in
    record { value = ForUser shown account.value asked; is = ap (option_map (λ (found : AccountRec). ForUser shown found asked)) account.is }

pub self_has_grounds : (dir : DirectoryValue) (at : ℕ) (now : Moment) (wish : Wish) (rec : TicketRec) (shown : Presented) (asked : Option X509User) → SelfGrants dir at now wish rec selves.Shown
    → IsThere (wish.user >>= self_grounds dir at shown asked)
self_has_grounds dir at now wish rec shown asked g =
    let found = user_has_grounds dir at now wish rec shown asked (user_is_local dir at g.user) g refl in
    record { value = found.value; is = ap (λ (user : Option Principal). user >>= self_grounds dir at shown asked) g.named ∙ found.is }

there_in : (dir : DirectoryValue) (now : Moment) (message : KdcReq) (i : ℕ) (header : Header) (shown : Presented) (aim : Aim) (terms : Terms) (branch : Branch) → IsKept dir now message i header shown aim
    → tgs_branch message ≡ branch → is_proxy branch ≡ false → branch_decision dir now (request_to message i) header shown.rec aim branch ≡ Grant terms
    → is_some (grounds_on dir (request_to message i) shown branch) ≡ true
there_in dir now message i header shown aim terms Initial h asked other e = absurd (not_initial message asked)
there_in dir now message i header shown aim terms Ordinary h asked other e = refl
there_in dir now message i header shown aim terms SelfTicket h asked other e =
    let request : Request = request_to message i in
    let g = self_granted dir now request header shown.rec aim terms h.shows e in
    let known = self_known dir i now request.wish shown.rec aim selves.Shown (ap (λ (failing : Option Rule). is_grant (decided failing (self_terms dir i now request.wish shown.rec aim))) g.own) in
    ap (λ (found : Option Grounds). is_some found) (self_has_grounds dir i now request.wish shown.rec shown (x509_asked message) known).is
there_in dir now message i header shown aim terms Proxy h asked other e = absurd cc

-- where the decision grants, there are grounds
pub grounds_there : (dir : DirectoryValue) (now : Moment) (message : KdcReq) (i : ℕ) (header : Header) (shown : Presented) (aim : Aim) (terms : Terms) → IsKept dir now message i header shown aim
    → is_proxy (tgs_branch message) ≡ false → Grant terms ≡ branch_decision dir now (request_to message i) header shown.rec aim (tgs_branch message)
    → is_some (grounds_on dir (request_to message i) shown (tgs_branch message)) ≡ true
grounds_there dir now message i header shown aim terms h other e = there_in dir now message i header shown aim terms (tgs_branch message) h refl other (sym e)

-- ---- the whole

-- behind the reading of the header
pub tgs_opened : (dir : DirectoryValue) (now : Moment) (request : Request) (branch : Branch) (header : Header) → first_failing (reading_rules dir request.realm request.message) ≡ None
    → header_in dir request.realm request.message ≡ Some header → first_failing (tgs_rules dir now request branch) ≡ first_failing (opened_rows dir now request branch (Some header))
tgs_opened dir now request branch header reading opened =
    fails_later (reading_rules dir request.realm request.message) (opened_rows dir now request branch (header_in dir request.realm request.message)) reading
    ∙ ap (λ (found : Option Header). first_failing (opened_rows dir now request branch found)) opened

-- none of its rules fails
pub branch_allowed : (dir : DirectoryValue) (now : Moment) (message : KdcReq) (i : ℕ) (header : Header) → branch_of message ≡ tgs_branch message → first_failing (reading_rules dir i message) ≡ None
    → header_in dir i message ≡ Some header → first_failing (opened_rows dir now (request_to message i) (tgs_branch message) (Some header)) ≡ None
    → first_failing (rules_of_branch dir now (request_to message i) (branch_of message)) ≡ None
branch_allowed dir now message i header kind reading opened allowed =
    let request : Request = request_to message i in
    ap (λ (b : Branch). first_failing (rules_of_branch dir now request b)) kind ∙ ap (λ (rows : List (Rule × Bool)). first_failing rows) (tgs_rules_are dir now request message)
    ∙ tgs_opened dir now request (tgs_branch message) header reading opened ∙ allowed

-- a denial by the first group is one by both
pub denial_first : (xs ys : List (Rule × Bool)) (fault : ShowFault) → IsDenial (first_failing xs) fault → IsDenial (first_failing (xs ++ ys)) fault
denial_first xs ys (faults.Deny rule) h = fails_first xs ys rule h
denial_first xs ys faults.NoMemory h = tt

pub denial_is : (one other : Option Rule) (fault : ShowFault) → one ≡ other → IsDenial other fault → IsDenial one fault
denial_is one other (faults.Deny rule) e h = e ∙ h
denial_is one other faults.NoMemory e h = tt

-- ---- the header, as it is kept

pub kept_ok : (dir : DirectoryValue) (now : Moment) (message : KdcReq) (i : ℕ) (wish : Wish) (header : Header) (result : Result Kept Rule) → header_in dir i message ≡ Some header → wish ≡ wish_of message
    → MatchResult result (λ kept. (first_failing (header_rules dir i now wish (shown_header header)) ≡ None) × (aim_of dir i wish ≡ Some kept.aim))
    (λ rule. first_failing (header_rules dir i now wish (shown_header header)) ≡ Some rule)
    → IfOk result (λ kept. Some (presented_seen kept.shown) ≡ option_map (presented_with header) (record_in header))
    → IfOk result (λ kept. IsKept dir now message i header (presented_seen kept.shown) kept.aim)
kept_ok dir now message i wish header (Ok kept) opened e first shown =
    header_kept dir now message i wish header (presented_seen kept.shown) kept.aim opened e (presented_as header (presented_seen kept.shown) shown) first
kept_ok dir now message i wish header (Err rule) opened e first shown = tt

pub kept_err : (dir : DirectoryValue) (now : Moment) (message : KdcReq) (i : ℕ) (wish : Wish) (header : Header) (result : Result Kept Rule) → wish ≡ wish_of message
    → MatchResult result (λ kept. (first_failing (header_rules dir i now wish (shown_header header)) ≡ None) × (aim_of dir i wish ≡ Some kept.aim))
    (λ rule. first_failing (header_rules dir i now wish (shown_header header)) ≡ Some rule)
    → IfErr result (λ rule. first_failing (opened_rows dir now (request_to message i) (tgs_branch message) (Some header)) ≡ Some rule)
kept_err dir now message i wish header (Ok kept) e first = tt
kept_err dir now message i wish header (Err rule) e first = header_denies dir now message i wish header rule e first

-- ---- S4U2proxy

-- the rules behind those of the header
proxy_behind : (dir : DirectoryValue) (now : Moment) (message : KdcReq) (i : ℕ) (header : Header) (shown : Presented) (aim : Aim) → IsKept dir now message i header shown aim → tgs_branch message ≡ Proxy
    → first_failing (opened_rows dir now (request_to message i) (tgs_branch message) (Some header)) ≡ first_failing (proxy_rows dir now (request_to message i) (Some shown.rec))
proxy_behind dir now message i header shown aim h asked =
    let request : Request = request_to message i in
    ap (λ (b : Branch). first_failing (opened_rows dir now request b (Some header))) asked
    ∙ fails_later (header_rules dir i now (wish_of message) (shown_header header)) (branch_rows dir now request header Proxy) h.ruled
    ∙ ap (λ (found : Option TicketRec). first_failing (proxy_rows dir now request found)) h.shows

-- where the evidence is denied
pub evidence_denies : (dir : DirectoryValue) (now : Moment) (message : KdcReq) (i : ℕ) (header : Header) (shown : Presented) (aim : Aim) (fault : ShowFault) → IsKept dir now message i header shown aim
    → tgs_branch message ≡ Proxy → IsDenial (first_failing (evidence_reading_rules dir i message shown.rec)) fault
    → IsDenial (first_failing (opened_rows dir now (request_to message i) (tgs_branch message) (Some header))) fault
evidence_denies dir now message i header shown aim fault h asked denied =
    let request : Request = request_to message i in
    let rows = evidence_reading_rules dir i message shown.rec in
    let rest = evidence_rows dir now request shown.rec (evidence_in dir i message shown.rec) in
    denial_is (first_failing (opened_rows dir now request (tgs_branch message) (Some header))) (first_failing (rows ++ rest)) fault (proxy_behind dir now message i header shown aim h asked)
    (denial_first rows rest fault denied)

-- behind P1 to P5
behind_evidence : (dir : DirectoryValue) (now : Moment) (message : KdcReq) (i : ℕ) (header : Header) (shown : Presented) (aim : Aim) (evidence : Evidence) → IsKept dir now message i header shown aim
    → tgs_branch message ≡ Proxy → first_failing (evidence_reading_rules dir i message shown.rec) ≡ None → evidence_in dir i message shown.rec ≡ Some evidence
    → first_failing (opened_rows dir now (request_to message i) (tgs_branch message) (Some header)) ≡ proxy_verdict dir i now (wish_of message) shown.rec aim (SeenProxy (evidence_seen_of evidence))
behind_evidence dir now message i header shown aim evidence h asked none found =
    let request : Request = request_to message i in
    let rows = evidence_reading_rules dir i message shown.rec in
    proxy_behind dir now message i header shown aim h asked
    ∙ fails_later rows (evidence_rows dir now request shown.rec (evidence_in dir i message shown.rec)) none
    ∙ ap (λ (found : Option Evidence). first_failing (evidence_rows dir now request shown.rec found)) found
    ∙ ap (λ (aimed : Option Aim). first_failing (aimed_rows dir now request shown.rec evidence aimed)) h.aims

pub proxy_denies : (dir : DirectoryValue) (now : Moment) (message : KdcReq) (i : ℕ) (wish : Wish) (header : Header) (shown : Presented) (aim : Aim) (evidence : Evidence) (rule : Rule)
    → IsKept dir now message i header shown aim → tgs_branch message ≡ Proxy → wish ≡ wish_of message → first_failing (evidence_reading_rules dir i message shown.rec) ≡ None
    → evidence_in dir i message shown.rec ≡ Some evidence → Deny rule ≡ proxy_decision dir i now wish shown.rec aim (SeenProxy (evidence_seen_of evidence))
    → first_failing (opened_rows dir now (request_to message i) (tgs_branch message) (Some header)) ≡ Some rule
proxy_denies dir now message i wish header shown aim evidence rule h asked is none found e =
    let decision : proxy_decision dir i now (wish_of message) shown.rec aim (SeenProxy (evidence_seen_of evidence)) ≡ Deny rule =
    sym (e ∙ ap (λ (w : Wish). proxy_decision dir i now w shown.rec aim (SeenProxy (evidence_seen_of evidence))) is) in
    behind_evidence dir now message i header shown aim evidence h asked none found
    ∙ decided_deny (proxy_verdict dir i now (wish_of message) shown.rec aim (SeenProxy (evidence_seen_of evidence))) (proxy_terms dir i now (wish_of message) shown.rec evidence.certified.rec aim) rule decision

-- what is granted of S4U2proxy
pub record IsProxy (dir : DirectoryValue) (now : Moment) (message : KdcReq) (i : ℕ) (header : Header) (shown : Presented) (evidence : Evidence) (terms : Terms) : Type 0 where
  pub rows : first_failing (opened_rows dir now (request_to message i) (tgs_branch message) (Some header)) ≡ None
  pub stands : grounds_of dir (request_to message i) (tgs_branch message) ≡ Some (ByEvidence shown (ticket_shown_by evidence))
  pub given : terms_of dir now (request_to message i) (ByEvidence shown (ticket_shown_by evidence)) ≡ Some terms

pub proxy_grants : (dir : DirectoryValue) (now : Moment) (message : KdcReq) (i : ℕ) (wish : Wish) (header : Header) (shown : Presented) (aim : Aim) (evidence : Evidence) (terms : Terms)
    → IsKept dir now message i header shown aim → tgs_branch message ≡ Proxy → wish ≡ wish_of message → first_failing (evidence_reading_rules dir i message shown.rec) ≡ None
    → evidence_in dir i message shown.rec ≡ Some evidence → Grant terms ≡ proxy_decision dir i now wish shown.rec aim (SeenProxy (evidence_seen_of evidence))
    → IsProxy dir now message i header shown evidence terms
proxy_grants dir now message i wish header shown aim evidence terms h asked is none found e =
    let request : Request = request_to message i in
    let ticket : ShownTicket = ticket_shown_by evidence in
    let made : Terms = proxy_terms dir i now (wish_of message) shown.rec evidence.certified.rec aim in
    let decision : proxy_decision dir i now (wish_of message) shown.rec aim (SeenProxy (evidence_seen_of evidence)) ≡ Grant terms =
    sym (e ∙ ap (λ (w : Wish). proxy_decision dir i now w shown.rec aim (SeenProxy (evidence_seen_of evidence))) is) in
    let both = decided_grant (proxy_verdict dir i now (wish_of message) shown.rec aim (SeenProxy (evidence_seen_of evidence))) made terms decision in
    record {
      rows = behind_evidence dir now message i header shown aim evidence h asked none found ∙ both.0;
      stands =
          ap (grounds_of dir request) asked ∙ on_header dir now message i header shown aim Proxy h
          ∙ ap (λ (found : Option Evidence). option_map (ByEvidence shown) (option_map ticket_shown_by found)) found;
      given = ap (option_map (proxy_terms dir i now (wish_of message) shown.rec ticket.rec)) h.aims ∙ ap (λ (terms : Terms). Some terms) (sym both.1);
    }

-- a fault that a step passes on
pub carried_err : {X E : Type 0} (P : E → Type 0) (result : Result X E) (fault : E) → IsErr result × IsErrAnd result (λ told. told ≡ fault) → P fault → IfErr result P
carried_err P (Ok x) fault h is = tt
carried_err P (Err told) fault h is = subst P (sym h.1) is

pub if_ok_all : {X E : Type 0} (P : Type 0) (Q : Type 0) (r : Result X E) → (P → Q) → IfOk r (λ x. P) → IfOk r (λ x. Q)
if_ok_all P Q (Ok x) f h = f h
if_ok_all P Q (Err fault) f h = tt

pub if_err_all : {X E : Type 0} (P Q : E → Type 0) (r : Result X E) → ((fault : E) → P fault → Q fault) → IfErr r P → IfErr r Q
if_err_all P Q (Ok x) f h = tt
if_err_all P Q (Err fault) f h = f fault h

-- what is granted on these grounds
pub grant_is : (dir : DirectoryValue) (now : Moment) (request : Request) (grounds : Grounds) (terms : Terms) → grounds_of dir request (branch_of request.message) ≡ Some grounds
    → terms_of dir now request grounds ≡ Some terms → grant_with dir request grounds terms ≡ grant_of dir now request
grant_is dir now request grounds terms stands given =
    sym (
    ap (λ (found : Option Grounds). found >>= λ (grounds : Grounds). terms_of dir now request grounds >>= λ (terms : Terms). grant_with dir request grounds terms) stands
    ∙ ap (λ (found : Option Terms). found >>= λ (terms : Terms). grant_with dir request grounds terms) given
    )

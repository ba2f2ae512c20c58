-- By the grounds of a grant: the row of its entry.
use Rattle.std.proofs.Common.{◌≡◌, ◌∙◌, ℕ, Bool, true, false, List, Option, None, Some, refl, sym, ap, subst}
use Rattle.std.specs.Prelude.{◌||◌, if◌then◌else◌, is_none, option_map}
use Rattle.kdc_prelude.proofs.Bools.{both}
use Rattle.kdc_prelude.specs.Steps.{◌>>=◌}
use Rattle.krb_names.specs.declared.moment.Moment.{Moment}
use Rattle.krb_names.specs.declared.principal.Principal.{Principal}
use Rattle.kdc_records.specs.declared.decision.Terms.{Terms}
use Rattle.kdc_records.specs.declared.subject.Delegation.{Delegation}
use Rattle.kdc_records.specs.declared.ticket_rec.TicketRec.{TicketRec}
use Rattle.kdc_records.specs.declared.wish.Branch.{Branch}
use Rattle.kdc_records.specs.declared.wish.Branch.TheVariants.{Initial, Ordinary, SelfTicket, Proxy}
use Rattle.kdc_records.specs.declared.wish.Wish.{Wish}
use Rattle.s4u_padata.specs.declared.x509_user.X509User.{X509User}
use Rattle.dir_records.specs.declared.records.Account.{Account as AccountRec}
use Rattle.dir_records.specs.DirectoryValue.{DirectoryValue}
use Rattle.as_core.specs.AsRequests.{as_ask}
use Rattle.as_core.specs.AsRules.{AsGrants, client_account}
use Rattle.s4u_rules.specs.Headers.{record_of as record_seen}
use Rattle.s4u_rules.specs.SelfRules.{is_user_of, self_terms, user_is_local, user_record}
use Rattle.s4u_rules.specs.TgsRules.{aim_of, header_is_own, is_for_its_client, is_self, requestor_is_known}
use Rattle.proxy_rules.specs.ProxyRules.{ShownEvidence, evidence_agrees, proxy_terms}
use Rattle.tgs_requests.specs.declared.header.Header.{Header}
use Rattle.tgs_requests.specs.Askings.{branch_of}
use Rattle.tgs_requests.specs.Headers.{record_in}
use Rattle.proxy_requests.specs.declared.evidence.Evidence.{Evidence}
use Rattle.tgs_core.specs.Grants.{ByAccount, ByEvidence, ByHeader, ForHeadersUser, ForUser, Grant, Grounds, Presented, ShownTicket, delegation_by, grounds_of, grounds_on, presented_in, presented_with, self_grounds, subject_by, terms_of, ticket_presented, ticket_shown_by, user_grounds, x509_asked}
use Rattle.tgs_core.specs.Grants as granted
use Rattle.tgs_core.specs.Requests.{Request}
use Rattle.tgs_core.specs.Verdicts.{HeaderKept, OrdinaryGrants, ProxyTicketGrants, SelfTicketGrants}
use Rattle.history_laws.specs.Chains.{SelfStep}
use Rattle.history_laws.specs.Entries.{entry_of}
use Rattle.history_laws.proofs.EvidenceHolders.{evidence_parts, own_evidence}
use Rattle.history_laws.proofs.Granted.{GrantBy, IsRead}
use Rattle.history_laws.proofs.GrantsOf.{IsGrantOf, request_parts, step_is, wish_branch}
use Rattle.history_laws.proofs.ShownTickets.{evidence_is_read, evidence_is_told, header_is_read}
use Rattle.history_laws.proofs.Steps.{mapped, none_is, one_of, or_second}

-- ---- the header

-- the record of which its rules were judged is the one that it shows
same_rec : (dir : DirectoryValue) (now : Moment) (request : Request) (kept : HeaderKept dir now request) → kept.granted.rec ≡ kept.rec
same_rec dir now request kept = one_of kept.granted.rec kept.rec (sym (ap record_seen kept.granted.shown ∙ kept.granted.certified) ∙ kept.shown)

-- G13 and G22 of it
header_known : (dir : DirectoryValue) (now : Moment) (request : Request) (kept : HeaderKept dir now request) → requestor_is_known dir request.realm kept.rec ≡ true
header_known dir now request kept = subst (λ (rec : TicketRec). requestor_is_known dir request.realm rec ≡ true) (same_rec dir now request kept) kept.granted.known

header_own : (dir : DirectoryValue) (now : Moment) (request : Request) (kept : HeaderKept dir now request) → header_is_own request.wish kept.rec ≡ true
header_own dir now request kept = subst (λ (rec : TicketRec). header_is_own request.wish rec ≡ true) (same_rec dir now request kept) kept.granted.own

-- it lists nothing
header_bare : (dir : DirectoryValue) (now : Moment) (request : Request) (kept : HeaderKept dir now request) → kept.rec.delegation ≡ None
header_bare dir now request kept =
    none_is kept.rec.delegation (both (is_none kept.rec.delegation) (is_self request.wish.branch || is_for_its_client kept.rec) (header_own dir now request kept)).0

-- outside S4U2self it is its client's own
header_client : (dir : DirectoryValue) (now : Moment) (request : Request) (kept : HeaderKept dir now request) → is_self request.wish.branch ≡ false → is_for_its_client kept.rec ≡ true
header_client dir now request kept other =
    or_second (is_self request.wish.branch) (is_for_its_client kept.rec) other
    (both (is_none kept.rec.delegation) (is_self request.wish.branch || is_for_its_client kept.rec) (header_own dir now request kept)).1

header_read : (dir : DirectoryValue) (now : Moment) (request : Request) (kept : HeaderKept dir now request) → IsRead (ticket_presented (presented_with kept.header kept.rec))
header_read dir now request kept = header_is_read dir request.realm request.message kept.header kept.rec kept.opened kept.shown

presented_is : (dir : DirectoryValue) (now : Moment) (request : Request) (kept : HeaderKept dir now request) → presented_in dir request ≡ Some (presented_with kept.header kept.rec)
presented_is dir now request kept =
    ap (λ (found : Option Header). found >>= λ (header : Header). option_map (presented_with header) (record_in header)) kept.opened ∙ ap (option_map (presented_with kept.header)) kept.shown

-- ---- what is granted on these grounds

subject_is : (dir : DirectoryValue) (now : Moment) (block : List ℕ) (grant : Grant) (grounds : Grounds) → grant.grounds ≡ grounds → (entry_of dir now block grant).ticket.subject ≡ subject_by grant.realm grounds
unfolding granted.granted_record
subject_is dir now block grant grounds is = ap (subject_by grant.realm) is

client_is : (dir : DirectoryValue) (now : Moment) (block : List ℕ) (grant : Grant) (header : Presented) → grant.grounds ≡ ByHeader header → (entry_of dir now block grant).ticket.client ≡ header.rec.client
unfolding granted.granted_record
client_is dir now block grant header is = ap (granted.client_by grant.realm grant.terms.aim) is

delegation_is : (dir : DirectoryValue) (now : Moment) (block : List ℕ) (grant : Grant) (grounds : Grounds) → grant.grounds ≡ grounds
    → (entry_of dir now block grant).ticket.delegation ≡ delegation_by grant.realm grant.asked grounds
unfolding granted.granted_record
delegation_is dir now block grant grounds is = ap (delegation_by grant.realm grant.asked) is

-- ---- an AS-REQ

pub initial_row : (dir : DirectoryValue) (now : Moment) (block bytes : List ℕ) (grant : Grant) → IsGrantOf dir now bytes grant → branch_of grant.request.message ≡ Initial
    → AsGrants (as_ask dir grant.request.realm now grant.request.message) → GrantBy (entry_of dir now block grant) grant.grounds
initial_row dir now block bytes grant of branch rules =
    let request : Request = grant.request in
    let account = mapped ByAccount (client_account dir request.realm request.message.req_body.cname) grant.grounds (sym (ap (grounds_of dir request) branch) ∙ of.grounds) in
    let is : grant.grounds ≡ ByAccount account.0 = sym account.2 in
    subst (GrantBy (entry_of dir now block grant)) account.2
    (record {
      realm = of.realm;
      rules = rules;
      found = account.1;
      subject = subject_is dir now block grant (ByAccount account.0) is;
      bare = delegation_is dir now block grant (ByAccount account.0) is;
    })

-- ---- an ordinary TGS-REQ

-- the grounds of a TGS-REQ, on the header that it shows
on_header : (dir : DirectoryValue) (now : Moment) (bytes : List ℕ) (grant : Grant) (branch : Branch) → IsGrantOf dir now bytes grant → (kept : HeaderKept dir now grant.request)
    → grounds_of dir grant.request (branch_of grant.request.message) ≡ (presented_in dir grant.request >>= λ (shown : Presented). grounds_on dir grant.request shown branch)
    → grounds_on dir grant.request (presented_with kept.header kept.rec) branch ≡ Some grant.grounds
on_header dir now bytes grant branch of kept asked =
    sym (asked ∙ ap (λ (found : Option Presented). found >>= λ (shown : Presented). grounds_on dir grant.request shown branch) (presented_is dir now grant.request kept)) ∙ of.grounds

pub ordinary_row : (dir : DirectoryValue) (now : Moment) (block bytes : List ℕ) (grant : Grant) → IsGrantOf dir now bytes grant → branch_of grant.request.message ≡ Ordinary
    → OrdinaryGrants dir now grant.request → GrantBy (entry_of dir now block grant) grant.grounds
ordinary_row dir now block bytes grant of branch grants =
    let request : Request = grant.request in
    let kept = grants.kept in
    let shown : Presented = presented_with kept.header kept.rec in
    let same = one_of (ByHeader shown) grant.grounds (on_header dir now bytes grant Ordinary of kept (ap (grounds_of dir request) branch)) in
    let is : grant.grounds ≡ ByHeader shown = sym same in
    subst (GrantBy (entry_of dir now block grant)) same
    (record {
      read = header_read dir now request kept;
      subject = subject_is dir now block grant (ByHeader shown) is;
      client = client_is dir now block grant shown is;
      bare = delegation_is dir now block grant (ByHeader shown) is;
      first = header_bare dir now request kept;
    })

-- ---- S4U2self

self_step : (dir : DirectoryValue) (now : Moment) (block bytes : List ℕ) (grant : Grant) (of : IsGrantOf dir now bytes grant) (grants : SelfTicketGrants dir now grant.request)
    → option_map (self_terms dir grant.request.realm now grant.request.wish grants.kept.rec) (aim_of dir grant.request.realm grant.request.wish) ≡ Some grant.terms
    → SelfStep (entry_of dir now block grant) grants.kept.rec grants.granted.user
self_step dir now block bytes grant of grants terms =
    let request : Request = grant.request in
    let aim = mapped (self_terms dir request.realm now request.wish grants.kept.rec) (aim_of dir request.realm request.wish) grant.terms terms in
    record {
      aim = aim.0;
      step = step_is dir now block bytes grant aim.0 of aim.1 (ap (λ (t : Terms). t.aim) (sym aim.2));
      wished = grants.granted.named;
      requestor_known = header_known dir now request grants.kept;
      served = grants.granted.requested;
      fits = grants.granted.fits;
      user_known = grants.granted.user_known;
      user_enabled = grants.granted.user_enabled;
    }

-- for a user of the realm, or of another one
self_by : (dir : DirectoryValue) (now : Moment) (block bytes : List ℕ) (grant : Grant) (of : IsGrantOf dir now bytes grant) (grants : SelfTicketGrants dir now grant.request) (local : Bool)
    → user_is_local dir grant.request.realm grants.granted.user ≡ local
    → user_grounds (presented_with grants.kept.header grants.kept.rec) (x509_asked grant.request.message) local (user_record dir grant.request.realm grants.granted.user) ≡ Some grant.grounds
    → (if local then is_for_its_client grants.kept.rec else is_user_of grants.kept.rec.subject grants.granted.user) ≡ true
    → GrantBy (entry_of dir now block grant) grant.grounds
self_by dir now block bytes grant of grants true local grounds fits =
    let request : Request = grant.request in
    let shown : Presented = presented_with grants.kept.header grants.kept.rec in
    let asked : Option X509User = x509_asked request.message in
    let account = mapped (λ (found : AccountRec). ForUser shown found asked) (user_record dir request.realm grants.granted.user) grant.grounds grounds in
    let is : grant.grounds ≡ ForUser shown account.0 asked = sym account.2 in
    let terms = ap (terms_of dir now request) account.2 ∙ of.terms in
    subst (GrantBy (entry_of dir now block grant)) account.2
    (record {
      read = header_read dir now request grants.kept;
      user = grants.granted.user;
      step = self_step dir now block bytes grant of grants terms;
      own = fits;
      local = local;
      found = account.1;
      subject = subject_is dir now block grant (ForUser shown account.0 asked) is;
      bare = delegation_is dir now block grant (ForUser shown account.0 asked) is;
    })
self_by dir now block bytes grant of grants false local grounds fits =
    let request : Request = grant.request in
    let shown : Presented = presented_with grants.kept.header grants.kept.rec in
    let asked : Option X509User = x509_asked request.message in
    let same = one_of (ForHeadersUser shown asked) grant.grounds grounds in
    let is : grant.grounds ≡ ForHeadersUser shown asked = sym same in
    let terms = ap (terms_of dir now request) same ∙ of.terms in
    subst (GrantBy (entry_of dir now block grant)) same
    (record {
      read = header_read dir now request grants.kept;
      user = grants.granted.user;
      step = self_step dir now block bytes grant of grants terms;
      other = local;
      is_user = fits;
      subject = subject_is dir now block grant (ForHeadersUser shown asked) is;
      bare = delegation_is dir now block grant (ForHeadersUser shown asked) is;
      first = header_bare dir now request grants.kept;
    })

pub self_row : (dir : DirectoryValue) (now : Moment) (block bytes : List ℕ) (grant : Grant) → IsGrantOf dir now bytes grant → branch_of grant.request.message ≡ SelfTicket
    → SelfTicketGrants dir now grant.request → GrantBy (entry_of dir now block grant) grant.grounds
self_row dir now block bytes grant of branch grants =
    let request : Request = grant.request in
    let shown : Presented = presented_with grants.kept.header grants.kept.rec in
    let on = on_header dir now bytes grant SelfTicket of grants.kept (ap (grounds_of dir request) branch) in
    let grounds = sym (ap (λ (user : Option Principal). user >>= self_grounds dir request.realm shown (x509_asked request.message)) grants.granted.named) ∙ on in
    self_by dir now block bytes grant of grants (user_is_local dir request.realm grants.granted.user) refl grounds grants.granted.fits

-- ---- S4U2proxy

pub proxy_row : (dir : DirectoryValue) (now : Moment) (block bytes : List ℕ) (grant : Grant) → IsGrantOf dir now bytes grant → branch_of grant.request.message ≡ Proxy
    → ProxyTicketGrants dir now grant.request → GrantBy (entry_of dir now block grant) grant.grounds
proxy_row dir now block bytes grant of branch grants =
    let request : Request = grant.request in
    let kept = grants.kept in
    let rules = grants.granted in
    let shown : Presented = presented_with kept.header kept.rec in
    let evidence : Evidence = grants.evidence in
    let told : ShownTicket = ticket_shown_by evidence in
    let on = on_header dir now bytes grant Proxy of kept (ap (grounds_of dir request) branch) in
    let same = one_of (ByEvidence shown told) grant.grounds (sym (ap (λ (found : Option Evidence). option_map (ByEvidence shown) (option_map ticket_shown_by found)) grants.found) ∙ on) in
    let is : grant.grounds ≡ ByEvidence shown told = sym same in
    let aim = mapped (proxy_terms dir request.realm now request.wish kept.rec told.rec) (aim_of dir request.realm request.wish) grant.terms (ap (terms_of dir now request) same ∙ of.terms) in
    let aimed : grant.terms.aim ≡ kept.granted.aim = ap (λ (t : Terms). t.aim) (sym aim.2) ∙ one_of aim.0 kept.granted.aim (sym aim.1 ∙ kept.granted.aimed) in
    let parts = evidence_parts dir request.realm request.message kept.rec evidence grants.found in
    let not_self : is_self request.wish.branch ≡ false =
    ap is_self (ap (λ (w : Wish). w.branch) (sym (request_parts dir bytes request of.asked).wish) ∙ wish_branch request.message ∙ branch) in
    let own = header_client dir now request kept not_self in
    subst (GrantBy (entry_of dir now block grant)) same
    (record {
      read = header_read dir now request kept;
      evidence_read = evidence_is_read evidence parts.told;
      step = record {
        aim = kept.granted.aim;
        step = step_is dir now block bytes grant kept.granted.aim of kept.granted.aimed aimed;
        agrees = subst (λ (seen : ShownEvidence). evidence_agrees request.wish kept.rec seen ≡ true) (evidence_is_told evidence parts.told) rules.agrees;
        reached = rules.reached;
        usable = rules.usable;
        delegable = rules.delegable;
        allowed = rules.allowed;
        short = rules.short;
        own = own;
        own_evidence = own_evidence dir request.realm grant.realm kept.rec evidence of.realm (header_known dir now request kept) own parts;
      };
      subject = subject_is dir now block grant (ByEvidence shown told) is;
      list = ap (option_map (λ (d : Delegation). d.services)) (delegation_is dir now block grant (ByEvidence shown told) is);
    })

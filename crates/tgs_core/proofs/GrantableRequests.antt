-- What is granted to a request that no rule denies can be written: the realms on its way, and its delegation.
use Rattle.std.proofs.Common.{◌≡◌, ℕ, Bool, true, false, List, Option, Some, None, refl, sym, ap, ◌∙◌, subst}
use Rattle.std.specs.Prelude.{IfSome, option_map, slice_get}
use Rattle.kdc_prelude.proofs.Bools.{both}
use Rattle.kdc_prelude.specs.Steps.{◌>>=◌}
use Rattle.kdc_prelude.specs.Verdicts.{first_failing}
use Rattle.krb_names.specs.declared.moment.Moment.{Moment}
use Rattle.krb_names.specs.declared.principal.Principal.{Principal}
use Rattle.krb_messages.specs.declared.kdc_req.KdcReq.{KdcReq}
use Rattle.s4u_padata.specs.declared.x509_user.X509User.{X509User}
use Rattle.kdc_records.specs.declared.decision.Terms.{Terms}
use Rattle.kdc_records.specs.declared.ticket_rec.TicketRec.{TicketRec}
use Rattle.kdc_records.specs.declared.wish.Branch.{Branch}
use Rattle.kdc_records.specs.declared.wish.Branch.TheVariants.{Initial, Ordinary, Proxy, SelfTicket}
use Rattle.dir_records.specs.declared.records.Account.{Account as AccountRec}
use Rattle.dir_records.specs.declared.records.RealmRec.{RealmRec}
use Rattle.dir_records.specs.DirectoryValue.{DirectoryValue}
use Rattle.dir_records.specs.IsDirectory.{IsDirectory}
use Rattle.dir_core.specs.Lookups.{realm_named}
use Rattle.route_rules.specs.Cross.{is_reached_subject, is_reached_way}
use Rattle.as_core.specs.AsRules.{client_account}
use Rattle.s4u_rules.specs.Headers.{record_of}
use Rattle.s4u_rules.specs.SelfRules.{user_is_local, user_record}
use Rattle.proxy_requests.specs.declared.evidence.Evidence.{Evidence}
use Rattle.ticket_codec.specs.Made.{IsTicketName}
use Rattle.ticket_parts.specs.Sound.{IsSound}
use Rattle.tgs_requests.specs.declared.header.Header.{Header}
use Rattle.tgs_requests.specs.Askings.{branch_of}
use Rattle.tgs_requests.specs.Headers.{header_in, record_in}
use Rattle.tgs_core.specs.Grants.{ByAccount, ByEvidence, ByHeader, ForHeadersUser, ForUser, Grounds, IsGrantable, Presented, ShownTicket, evidence_presented, grounds_of, grounds_on, presented_in, presented_with, self_grounds, ticket_shown_by, user_grounds, x509_asked}
use Rattle.tgs_core.specs.Received.{IsReceived}
use Rattle.tgs_core.specs.Requests.{Request, request_to}
use Rattle.tgs_core.specs.Verdicts.{HeaderKept, rules_of_branch}
use Rattle.tgs_core.proofs.FoundGrants.{mapped_of, named_realm, some_is, step_of}
use Rattle.tgs_core.proofs.Grantable.{delegation_is, way_is}
use Rattle.tgs_core.proofs.ShownEvidence.{evidence_is_sound}
use Rattle.tgs_core.proofs.ShownHeaders.{header_is_sound}
use Rattle.tgs_core.proofs.TgsVerdicts.{ordinary_kept, proxy_kept, self_kept}

-- ---- the header

pub presented_sound : (dir : DirectoryValue) (message : KdcReq) (i : ℕ) (shown : Presented) → IsDirectory dir → IsReceived message → presented_in dir (request_to message i) ≡ Some shown → IsSound shown.rec
presented_sound dir message i shown h received e =
    let header = step_of (header_in dir i message) (λ (header : Header). option_map (presented_with header) (record_in header)) shown e in
    let rec = mapped_of (record_in header.value) (presented_with header.value) shown header.is in
    subst (λ (shown : Presented). IsSound shown.rec) rec.is (header_is_sound dir i message header.value rec.value h received.octets header.was rec.was)

-- the record of a header that keeps its rules
pub kept_rec : (dir : DirectoryValue) (now : Moment) (request : Request) (kept : HeaderKept dir now request) → kept.granted.rec ≡ kept.rec
kept_rec dir now request kept = sym (some_is kept.rec kept.granted.rec (sym kept.shown ∙ ap record_of kept.granted.shown ∙ kept.granted.certified))

-- what it brings
pub kept_presented : (dir : DirectoryValue) (now : Moment) (request : Request) (kept : HeaderKept dir now request) → presented_in dir request ≡ Some (presented_with kept.header kept.rec)
kept_presented dir now request kept =
    ap (λ (found : Option Header). found >>= λ (header : Header). option_map (presented_with header) (record_in header)) kept.opened ∙ ap (option_map (presented_with kept.header)) kept.shown

kept_sound : (dir : DirectoryValue) (now : Moment) (message : KdcReq) (i : ℕ) (kept : HeaderKept dir now (request_to message i)) → IsDirectory dir → IsReceived message → IsSound kept.rec
kept_sound dir now message i kept h received = header_is_sound dir i message kept.header kept.rec h received.octets kept.opened kept.shown

-- the way behind it can be written
header_way : (dir : DirectoryValue) (now : Moment) (message : KdcReq) (i : ℕ) (kept : HeaderKept dir now (request_to message i)) → is_reached_way dir i kept.rec ≡ true
header_way dir now message i kept = subst (λ (rec : TicketRec). is_reached_way dir i rec ≡ true) (kept_rec dir now (request_to message i) kept) kept.granted.way_reached

-- ---- what is granted

by_account : (realm : RealmRec) (server : Principal) (account : AccountRec) (grounds : Grounds) (terms : Terms) → ByAccount account ≡ grounds → IsGrantable realm server terms grounds
by_account realm server account grounds terms e = subst (λ (g : Grounds). IsGrantable realm server terms g) e (record { way = refl; delegation = tt })

by_header : (dir : DirectoryValue) (now : Moment) (message : KdcReq) (i : ℕ) (realm : RealmRec) (server : Principal) (kept : HeaderKept dir now (request_to message i)) (terms : Terms)
    → IsDirectory dir → IsReceived message → IsGrantable realm server terms (ByHeader (presented_with kept.header kept.rec))
by_header dir now message i realm server kept terms h received =
    record { way = way_is dir i kept.rec terms.append h (kept_sound dir now message i kept h received) (header_way dir now message i kept); delegation = tt }

for_headers_user : (dir : DirectoryValue) (now : Moment) (message : KdcReq) (i : ℕ) (realm : RealmRec) (server : Principal) (kept : HeaderKept dir now (request_to message i)) (asked : Option X509User)
    (terms : Terms) → IsDirectory dir → IsReceived message
    → IsGrantable realm server terms (ForHeadersUser (presented_with kept.header kept.rec) asked)
for_headers_user dir now message i realm server kept asked terms h received =
    record { way = way_is dir i kept.rec terms.append h (kept_sound dir now message i kept h received) (header_way dir now message i kept); delegation = tt }

self_by : (dir : DirectoryValue) (now : Moment) (message : KdcReq) (i : ℕ) (realm : RealmRec) (server : Principal) (kept : HeaderKept dir now (request_to message i)) (asked : Option X509User)
    (local : Bool) (account : Option AccountRec) (grounds : Grounds) (terms : Terms) → IsDirectory dir → IsReceived message
    → user_grounds (presented_with kept.header kept.rec) asked local account ≡ Some grounds → IsGrantable realm server terms grounds
self_by dir now message i realm server kept asked false account grounds terms h received e =
    subst (λ (g : Grounds). IsGrantable realm server terms g) (some_is (ForHeadersUser (presented_with kept.header kept.rec) asked) grounds e)
    (for_headers_user dir now message i realm server kept asked terms h received)
self_by dir now message i realm server kept asked true account grounds terms h received e =
    let found = mapped_of account (λ (found : AccountRec). ForUser (presented_with kept.header kept.rec) found asked) grounds e in
    subst (λ (g : Grounds). IsGrantable realm server terms g) found.is (record { way = refl; delegation = tt })

by_branch : (dir : DirectoryValue) (now : Moment) (message : KdcReq) (i : ℕ) (realm : RealmRec) (server : Principal) (branch : Branch) (grounds : Grounds) (terms : Terms)
    → IsDirectory dir → IsReceived message → slice_get dir.realms i ≡ Some realm → IsTicketName realm.name server
    → first_failing (rules_of_branch dir now (request_to message i) branch) ≡ None → grounds_of dir (request_to message i) branch ≡ Some grounds
    → IsGrantable realm server terms grounds
by_branch dir now message i realm server Initial grounds terms h received at named allowed stands =
    let account = mapped_of (client_account dir i message.req_body.cname) ByAccount grounds stands in
    by_account realm server account.value grounds terms account.is
by_branch dir now message i realm server Ordinary grounds terms h received at named allowed stands =
    let request : Request = request_to message i in
    let kept = (ordinary_kept dir now request allowed).kept in
    let shown : Presented = presented_with kept.header kept.rec in
    let is : ByHeader shown ≡ grounds =
    some_is (ByHeader shown) grounds (sym (ap (λ (found : Option Presented). found >>= λ (shown : Presented). grounds_on dir request shown Ordinary) (kept_presented dir now request kept)) ∙ stands) in
    subst (λ (g : Grounds). IsGrantable realm server terms g) is (by_header dir now message i realm server kept terms h received)
by_branch dir now message i realm server SelfTicket grounds terms h received at named allowed stands =
    let request : Request = request_to message i in
    let kept = (self_kept dir now request allowed).kept in
    let shown : Presented = presented_with kept.header kept.rec in
    let asked = x509_asked message in
    let on : (request.wish.user >>= self_grounds dir i shown asked) ≡ Some grounds =
    sym (ap (λ (found : Option Presented). found >>= λ (shown : Presented). grounds_on dir request shown SelfTicket) (kept_presented dir now request kept)) ∙ stands in
    let user = step_of request.wish.user (self_grounds dir i shown asked) grounds on in
    self_by dir now message i realm server kept asked (user_is_local dir i user.value) (user_record dir i user.value) grounds terms h received user.is
by_branch dir now message i realm server Proxy grounds terms h received at named allowed stands =
    let request : Request = request_to message i in
    let g = proxy_kept dir now request allowed in
    let kept = g.kept in
    let shown : Presented = presented_with kept.header kept.rec in
    let evidence : ShownTicket = ticket_shown_by g.evidence in
    let on : option_map (ByEvidence shown) (evidence_presented dir request kept.rec) ≡ Some grounds =
    sym (ap (λ (found : Option Presented). found >>= λ (shown : Presented). grounds_on dir request shown Proxy) (kept_presented dir now request kept)) ∙ stands in
    let is : ByEvidence shown evidence ≡ grounds =
    some_is (ByEvidence shown evidence) grounds (sym (ap (λ (found : Option Evidence). option_map (ByEvidence shown) (option_map ticket_shown_by found)) g.found) ∙ on) in
    let sound = evidence_is_sound dir i message kept.rec g.evidence h received g.found in
    let header_sound = kept_sound dir now message i kept h received in
    let reached = (both (is_reached_subject dir i evidence.rec) (is_reached_way dir i evidence.rec) g.granted.reached).1 in
    let made : IsGrantable realm server terms (ByEvidence shown evidence) = record {
      way = way_is dir i evidence.rec terms.append h sound reached;
      delegation = delegation_is dir i realm server kept.rec evidence.rec at named header_sound sound g.granted.short;
    } in
    subst (λ (g : Grounds). IsGrantable realm server terms g) is made

-- to a request that reads, and that no rule of its branch denies
pub granted_is_grantable : (dir : DirectoryValue) (now : Moment) (message : KdcReq) (i : ℕ) (realm : RealmRec) (server : Principal) (grounds : Grounds) (terms : Terms)
    → IsDirectory dir → IsReceived message → realm_named dir message.req_body.realm ≡ Some i → slice_get dir.realms i ≡ Some realm
    → message.req_body.sname ≡ Some server
    → first_failing (rules_of_branch dir now (request_to message i) (branch_of message)) ≡ None → grounds_of dir (request_to message i) (branch_of message) ≡ Some grounds
    → IsGrantable realm server terms grounds
granted_is_grantable dir now message i realm server grounds terms h received known at named allowed stands =
    let asked : IsTicketName message.req_body.realm server = subst (λ (sname : Option Principal). IfSome sname (IsTicketName message.req_body.realm)) named received.server in
    let name : IsTicketName realm.name server = subst (λ (name : List ℕ). IsTicketName name server) (sym (named_realm dir message.req_body.realm i realm known at)) asked in
    by_branch dir now message i realm server (branch_of message) grounds terms h received at name allowed stands

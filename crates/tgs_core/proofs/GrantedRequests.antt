-- What is granted to a request that reads is a grant.
use Rattle.std.proofs.Common.{◌≡◌, ℕ, Bool, true, false, List, Option, Some, None, refl, sym, ◌∙◌, subst}
use Rattle.std.specs.Prelude.{IfSome, if◌then◌else◌, slice_get}
use Rattle.der_core.specs.Laws.{IsBytes}
use Rattle.kdc_prelude.specs.Steps.{◌>>=◌}
use Rattle.kdc_prelude.specs.Verdicts.{first_failing}
use Rattle.kdc_prelude.specs.Texts.{same_text}
use Rattle.krb_names.specs.declared.moment.Moment.{Moment}
use Rattle.krb_names.specs.declared.principal.Principal.{Principal}
use Rattle.krb_messages.specs.declared.kdc_req.KdcReq.{KdcReq}
use Rattle.s4u_padata.specs.declared.x509_user.X509User.{X509User}
use Rattle.kdc_records.specs.declared.wish.Branch.{Branch}
use Rattle.kdc_records.specs.declared.wish.Branch.TheVariants.{Initial, Ordinary, Proxy, SelfTicket}
use Rattle.dir_records.specs.declared.records.Account.{Account as AccountRec}
use Rattle.dir_records.specs.declared.records.RealmRec.{RealmRec}
use Rattle.dir_records.specs.DirectoryValue.{DirectoryValue}
use Rattle.dir_records.specs.IsDirectory.{IsDirectory, IsRealm}
use Rattle.dir_core.specs.Lookups.{account_at, account_named, realm_named}
use Rattle.as_core.specs.AsRules.{client_account, client_index}
use Rattle.s4u_rules.specs.SelfRules.{user_asked, user_is_local, user_record, user_record_in}
use Rattle.proxy_requests.specs.Evidences.{evidence_in}
use Rattle.ticket_parts.specs.Sound.{IsSound}
use Rattle.tgs_requests.specs.Askings.{branch_of}
use Rattle.tgs_core.specs.Grants.{ByAccount, ByEvidence, ByHeader, ForHeadersUser, ForUser, Grant, Grounds, IsEchoable, IsGrant, IsGrounds, Presented, ShownTicket, evidence_presented, grant_in, grant_of, grounds_of, grounds_on, presented_in, self_grounds, terms_of, ticket_shown_by, user_grounds, x509_asked}
use Rattle.tgs_core.specs.Received.{IsReceived}
use Rattle.tgs_core.specs.Requests.{Request, message_in, request_in, request_of, request_to}
use Rattle.tgs_core.proofs.FoundGrants.{IsMember, at_index, granted_with, mapped_of, member_at, some_is, step_of, terms_are}
use Rattle.tgs_core.specs.Verdicts.{rules_of_branch, verdict}
use Rattle.tgs_core.proofs.GrantableRequests.{granted_is_grantable, presented_sound}
use Rattle.tgs_core.proofs.Openings.{branch_known}
use Rattle.tgs_core.proofs.ReadRequests.{message_is_told}
use Rattle.tgs_core.proofs.ReceivedRequests.{message_is_received}
use Rattle.tgs_core.proofs.ShownEvidence.{evidence_is_sound}
use Rattle.tgs_core.proofs.ShownHeaders.{asked_is_echoable}

-- ---- accounts

pub client_is_member : (dir : DirectoryValue) (i : ℕ) (client : Option Principal) (account : AccountRec) → IsDirectory dir → client_account dir i client ≡ Some account → IsMember account
client_is_member dir i client account h found =
    let step = step_of (client >>= client_index dir i) (account_at dir i) account found in
    member_at dir i step.value account h step.is

named_member : (b : Bool) (dir : DirectoryValue) (i : ℕ) (name : List ℕ) (account : AccountRec) → IsDirectory dir
    → (if b then (account_named dir i name >>= account_at dir i) else None) ≡ Some account → IsMember account
named_member true dir i name account h e =
    let step = step_of (account_named dir i name) (account_at dir i) account e in
    member_at dir i step.value account h step.is
named_member false dir i name account h e = absurd cc

user_is_member : (dir : DirectoryValue) (i : ℕ) (name : Principal) (account : AccountRec) → IsDirectory dir → user_record dir i name ≡ Some account → IsMember account
unfolding user_record
user_is_member dir i name account h e =
    let realm = step_of (slice_get dir.realms i) (λ (realm : RealmRec). user_record_in dir i realm (user_asked name)) account e in
    named_member (same_text (user_asked name).1 realm.value.name) dir i (user_asked name).0 account h realm.is

-- ---- grounds

echoed : (message : KdcReq) (asked : Option X509User) → IsReceived message → x509_asked message ≡ asked → IfSome asked IsEchoable
echoed message None received e = tt
echoed message (Some asked) received e = asked_is_echoable message asked received e

self_by : (dir : DirectoryValue) (i : ℕ) (message : KdcReq) (shown : Presented) (name : Principal) (local : Bool) (account : Option AccountRec) (grounds : Grounds) → IsDirectory dir → IsReceived message
    → IsSound shown.rec → user_record dir i name ≡ account → user_grounds shown (x509_asked message) local account ≡ Some grounds → IsGrounds grounds
self_by dir i message shown name false account grounds h received sound was e =
    subst IsGrounds (some_is (ForHeadersUser shown (x509_asked message)) grounds e) (sound, echoed message (x509_asked message) received refl)
self_by dir i message shown name true account grounds h received sound was e =
    let found = mapped_of account (λ (found : AccountRec). ForUser shown found (x509_asked message)) grounds e in
    let member = user_is_member dir i name found.value h (was ∙ found.was) in
    subst IsGrounds found.is ((member.form, member.range), (sound, echoed message (x509_asked message) received refl))

grounds_by : (dir : DirectoryValue) (message : KdcReq) (i : ℕ) (branch : Branch) (grounds : Grounds) → IsDirectory dir → IsReceived message
    → grounds_of dir (request_to message i) branch ≡ Some grounds → IsGrounds grounds
grounds_by dir message i Initial grounds h received e =
    let account = mapped_of (client_account dir i message.req_body.cname) ByAccount grounds e in
    let member = client_is_member dir i message.req_body.cname account.value h account.was in
    subst IsGrounds account.is (member.form, member.range)
grounds_by dir message i Ordinary grounds h received e =
    let shown = step_of (presented_in dir (request_to message i)) (λ (shown : Presented). grounds_on dir (request_to message i) shown Ordinary) grounds e in
    subst IsGrounds (some_is (ByHeader shown.value) grounds shown.is) (presented_sound dir message i shown.value h received shown.was)
grounds_by dir message i SelfTicket grounds h received e =
    let request : Request = request_to message i in
    let shown = step_of (presented_in dir request) (λ (shown : Presented). grounds_on dir request shown SelfTicket) grounds e in
    let user = step_of request.wish.user (self_grounds dir i shown.value (x509_asked message)) grounds shown.is in
    let sound = presented_sound dir message i shown.value h received shown.was in
    self_by dir i message shown.value user.value (user_is_local dir i user.value) (user_record dir i user.value) grounds h received sound refl user.is
grounds_by dir message i Proxy grounds h received e =
    let request : Request = request_to message i in
    let shown = step_of (presented_in dir request) (λ (shown : Presented). grounds_on dir request shown Proxy) grounds e in
    let ticket = mapped_of (evidence_presented dir request shown.value.rec) (ByEvidence shown.value) grounds shown.is in
    let evidence = mapped_of (evidence_in dir i message shown.value.rec) ticket_shown_by ticket.value ticket.was in
    let sound = evidence_is_sound dir i message shown.value.rec evidence.value h received evidence.was in
    let of_evidence : IsSound ticket.value.rec = subst (λ (ticket : ShownTicket). IsSound ticket.rec) evidence.is sound in
    subst IsGrounds ticket.is (presented_sound dir message i shown.value h received shown.was, of_evidence)

-- those of a request that was read
pub grounds_are : (dir : DirectoryValue) (message : KdcReq) (i : ℕ) (grounds : Grounds) → IsDirectory dir → IsReceived message
    → grounds_of dir (request_to message i) (branch_of message) ≡ Some grounds → IsGrounds grounds
grounds_are dir message i grounds h received e = grounds_by dir message i (branch_of message) grounds h received e

-- ---- the grant

granted_is_grant : (dir : DirectoryValue) (now : Moment) (message : KdcReq) (i : ℕ) (grant : Grant) → IsDirectory dir → IsReceived message → IsBytes message.body_bytes
    → realm_named dir message.req_body.realm ≡ Some i → first_failing (rules_of_branch dir now (request_to message i) (branch_of message)) ≡ None
    → grant_of dir now (request_to message i) ≡ Some grant → IsGrant grant
granted_is_grant dir now message i grant h received bytes known allowed e =
    let request : Request = request_to message i in
    let grounds = step_of (grounds_of dir request (branch_of message)) _ grant e in
    let terms = step_of (terms_of dir now request grounds.value) _ grant grounds.is in
    let realm = step_of (slice_get dir.realms i) _ grant terms.is in
    let form = at_index IsRealm dir.realms i realm.value h.consistent.forms.realms realm.was in
    let are = terms_are dir now request realm.value grounds.value terms.value realm.was form terms.was in
    granted_with dir message i grounds.value terms.value grant h received.fits bytes known are (grounds_are dir message i grounds.value h received grounds.was)
    (λ realm server at named. granted_is_grantable dir now message i realm server grounds.value terms.value h received known at named allowed grounds.was) terms.is

-- what is granted to bytes
pub granted_in_is_grant : (dir : DirectoryValue) (now : Moment) (bytes : List ℕ) (grant : Grant) → IsDirectory dir → IsBytes bytes → verdict dir now bytes ≡ None → grant_in dir now bytes ≡ Some grant → IsGrant grant
unfolding grant_in request_in
granted_in_is_grant dir now bytes grant h are_bytes allowed e =
    let request = step_of (request_in dir bytes) (grant_of dir now) grant e in
    let message = step_of (message_in bytes) (request_of dir) request.value request.was in
    let at = mapped_of (realm_named dir message.value.req_body.realm) (request_to message.value) request.value message.is in
    let received = message_is_received bytes message.value are_bytes message.was in
    let read = (message_is_told bytes message.value are_bytes message.was).read in
    let rules = branch_known dir now bytes request.value (branch_of request.value.message) allowed request.was refl in
    let own : first_failing (rules_of_branch dir now (request_to message.value at.value) (branch_of message.value)) ≡ None =
    subst (λ (r : Request). first_failing (rules_of_branch dir now r (branch_of r.message)) ≡ None) (sym at.is) rules in
    granted_is_grant dir now message.value at.value grant h received read.bytes at.was own (subst (λ (r : Request). grant_of dir now r ≡ Some grant) (sym at.is) request.is)

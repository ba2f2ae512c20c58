-- A granted ticket is one on behalf of a user where it was asked for so.
use Rattle.std.proofs.Common.{◌≡◌, ◌∙◌, ℕ, Bool, true, false, ◌&&◌, ◌||◌, List, Option, Some, refl, sym, ap, subst}
use Rattle.std.specs.Prelude.{slice_get}
use Rattle.s4u_padata.specs.declared.x509_user.X509User.{X509User}
use Rattle.kdc_records.specs.declared.decision.Aim.{Aim}
use Rattle.kdc_records.specs.declared.decision.Aim.TheVariants as aims
use Rattle.kdc_records.specs.declared.wish.Branch.{Branch}
use Rattle.kdc_records.specs.declared.wish.Branch.TheVariants.{Initial, Ordinary, SelfTicket, Proxy}
use Rattle.dir_records.specs.declared.records.Account.{Account as AccountRec}
use Rattle.dir_records.specs.declared.records.RealmRec.{RealmRec}
use Rattle.dir_records.specs.DirectoryValue.{DirectoryValue}
use Rattle.as_core.specs.AsRules.{client_account}
use Rattle.s4u_rules.specs.SelfRules.{user_is_local, user_record}
use Rattle.s4u_rules.specs.TgsRules.{is_self}
use Rattle.ticket_parts.specs.Parts.{is_service}
use Rattle.ticket_codec.specs.declared.holding.Holding.{Holding}
use Rattle.ticket_codec.specs.Holdings.{account_holding, aim_holding_in, hop_holding, krbtgt_holding}
use Rattle.tgs_requests.specs.Askings.{branch_of}
use Rattle.tgs_core.specs.Grants.{ByAccount, ByEvidence, ByHeader, ForHeadersUser, ForUser, Grant, Grounds, Presented, evidence_presented, granted_record, grounds_of, grounds_on, presented_in, self_grounds, user_grounds, x509_asked}
use Rattle.tgs_core.specs.Judged.{is_proxy}
use Rattle.tgs_core.specs.Requests.{Request}
use Rattle.kdc_frames.specs.Exchanges.{Exchange}
use Rattle.history_laws.specs.Chains.{asks_to_impersonate, is_account, is_by_s4u, is_impersonating}
use Rattle.history_laws.specs.Entries.{Entry, entry_of}
use Rattle.history_laws.specs.Laws.{ImpersonatingLaw}
use Rattle.history_laws.proofs.Grants.{entry_parts}
use Rattle.history_laws.proofs.GrantsOf.{IsGrantOf, aim_in_realm, grant_parts}
use Rattle.history_laws.proofs.Steps.{mapped, one_of, stepped}

-- ---- the grounds, by how the request asks

by_user : (local : Bool) (shown : Presented) (asked : Option X509User) (account : Option AccountRec) (grounds : Grounds) → user_grounds shown asked local account ≡ Some grounds → is_by_s4u grounds ≡ true
by_user false shown asked account grounds e = sym (ap is_by_s4u (one_of (ForHeadersUser shown asked) grounds e))
by_user true shown asked account grounds e = sym (ap is_by_s4u (mapped (λ (found : AccountRec). ForUser shown found asked) account grounds e).2)

by_branch : (dir : DirectoryValue) (request : Request) (branch : Branch) (grounds : Grounds) → grounds_of dir request branch ≡ Some grounds → is_by_s4u grounds ≡ (is_self branch || is_proxy branch)
by_branch dir request Initial grounds e = sym (ap is_by_s4u (mapped ByAccount (client_account dir request.realm request.message.req_body.cname) grounds e).2)
by_branch dir request Ordinary grounds e =
    let shown = stepped (presented_in dir request) (λ (shown : Presented). grounds_on dir request shown Ordinary) grounds e in
    sym (ap is_by_s4u (one_of (ByHeader shown.0) grounds shown.2))
by_branch dir request SelfTicket grounds e =
    let shown = stepped (presented_in dir request) (λ (shown : Presented). grounds_on dir request shown SelfTicket) grounds e in
    let user = stepped request.wish.user (self_grounds dir request.realm shown.0 (x509_asked request.message)) grounds shown.2 in
    by_user (user_is_local dir request.realm user.0) shown.0 (x509_asked request.message) (user_record dir request.realm user.0) grounds user.2
by_branch dir request Proxy grounds e =
    let shown = stepped (presented_in dir request) (λ (shown : Presented). grounds_on dir request shown Proxy) grounds e in
    sym (ap is_by_s4u (mapped (ByEvidence shown.0) (evidence_presented dir request shown.0.rec) grounds shown.2).2)

-- ---- the holder, by what is aimed at

by_aim : (realm : RealmRec) (aim : Aim) (held : Holding) → aim_holding_in realm aim ≡ Some held → is_service held.holder ≡ is_account aim
by_aim realm aims.Krbtgt held e = sym (ap (λ (h : Holding). is_service h.holder) (one_of (krbtgt_holding realm) held e))
by_aim realm (aims.Hop at) held e = sym (ap (λ (h : Holding). is_service h.holder) (mapped (hop_holding realm) (slice_get realm.trusts at) held e).2)
by_aim realm (aims.Account at) held e = sym (ap (λ (h : Holding). is_service h.holder) (mapped (account_holding realm) (slice_get realm.accounts at) held e).2)

-- ---- the entry

holder_is : (grant : Grant) (block : List ℕ) → is_service (granted_record grant block).holder ≡ is_service grant.holding.holder
unfolding granted_record
holder_is grant block = refl

same_as_asked : (exchange : Exchange) (grant : Grant) → IsGrantOf exchange.directory exchange.moment exchange.request grant
    → (let entry : Entry = entry_of exchange.directory exchange.moment exchange.block grant in is_impersonating entry ≡ asks_to_impersonate entry)
same_as_asked exchange grant of =
    let dir = exchange.directory in
    let held = aim_in_realm dir grant.request.realm grant.realm grant.terms.aim (Some grant.holding) of.realm of.held in
    let service = holder_is grant exchange.block ∙ by_aim grant.realm grant.terms.aim grant.holding held in
    let s4u = by_branch dir grant.request (branch_of grant.request.message) grant.grounds of.grounds in
    λ k. service k && s4u k

pub impersonating_at : ImpersonatingLaw
impersonating_at exchange entry answered e =
    let parts = entry_parts exchange entry answered e in
    let of = grant_parts exchange.directory exchange.moment exchange.request parts.grant parts.granted in
    let same : is_impersonating entry ≡ asks_to_impersonate entry = subst (λ (entry : Entry). is_impersonating entry ≡ asks_to_impersonate entry) parts.made (same_as_asked exchange parts.grant of) in
    (λ h. sym same ∙ h, λ h. same ∙ h)

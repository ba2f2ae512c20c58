-- Of what a grant is made: what the request is, and what was looked up for it.
use Rattle.std.proofs.Common.{◌≡◌, ◌∙◌, ℕ, Bool, true, false, List, Option, Some, refl, sym, ap, subst}
use Rattle.std.specs.Prelude.{if◌then◌else◌, option_map, slice_get}
use Rattle.kdc_prelude.specs.Steps.{◌>>=◌}
use Rattle.krb_names.specs.declared.moment.Moment.{Moment}
use Rattle.krb_names.specs.declared.principal.Principal.{Principal}
use Rattle.krb_messages.specs.declared.kdc_req.KdcReq.{KdcReq}
use Rattle.krb_messages.specs.KdcReq.{is_as_req}
use Rattle.kdc_records.specs.declared.decision.Aim.{Aim}
use Rattle.kdc_records.specs.declared.decision.Aim.TheVariants as aims
use Rattle.kdc_records.specs.declared.decision.Terms.{Terms}
use Rattle.kdc_records.specs.declared.wish.Branch.TheVariants.{Initial}
use Rattle.kdc_records.specs.declared.wish.Wish.{Wish}
use Rattle.kdc_records.specs.Parties.{party_of}
use Rattle.dir_records.specs.declared.records.Account.{Account as AccountRec}
use Rattle.dir_records.specs.declared.records.RealmRec.{RealmRec}
use Rattle.dir_records.specs.declared.records.Trust.{Trust as TrustRec}
use Rattle.dir_records.specs.DirectoryValue.{DirectoryValue}
use Rattle.dir_core.specs.Lookups.{realm_named}
use Rattle.route_rules.specs.Aims.{resolve}
use Rattle.as_core.specs.AsRequests.{as_wish}
use Rattle.s4u_rules.specs.TgsRules.{aim_of}
use Rattle.ticket_codec.specs.declared.holding.Holding.{Holding}
use Rattle.ticket_codec.specs.Holdings.{account_holding, aim_holding, aim_holding_in, hop_holding, krbtgt_holding}
use Rattle.tgs_requests.specs.Askings.{branch_of, tgs_branch, tgs_wish, wish_of}
use Rattle.tgs_core.specs.Grants.{Grant, Grounds, grant_in, grant_of, grant_with, granted_record, grounds_of, terms_of, ticket_name}
use Rattle.tgs_core.specs.Requests.{Request, message_in, request_in, request_of, request_to}
use Rattle.history_laws.specs.Chains.{Step, party_aimed}
use Rattle.history_laws.specs.Entries.{entry_of}
use Rattle.history_laws.proofs.Steps.{mapped, moved, one_of, stepped}

-- ---- the parts of a grant

pub record IsGrantOf (dir : DirectoryValue) (now : Moment) (bytes : List ℕ) (grant : Grant) : Type 0 where
  pub asked : request_in dir bytes ≡ Some grant.request
  pub grounds : grounds_of dir grant.request (branch_of grant.request.message) ≡ Some grant.grounds
  pub terms : terms_of dir now grant.request grant.grounds ≡ Some grant.terms
  pub realm : slice_get dir.realms grant.request.realm ≡ Some grant.realm
  pub server : grant.request.wish.server ≡ Some grant.asked
  pub held : aim_holding dir grant.request.realm grant.terms.aim ≡ Some grant.holding

pub grant_parts : (dir : DirectoryValue) (now : Moment) (bytes : List ℕ) (grant : Grant) → grant_in dir now bytes ≡ Some grant → IsGrantOf dir now bytes grant
unfolding grant_in
grant_parts dir now bytes grant e =
    let request = stepped (request_in dir bytes) (grant_of dir now) grant e in
    let asked : Request = request.0 in
    let grounds = stepped (grounds_of dir asked (branch_of asked.message)) (λ (g : Grounds). terms_of dir now asked g >>= λ (t : Terms). grant_with dir asked g t) grant request.2 in
    let terms = stepped (terms_of dir now asked grounds.0) (λ (t : Terms). grant_with dir asked grounds.0 t) grant grounds.2 in
    let made : RealmRec → Principal → Holding → Grant =
    λ (realm : RealmRec) (server : Principal) (holding : Holding).
    record { realm = realm; request = asked; asked = server; server = ticket_name realm server terms.0.aim; terms = terms.0; holding = holding; grounds = grounds.0 } in
    let realm = stepped (slice_get dir.realms asked.realm)
    (λ (r : RealmRec). asked.wish.server >>= λ (s : Principal). aim_holding dir asked.realm terms.0.aim >>= λ (h : Holding). Some (made r s h))
    grant terms.2 in
    let server = stepped asked.wish.server (λ (s : Principal). aim_holding dir asked.realm terms.0.aim >>= λ (h : Holding). Some (made realm.0 s h)) grant realm.2 in
    let holding = stepped (aim_holding dir asked.realm terms.0.aim) (λ (h : Holding). Some (made realm.0 server.0 h)) grant server.2 in
    moved (IsGrantOf dir now bytes) (made realm.0 server.0 holding.0) grant (one_of (made realm.0 server.0 holding.0) grant holding.2)
    (record { asked = request.1; grounds = grounds.1; terms = terms.1; realm = realm.1; server = server.1; held = holding.1 })

-- ---- the request

pub record IsRequestIn (dir : DirectoryValue) (request : Request) : Type 0 where
  pub known : realm_named dir request.message.req_body.realm ≡ Some request.realm
  pub wish : wish_of request.message ≡ request.wish

pub request_parts : (dir : DirectoryValue) (bytes : List ℕ) (request : Request) → request_in dir bytes ≡ Some request → IsRequestIn dir request
unfolding request_in
request_parts dir bytes request e =
    let message = stepped (message_in bytes) (request_of dir) request e in
    let realm = mapped (request_to message.0) (realm_named dir message.0.req_body.realm) request message.2 in
    subst (IsRequestIn dir) realm.2 (record { known = realm.1; wish = refl })

branch_by : (b : Bool) (message : KdcReq) → (if b then as_wish message.req_body else tgs_wish message).branch ≡ (if b then Initial else tgs_branch message)
unfolding tgs_wish
branch_by true message = refl
branch_by false message = refl

pub wish_branch : (message : KdcReq) → (wish_of message).branch ≡ branch_of message
wish_branch message = branch_by (is_as_req message) message

realm_by : (b : Bool) (message : KdcReq) → (if b then as_wish message.req_body else tgs_wish message).realm ≡ message.req_body.realm
unfolding tgs_wish
realm_by true message = refl
realm_by false message = refl

-- ---- for whom the ticket is sealed

held_for : (realm : RealmRec) (aim : Aim) (holding : Holding) → aim_holding_in realm aim ≡ Some holding → party_aimed realm aim ≡ Some (party_of holding.holder)
held_for realm aims.Krbtgt holding e = ap (λ (h : Holding). Some (party_of h.holder)) (one_of (krbtgt_holding realm) holding e)
held_for realm (aims.Hop at) holding e =
    let trust = mapped (hop_holding realm) (slice_get realm.trusts at) holding e in
    ap (λ (found : Option TrustRec). option_map (λ (t : TrustRec). party_of (hop_holding realm t).holder) found) trust.1
    ∙ ap (λ (h : Holding). Some (party_of h.holder)) trust.2
held_for realm (aims.Account at) holding e =
    let account = mapped (account_holding realm) (slice_get realm.accounts at) holding e in
    ap (λ (found : Option AccountRec). option_map (λ (a : AccountRec). party_of (account_holding realm a).holder) found) account.1
    ∙ ap (λ (h : Holding). Some (party_of h.holder)) account.2

pub aim_in_realm : (dir : DirectoryValue) (at : ℕ) (realm : RealmRec) (aim : Aim) (found : Option Holding) → slice_get dir.realms at ≡ Some realm → aim_holding dir at aim ≡ found → aim_holding_in realm aim ≡ found
unfolding aim_holding
aim_in_realm dir at realm aim found here h = sym (ap (λ (o : Option RealmRec). o >>= λ (r : RealmRec). aim_holding_in r aim) here) ∙ h

-- ---- the step

-- what the server is, is what the terms aim at
pub step_is : (dir : DirectoryValue) (now : Moment) (block bytes : List ℕ) (grant : Grant) (aim : Aim) → IsGrantOf dir now bytes grant → aim_of dir grant.request.realm grant.request.wish ≡ Some aim
    → grant.terms.aim ≡ aim → Step (entry_of dir now block grant) aim
unfolding granted_record
step_is dir now block bytes grant aim of aimed same =
    let request : Request = grant.request in
    let parts = request_parts dir bytes request of.asked in
    record {
      known = ap (realm_named dir) (ap (λ (w : Wish). w.realm) (sym parts.wish) ∙ realm_by (is_as_req request.message) request.message) ∙ parts.known;
      realm = of.realm;
      server = of.server;
      aimed = sym (ap (λ (server : Option Principal). server >>= resolve dir request.realm) of.server) ∙ aimed;
      held = held_for grant.realm aim grant.holding (aim_in_realm dir request.realm grant.realm aim (Some grant.holding) of.realm (ap (aim_holding dir request.realm) (sym same) ∙ of.held));
    }

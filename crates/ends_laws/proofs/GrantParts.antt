-- Of what a grant is made: what the request is, and what was looked up for it.
use Rattle.std.proofs.Common.{◌≡◌, ℕ, ◌∙◌, List, Option, Some, refl, sym, ap, subst}
use Rattle.std.specs.Prelude.{option_map, slice_get}
use Rattle.kdc_prelude.specs.Steps.{◌>>=◌}
use Rattle.krb_names.specs.declared.moment.Moment.{Moment}
use Rattle.krb_names.specs.declared.principal.Principal.{Principal}
use Rattle.kdc_records.specs.declared.decision.Aim.{Aim}
use Rattle.kdc_records.specs.declared.decision.Aim.TheVariants.{Account}
use Rattle.kdc_records.specs.declared.decision.Terms.{Terms}
use Rattle.dir_records.specs.declared.records.Account.{Account as AccountRec}
use Rattle.dir_records.specs.declared.records.RealmRec.{RealmRec}
use Rattle.dir_records.specs.DirectoryValue.{DirectoryValue}
use Rattle.ticket_codec.specs.declared.holding.Holding.{Holding}
use Rattle.ticket_codec.specs.Holdings.{account_holding, aim_holding, aim_holding_in}
use Rattle.tgs_requests.specs.Askings.{branch_of}
use Rattle.tgs_core.specs.Grants.{Grant, Grounds, grant_in, grant_of, grant_with, grounds_of, terms_of, ticket_name}
use Rattle.tgs_core.specs.Requests.{Request, request_in}
use Rattle.tgs_core.proofs.FoundGrants.{some_is, step_of}

moved : {X : Type 0} (P : X → Type 0) (x y : X) → x ≡ y → P x → P y
moved P x y e h = subst P e h

pub record IsGrantOf (dir : DirectoryValue) (now : Moment) (bytes : List ℕ) (grant : Grant) : Type 0 where
  pub asked : request_in dir bytes ≡ Some grant.request
  pub grounds : grounds_of dir grant.request (branch_of grant.request.message) ≡ Some grant.grounds
  pub terms : terms_of dir now grant.request grant.grounds ≡ Some grant.terms
  pub realm : slice_get dir.realms grant.request.realm ≡ Some grant.realm
  pub server : grant.request.wish.server ≡ Some grant.asked
  pub held : aim_holding dir grant.request.realm grant.terms.aim ≡ Some grant.holding
  pub named : ticket_name grant.realm grant.asked grant.terms.aim ≡ grant.server

pub grant_parts : (dir : DirectoryValue) (now : Moment) (bytes : List ℕ) (grant : Grant) → grant_in dir now bytes ≡ Some grant → IsGrantOf dir now bytes grant
unfolding grant_in
grant_parts dir now bytes grant e =
    let request = step_of (request_in dir bytes) (grant_of dir now) grant e in
    let asked : Request = request.value in
    let grounds = step_of (grounds_of dir asked (branch_of asked.message)) (λ (g : Grounds). terms_of dir now asked g >>= λ (t : Terms). grant_with dir asked g t) grant request.is in
    let terms = step_of (terms_of dir now asked grounds.value) (λ (t : Terms). grant_with dir asked grounds.value t) grant grounds.is in
    let made : RealmRec → Principal → Holding → Grant =
    λ (realm : RealmRec) (server : Principal) (holding : Holding).
    record { realm = realm; request = asked; asked = server; server = ticket_name realm server terms.value.aim; terms = terms.value; holding = holding; grounds = grounds.value } in
    let realm = step_of (slice_get dir.realms asked.realm)
    (λ (r : RealmRec). asked.wish.server >>= λ (s : Principal). aim_holding dir asked.realm terms.value.aim >>= λ (h : Holding). Some (made r s h))
    grant terms.is in
    let server = step_of asked.wish.server (λ (s : Principal). aim_holding dir asked.realm terms.value.aim >>= λ (h : Holding). Some (made realm.value s h)) grant realm.is in
    let holding = step_of (aim_holding dir asked.realm terms.value.aim) (λ (h : Holding). Some (made realm.value server.value h)) grant server.is in
    moved (IsGrantOf dir now bytes) (made realm.value server.value holding.value) grant (some_is (made realm.value server.value holding.value) grant holding.is)
    (record { asked = request.was; grounds = grounds.was; terms = terms.was; realm = realm.was; server = server.was; held = holding.was; named = refl })

-- ---- the account that a ticket is for

pub aimed_in : (dir : DirectoryValue) (index : ℕ) (aim : Aim) (realm : RealmRec) → slice_get dir.realms index ≡ Some realm → aim_holding dir index aim ≡ aim_holding_in realm aim
unfolding aim_holding
aimed_in dir index aim realm e = ap (λ (found : Option RealmRec). found >>= λ (realm : RealmRec). aim_holding_in realm aim) e

pub account_held : (dir : DirectoryValue) (now : Moment) (bytes : List ℕ) (grant : Grant) (at : ℕ) (account : AccountRec) → IsGrantOf dir now bytes grant → grant.terms.aim ≡ Account at
    → slice_get grant.realm.accounts at ≡ Some account → account_holding grant.realm account ≡ grant.holding
account_held dir now bytes grant at account of aim found =
    let made : Option AccountRec → Option Holding = λ (found : Option AccountRec). option_map (account_holding grant.realm) found in
    let held : aim_holding_in grant.realm (Account at) ≡ Some grant.holding =
    sym (ap (aim_holding_in grant.realm) aim) ∙ sym (aimed_in dir grant.request.realm grant.terms.aim grant.realm of.realm) ∙ of.held in
    some_is (account_holding grant.realm account) grant.holding (sym (ap made found) ∙ held)

pub account_key : (dir : DirectoryValue) (now : Moment) (bytes : List ℕ) (grant : Grant) (at : ℕ) (account : AccountRec) → IsGrantOf dir now bytes grant → grant.terms.aim ≡ Account at
    → slice_get grant.realm.accounts at ≡ Some account → account.key ≡ grant.holding.key
account_key dir now bytes grant at account of aim found = ap (λ (held : Holding). held.key) (account_held dir now bytes grant at account of aim found)

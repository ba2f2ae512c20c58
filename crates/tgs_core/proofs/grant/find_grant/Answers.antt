use Rattle.std.proofs.Common.{◌≡◌, Option, Some, sym, ap, ◌∙◌, subst}
use Rattle.der_core.specs.Laws.{IsBytes}
use Rattle.krb_names.specs.declared.principal.Principal.{Principal}
use Rattle.ticket_codec.specs.Holdings.{aim_holding}
use Rattle.tgs_core.specs.GrantViews.{grounds_seen}
use Rattle.tgs_core.specs.Grants.{Grant, IsGrant}
use Rattle.tgs_core.specs.Requests.{request_to}
use Rattle.tgs_core.proofs.FoundGrants.{AreTerms, IsAsked, asked_is_grant, grant_found, no_server}
use Rattle.tgs_core.proofs.grant.find_grant.Goals as goal

pub returns-in_default : goal.returns-in_default
returns-in_default c = no_server c.args.dir.now c.args.req.now c.args.realm (grounds_seen c.args.grounds) c.args.terms c.in_default.is

pub returns : goal.returns
returns c =
    let a = c.args in
    let grounds = grounds_seen a.grounds in
    let realm = c.realm-of.result.now in
    let held = c.in-Some-2.held in
    let holds : aim_holding a.dir.now a.realm a.terms.aim ≡ Some held = sym c.in_ok-held.ensures.exact ∙ c.in-Some-2.is in
    let asked : IsAsked a.dir.now a.req.now a.realm realm c.in-Some.server = record { known = c.requires.known; at = c.realm-of.ensures.found; named = c.in-Some.is } in
    let grant : Principal → Option Grant =
    λ (name : Principal). Some (record { realm = realm; request = request_to a.req.now a.realm; asked = c.in-Some.server; server = name; terms = a.terms; holding = held; grounds = grounds }) in
    ap grant c.in_ok-ticket_name.ensures ∙ grant_found a.dir.now a.req.now a.realm realm c.in-Some.server a.terms held grounds asked holds

pub invariant_of-result : goal.invariant_of-result
invariant_of-result c =
    let a = c.args in
    let grounds = grounds_seen a.grounds in
    let realm = c.realm-of.result.now in
    let held = c.in-Some-2.held in
    let bytes = subst IsBytes c.as_slice.ensures c.bytes_fit.ensures in
    let asked : IsAsked a.dir.now a.req.now a.realm realm c.in-Some.server = record { known = c.requires.known; at = c.realm-of.ensures.found; named = c.in-Some.is } in
    let are : AreTerms a.terms = record { flags = c.terms_fit.ensures.flags; start = c.terms_fit.ensures.start; end = c.terms_fit.ensures.end } in
    let made = asked_is_grant a.dir.now a.req.now a.realm realm c.in-Some.server a.terms held grounds c.keeps_directory.ensures c.requires.read bytes asked are c.requires.grounds (c.requires.grantable realm c.in-Some.server asked.at asked.named) in
    let grant : Principal → Grant =
    λ (name : Principal). record { realm = realm; request = request_to a.req.now a.realm; asked = c.in-Some.server; server = name; terms = a.terms; holding = held; grounds = grounds } in
    subst (λ (name : Principal). IsGrant (grant name)) (sym c.in_ok-ticket_name.ensures) made

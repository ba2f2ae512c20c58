-- Where no rule denies a request, something is granted to it.
use Rattle.std.proofs.Common.{◌≡◌, ℕ, Bool, true, false, List, [], ◌∷◌, Option, Some, None, refl, sym, ap, ◌∙◌}
use Rattle.std.specs.List.{join_with_byte}
use Rattle.std.specs.Prelude.{ℤ, ◌==◌, codes, is_some, option_and_then, option_map, position, slice_get, if◌then◌else◌}
use Rattle.std.proofs.lemmas.List.Quantifiers.{position-Some}
use Rattle.std.proofs.lemmas.Option.{slice_get-get_or}
use Rattle.kdc_prelude.specs.Options.{holds_of}
use Rattle.kdc_prelude.specs.Steps.{◌>>=◌}
use Rattle.kdc_prelude.specs.Texts.{same_text}
use Rattle.kdc_prelude.specs.Verdicts.{first_failing}
use Rattle.krb_names.specs.declared.moment.Moment.{Moment}
use Rattle.krb_names.specs.declared.principal.Principal.{Principal}
use Rattle.krb_messages.specs.declared.kdc_req.KdcReq.{KdcReq}
use Rattle.kdc_records.specs.declared.decision.Aim.{Aim}
use Rattle.kdc_records.specs.declared.decision.Aim.TheVariants.{Krbtgt, Hop, Account}
use Rattle.kdc_records.specs.declared.decision.Terms.{Terms}
use Rattle.kdc_records.specs.declared.rule.Rule.{Rule}
use Rattle.kdc_records.specs.declared.wish.Branch.{Branch}
use Rattle.kdc_records.specs.declared.wish.Branch.TheVariants.{Initial, Ordinary, SelfTicket, Proxy}
use Rattle.kdc_records.specs.Decisions.{decided, is_grant}
use Rattle.dir_records.specs.declared.records.Account.{Account as AccountRec}
use Rattle.dir_records.specs.declared.records.RealmRec.{RealmRec}
use Rattle.dir_records.specs.DirectoryValue.{DirectoryValue}
use Rattle.dir_core.specs.Lookups.{account_at, leads_to, next_hop, realm_named, spn_place}
use Rattle.route_rules.specs.Aims.{aim_at, hop_to, resolve}
use Rattle.route_rules.specs.Meanings.{account_meant, enterprise_pieces, meaning_of_parts, place_of_part, service_meant}
use Rattle.as_core.specs.AsRequests.{as_ask}
use Rattle.as_core.specs.AsRules.{AsGrants, as_terms, client_account, server_aim, server_is_krbtgt}
use Rattle.as_core.proofs.Grants.{granted}
use Rattle.s4u_rules.specs.Conditions.{is_enabled}
use Rattle.s4u_rules.specs.SelfRules.{self_terms, user_is_local, user_record}
use Rattle.s4u_rules.specs.TgsRules.{aim_is_enabled, aim_of, ordinary_terms}
use Rattle.ticket_codec.specs.declared.holding.Holding.{Holding}
use Rattle.proxy_rules.specs.ProxyRules.{proxy_terms}
use Rattle.proxy_requests.specs.declared.evidence.Evidence.{Evidence}
use Rattle.s4u_padata.specs.declared.x509_user.X509User.{X509User}
use Rattle.ticket_codec.specs.Holdings.{account_holding, aim_holding, aim_holding_in, hop_holding, krbtgt_holding}
use Rattle.tgs_requests.specs.declared.header.Header.{Header}
use Rattle.tgs_requests.specs.Askings.{branch_of}
use Rattle.tgs_requests.specs.Headers.{record_in}
use Rattle.tgs_core.specs.Grants.{ByAccount, ByEvidence, ByHeader, ForHeadersUser, ForUser, Grounds, Presented, ShownTicket, grant_in, grant_of, grant_with, grounds_of, grounds_on, presented_in, presented_with, self_grounds, terms_of, ticket_name, ticket_shown_by, user_grounds, x509_asked}
use Rattle.tgs_core.specs.Requests.{Request, message_in, realm_is_known, request_in, request_of, request_to}
use Rattle.tgs_core.specs.Verdicts.{HeaderKept, ProxyTicketGrants, SelfTicketGrants, rules_of_branch, verdict}
use Rattle.tgs_core.proofs.FoundGrants.{mapped_of, some_is, step_of, wish_server}
use Rattle.tgs_core.proofs.JudgedRequests.{self_has_grounds}
use Rattle.tgs_core.proofs.Openings.{branch_known, opening_known}
use Rattle.tgs_core.proofs.ShownHeaders.{then_of}
use Rattle.tgs_core.proofs.TgsVerdicts.{IsThere, ordinary_kept, proxy_kept, self_kept, there}

-- ---- look-ups

-- what is there, and passes
record Passing {X : Type 0} (test : X → Bool) (found : Option X) : Type 0 where
  value : X
  is : found ≡ Some value
  passes : test value ≡ true

passing : {X : Type 0} (test : X → Bool) (found : Option X) → holds_of test found ≡ true → Passing test found
passing test None h = absurd cc
passing test (Some x) h = record { value = x; is = refl; passes = h }

at_position : {X : Type 0} (test : X → Bool) (xs : List X) (i : ℕ) → position test xs ≡ Some i → IsThere (slice_get xs i)
at_position test [] i e = absurd cc
at_position test (x ∷ xs) i e = record { value = _; is = slice_get-get_or (x ∷ xs) i x (position-Some test (x ∷ xs) i x e).0 }

-- ---- the parts of a grant

record Given (dir : DirectoryValue) (now : Moment) (request : Request) : Type 0 where
  server : Principal
  grounds : Grounds
  terms : Terms
  named : request.wish.server ≡ Some server
  grounds_are : grounds_of dir request (branch_of request.message) ≡ Some grounds
  terms_are : terms_of dir now request grounds ≡ Some terms
  held : IsThere (aim_holding dir request.realm terms.aim)

given : (dir : DirectoryValue) (now : Moment) (request : Request) (realm : RealmRec) → slice_get dir.realms request.realm ≡ Some realm → Given dir now request → is_some (grant_of dir now request) ≡ true
given dir now request realm at g =
    let whole : grant_of dir now request ≡ grant_with dir request g.grounds g.terms =
    ap (λ (found : Option Grounds). found >>= λ (grounds : Grounds). terms_of dir now request grounds >>= λ (terms : Terms). grant_with dir request grounds terms) g.grounds_are
    ∙ ap (λ (found : Option Terms). found >>= λ (terms : Terms). grant_with dir request g.grounds terms) g.terms_are in
    let made : grant_with dir request g.grounds g.terms
    ≡ Some (record { realm = realm; request = request; asked = g.server; server = ticket_name realm g.server g.terms.aim; terms = g.terms; holding = g.held.value; grounds = g.grounds }) =
    λ k. at k >>= λ (realm : RealmRec). g.named k >>= λ (server : Principal). g.held.is k >>= λ (holding : Holding).
    Some (record { realm = realm; request = request; asked = server; server = ticket_name realm server g.terms.aim; terms = g.terms; holding = holding; grounds = g.grounds }) in
    ap is_some (whole ∙ made)

-- ---- an AS-REQ

record ToKrbtgt (dir : DirectoryValue) (at : ℕ) (server : Option Principal) : Type 0 where
  name : Principal
  named : server ≡ Some name

to_krbtgt : (dir : DirectoryValue) (at : ℕ) (server : Option Principal) → holds_of server_is_krbtgt (server_aim dir at server) ≡ true → ToKrbtgt dir at server
to_krbtgt dir at None h = absurd cc
to_krbtgt dir at (Some name) h = record { name = name; named = refl }

krbtgt_held : (dir : DirectoryValue) (at : ℕ) (realm : RealmRec) → slice_get dir.realms at ≡ Some realm → IsThere (aim_holding dir at Krbtgt)
unfolding aim_holding
krbtgt_held dir at realm e = record { value = krbtgt_holding realm; is = ap (λ (found : Option RealmRec). found >>= λ (realm : RealmRec). aim_holding_in realm Krbtgt) e }

initial_given : (dir : DirectoryValue) (now : Moment) (message : KdcReq) (i : ℕ) (realm : RealmRec) → slice_get dir.realms i ≡ Some realm → branch_of message ≡ Initial
    → AsGrants (as_ask dir i now message) → Given dir now (request_to message i)
unfolding as_ask
initial_given dir now message i realm at branch g =
    let request : Request = request_to message i in
    let account = there (client_account dir i message.req_body.cname) g.known in
    let server = to_krbtgt dir i message.req_body.sname g.krbtgt in
    record {
      server = server.name;
      grounds = ByAccount account.value;
      terms = as_terms (as_ask dir i now message);
      named = wish_server message ∙ server.named;
      grounds_are = ap (grounds_of dir request) branch ∙ ap (option_map ByAccount) account.is;
      terms_are = refl;
      held = krbtgt_held dir i realm at;
    }

-- ---- what a TGS-REQ aims at

account_held : (dir : DirectoryValue) (at account : ℕ) (realm : RealmRec) → slice_get dir.realms at ≡ Some realm → IsThere (account_at dir at account) → IsThere (aim_holding dir at (Account account))
unfolding aim_holding
account_held dir at account realm e found =
    let is : slice_get realm.accounts account ≡ Some found.value = sym (ap (option_and_then (λ (realm : RealmRec). slice_get realm.accounts account)) e) ∙ found.is in
    record {
      value = account_holding realm found.value;
      is = ap (λ (found : Option RealmRec). found >>= λ (realm : RealmRec). aim_holding_in realm (Account account)) e ∙ ap (option_map (account_holding realm)) is;
    }

-- a trust is aimed at
abbrev is_hop : Aim → Bool
is_hop Krbtgt = false
is_hop (Hop trust) = true
is_hop (Account account) = false

true_is_not_false : true ≡ false → ⊥
true_is_not_false e = cc

-- a trust that leads to a realm is there
hop_there : (dir : DirectoryValue) (at other trust : ℕ) (realm : RealmRec) → slice_get dir.realms at ≡ Some realm → hop_to dir at other ≡ Some (Hop trust) → IsThere (slice_get realm.trusts trust)
hop_there dir at other trust realm e h =
    let hop = mapped_of (next_hop dir at other) Hop (Hop trust) h in
    let same : hop.value ≡ trust = let made : Hop hop.value ≡ Hop trust = hop.is in cc in
    let to = then_of (slice_get dir.realms other) (λ (other : RealmRec). option_and_then (λ (realm : RealmRec). position (leads_to other.name) realm.trusts) (slice_get dir.realms at)) hop.value hop.was in
    let from : position (leads_to to.value.name) realm.trusts ≡ Some trust =
    sym (ap (option_and_then (λ (realm : RealmRec). position (leads_to to.value.name) realm.trusts)) e) ∙ to.is ∙ ap (λ (t : ℕ). Some t) same in
    at_position (leads_to to.value.name) realm.trusts trust from

hop_by : (b : Bool) (dir : DirectoryValue) (at other trust : ℕ) (own : Aim) (realm : RealmRec) → slice_get dir.realms at ≡ Some realm → is_hop own ≡ false
    → (if b then Some own else hop_to dir at other) ≡ Some (Hop trust) → IsThere (slice_get realm.trusts trust)
hop_by true dir at other trust own realm e apart h = let same : own ≡ Hop trust = some_is own (Hop trust) h in absurd (true_is_not_false (sym (ap is_hop same) ∙ apart))
hop_by false dir at other trust own realm e apart h = hop_there dir at other trust realm e h

hop_of_service : (dir : DirectoryValue) (at trust : ℕ) (realm : RealmRec) (found : Option ℕ) → slice_get dir.realms at ≡ Some realm → aim_at dir at (service_meant found) ≡ Some (Hop trust)
    → IsThere (slice_get realm.trusts trust)
hop_of_service dir at trust realm None e h = absurd cc
hop_of_service dir at trust realm (Some other) e h = hop_by (other == at) dir at other trust Krbtgt realm e refl h

hop_of_account : (dir : DirectoryValue) (at trust : ℕ) (realm : RealmRec) (found : Option (ℕ × ℕ)) → slice_get dir.realms at ≡ Some realm → aim_at dir at (account_meant found) ≡ Some (Hop trust)
    → IsThere (slice_get realm.trusts trust)
hop_of_account dir at trust realm None e h = absurd cc
hop_of_account dir at trust realm (Some place) e h = hop_by (place.0 == at) dir at place.0 trust (Account place.1) realm e refl h

hop_of_two : (b : Bool) (dir : DirectoryValue) (at trust : ℕ) (realm : RealmRec) (service : Option ℕ) (account : Option (ℕ × ℕ)) → slice_get dir.realms at ≡ Some realm
    → aim_at dir at (if b then service_meant service else account_meant account) ≡ Some (Hop trust) → IsThere (slice_get realm.trusts trust)
hop_of_two true dir at trust realm service account e h = hop_of_service dir at trust realm service e h
hop_of_two false dir at trust realm service account e h = hop_of_account dir at trust realm account e h

hop_of_parts : (dir : DirectoryValue) (at trust : ℕ) (realm : RealmRec) (kind : ℤ) (parts : List (List ℕ)) → slice_get dir.realms at ≡ Some realm
    → aim_at dir at (meaning_of_parts dir at kind parts) ≡ Some (Hop trust) → IsThere (slice_get realm.trusts trust)
hop_of_parts dir at trust realm kind [] e h = absurd cc
hop_of_parts dir at trust realm kind (part ∷ []) e h = hop_of_account dir at trust realm (place_of_part dir at part (enterprise_pieces kind part)) e h
hop_of_parts dir at trust realm kind (first ∷ second ∷ []) e h =
    hop_of_two (same_text first (codes "krbtgt")) dir at trust realm (realm_named dir second) (spn_place dir (join_with_byte 47 (first ∷ second ∷ []))) e h
hop_of_parts dir at trust realm kind (first ∷ second ∷ third ∷ []) e h = hop_of_account dir at trust realm (spn_place dir (join_with_byte 47 (first ∷ second ∷ third ∷ []))) e h
hop_of_parts dir at trust realm kind (first ∷ second ∷ third ∷ fourth ∷ more) e h = absurd cc

hop_resolved : (dir : DirectoryValue) (at trust : ℕ) (realm : RealmRec) (name : Principal) → slice_get dir.realms at ≡ Some realm → resolve dir at name ≡ Some (Hop trust)
    → IsThere (slice_get realm.trusts trust)
unfolding resolve
hop_resolved dir at trust realm name e h = hop_of_parts dir at trust realm name.kind name.parts e h

hop_held : (dir : DirectoryValue) (at trust : ℕ) (realm : RealmRec) → slice_get dir.realms at ≡ Some realm → IsThere (slice_get realm.trusts trust) → IsThere (aim_holding dir at (Hop trust))
unfolding aim_holding
hop_held dir at trust realm e found = record {
  value = hop_holding realm found.value;
  is = ap (λ (found : Option RealmRec). found >>= λ (realm : RealmRec). aim_holding_in realm (Hop trust)) e ∙ ap (option_map (hop_holding realm)) found.is;
}

held_by : (dir : DirectoryValue) (at : ℕ) (aim : Aim) (realm : RealmRec) (name : Principal) → slice_get dir.realms at ≡ Some realm → resolve dir at name ≡ Some aim → aim_is_enabled dir at aim ≡ true
    → IsThere (aim_holding dir at aim)
held_by dir at Krbtgt realm name e is enabled = krbtgt_held dir at realm e
held_by dir at (Hop trust) realm name e is enabled = hop_held dir at trust realm e (hop_resolved dir at trust realm name e is)
held_by dir at (Account account) realm name e is enabled =
    let found = passing is_enabled (account_at dir at account) enabled in
    account_held dir at account realm e (record { value = found.value; is = found.is })

-- the aim of a request that keeps the rules of the header
record IsAimed (dir : DirectoryValue) (request : Request) : Type 0 where
  aim : Aim
  server : Principal
  is : aim_of dir request.realm request.wish ≡ Some aim
  named : request.wish.server ≡ Some server
  held : IsThere (aim_holding dir request.realm aim)

aimed : (dir : DirectoryValue) (now : Moment) (request : Request) (realm : RealmRec) → slice_get dir.realms request.realm ≡ Some realm → HeaderKept dir now request → IsAimed dir request
aimed dir now request realm at kept =
    let g = kept.granted in
    let server = step_of request.wish.server (resolve dir request.realm) g.aim g.aimed in
    record { aim = g.aim; server = server.value; is = g.aimed; named = server.was; held = held_by dir request.realm g.aim realm server.value at server.is g.aim_enabled }

-- ---- an ordinary TGS-REQ

pub presented_is : (dir : DirectoryValue) (now : Moment) (request : Request) (kept : HeaderKept dir now request) → presented_in dir request ≡ Some (presented_with kept.header kept.rec)
presented_is dir now request kept =
    ap (λ (found : Option Header). found >>= λ (header : Header). option_map (presented_with header) (record_in header)) kept.opened ∙ ap (option_map (presented_with kept.header)) kept.shown

ordinary_given : (dir : DirectoryValue) (now : Moment) (message : KdcReq) (i : ℕ) (realm : RealmRec) → slice_get dir.realms i ≡ Some realm → branch_of message ≡ Ordinary
    → HeaderKept dir now (request_to message i) → Given dir now (request_to message i)
ordinary_given dir now message i realm at branch kept =
    let request : Request = request_to message i in
    let aim = aimed dir now request realm at kept in
    record {
      server = aim.server;
      grounds = ByHeader (presented_with kept.header kept.rec);
      terms = ordinary_terms dir i now request.wish kept.rec aim.aim;
      named = aim.named;
      grounds_are = ap (grounds_of dir request) branch ∙ ap (λ (found : Option Presented). found >>= λ (shown : Presented). grounds_on dir request shown Ordinary) (presented_is dir now request kept);
      terms_are = ap (option_map (ordinary_terms dir i now request.wish kept.rec)) aim.is;
      held = aim.held;
    }

-- ---- S4U2self

-- the terms of S4U2self, by its grounds
self_terms_by : (dir : DirectoryValue) (now : Moment) (request : Request) (shown : Presented) (asked : Option X509User) (local : Bool) (account : Option AccountRec) (grounds : Grounds)
    → user_grounds shown asked local account ≡ Some grounds
    → terms_of dir now request grounds ≡ option_map (self_terms dir request.realm now request.wish shown.rec) (aim_of dir request.realm request.wish)
self_terms_by dir now request shown asked false account grounds e = ap (terms_of dir now request) (sym (some_is (ForHeadersUser shown asked) grounds e))
self_terms_by dir now request shown asked true account grounds e =
    let found = mapped_of account (λ (found : AccountRec). ForUser shown found asked) grounds e in
    ap (terms_of dir now request) (sym found.is)

self_given : (dir : DirectoryValue) (now : Moment) (message : KdcReq) (i : ℕ) (realm : RealmRec) → slice_get dir.realms i ≡ Some realm → branch_of message ≡ SelfTicket
    → SelfTicketGrants dir now (request_to message i) → Given dir now (request_to message i)
self_given dir now message i realm at branch g =
    let request : Request = request_to message i in
    let kept = g.kept in
    let aim = aimed dir now request realm at kept in
    let shown : Presented = presented_with kept.header kept.rec in
    let asked = x509_asked message in
    let stands = self_has_grounds dir i now request.wish kept.rec shown asked g.granted in
    let user = step_of request.wish.user (self_grounds dir i shown asked) stands.value stands.is in
    let terms = self_terms_by dir now request shown asked (user_is_local dir i user.value) (user_record dir i user.value) stands.value user.is in
    record {
      server = aim.server;
      grounds = stands.value;
      terms = self_terms dir i now request.wish kept.rec aim.aim;
      named = aim.named;
      grounds_are =
          ap (grounds_of dir request) branch ∙ ap (λ (found : Option Presented). found >>= λ (shown : Presented). grounds_on dir request shown SelfTicket) (presented_is dir now request kept) ∙ stands.is;
      terms_are = terms ∙ ap (option_map (self_terms dir i now request.wish kept.rec)) aim.is;
      held = aim.held;
    }

-- ---- S4U2proxy

proxy_given : (dir : DirectoryValue) (now : Moment) (message : KdcReq) (i : ℕ) (realm : RealmRec) → slice_get dir.realms i ≡ Some realm → branch_of message ≡ Proxy
    → ProxyTicketGrants dir now (request_to message i) → Given dir now (request_to message i)
proxy_given dir now message i realm at branch g =
    let request : Request = request_to message i in
    let kept = g.kept in
    let aim = aimed dir now request realm at kept in
    let shown : Presented = presented_with kept.header kept.rec in
    let evidence : ShownTicket = ticket_shown_by g.evidence in
    record {
      server = aim.server;
      grounds = ByEvidence shown evidence;
      terms = proxy_terms dir i now request.wish kept.rec evidence.rec aim.aim;
      named = aim.named;
      grounds_are =
          ap (grounds_of dir request) branch ∙ ap (λ (found : Option Presented). found >>= λ (shown : Presented). grounds_on dir request shown Proxy) (presented_is dir now request kept)
          ∙ ap (λ (found : Option Evidence). option_map (ByEvidence shown) (option_map ticket_shown_by found)) g.found;
      terms_are = ap (option_map (proxy_terms dir i now request.wish kept.rec evidence.rec)) aim.is;
      held = aim.held;
    }

-- ---- any request

by_branch : (dir : DirectoryValue) (now : Moment) (message : KdcReq) (i : ℕ) (realm : RealmRec) (branch : Branch) → slice_get dir.realms i ≡ Some realm → branch_of message ≡ branch
    → first_failing (rules_of_branch dir now (request_to message i) branch) ≡ None → Given dir now (request_to message i)
by_branch dir now message i realm Initial at e h =
    let ask = as_ask dir i now message in
    initial_given dir now message i realm at e (granted ask (ap (λ (f : Option Rule). is_grant (decided f (as_terms ask))) h))
by_branch dir now message i realm Ordinary at e h = ordinary_given dir now message i realm at e (ordinary_kept dir now (request_to message i) h).kept
by_branch dir now message i realm SelfTicket at e h = self_given dir now message i realm at e (self_kept dir now (request_to message i) h)
by_branch dir now message i realm Proxy at e h = proxy_given dir now message i realm at e (proxy_kept dir now (request_to message i) h)

of_index : (dir : DirectoryValue) (now : Moment) (bytes : List ℕ) (message : KdcReq) (found : Option ℕ) → verdict dir now bytes ≡ None → message_in bytes ≡ Some message
    → realm_named dir message.req_body.realm ≡ found → is_some found ≡ true → is_some (grant_in dir now bytes) ≡ true
unfolding grant_in request_in
of_index dir now bytes message None h e is some = absurd cc
of_index dir now bytes message (Some i) h e is some =
    let request : Request = request_to message i in
    let realm = at_position (λ (realm : RealmRec). same_text realm.name message.req_body.realm) dir.realms i is in
    let asked : request_in dir bytes ≡ Some request = ap (λ (m : Option KdcReq). m >>= request_of dir) e ∙ ap (option_map (request_to message)) is in
    let rules = branch_known dir now bytes request (branch_of message) h asked refl in
    let granted = given dir now request realm.value realm.is (by_branch dir now message i realm.value (branch_of message) realm.is refl rules) in
    ap (λ (found : Option Request). is_some (found >>= grant_of dir now)) asked ∙ granted

of_message : (dir : DirectoryValue) (now : Moment) (bytes : List ℕ) (found : Option KdcReq) → verdict dir now bytes ≡ None → message_in bytes ≡ found → is_some found ≡ true
    → holds_of (realm_is_known dir) found ≡ true → is_some (grant_in dir now bytes) ≡ true
of_message dir now bytes None h e some known = absurd cc
of_message dir now bytes (Some message) h e some known = of_index dir now bytes message (realm_named dir message.req_body.realm) h e refl known

pub grants_are_given : (dir : DirectoryValue) (now : Moment) (bytes : List ℕ) → verdict dir now bytes ≡ None → is_some (grant_in dir now bytes) ≡ true
grants_are_given dir now bytes h =
    let g = opening_known dir now bytes h in
    of_message dir now bytes (message_in bytes) h refl g.read g.known

-- What a request that reads is granted by a directory is a grant.
use Rattle.std.proofs.Common.{◌≡◌, ℕ, zero, suc, ◌+◌, ◌<◌, ◌≤◌, ◌^◌, Bool, true, false, List, [], ◌∷◌, Option, Some, None, refl, sym, ap, ◌∙◌, subst, arith}
use Rattle.std.specs.Prelude.{◌==◌, IfSome, if◌then◌else◌, is_some, min, option_and_then, option_map, slice_get, unwrap_or}
use Rattle.std.specs.List.{AllByRecursion}
use Rattle.std.proofs.lemmas.List.Quantifiers.{position-Some}
use Rattle.std.proofs.lemmas.Option.{get_or_from_slice_get}
use Rattle.dir_core.specs.Lives.{longest_life}
use lib.Pointwise.{bytes_decides}
use Rattle.der_core.specs.Laws.{IsBytes}
use Rattle.kdc_prelude.specs.Steps.{◌>>=◌}
use Rattle.kdc_prelude.specs.Texts.{same_text}
use Rattle.krb_names.specs.declared.moment.Moment.{Moment}
use Rattle.krb_names.specs.declared.principal.Principal.{Principal}
use Rattle.krb_tickets.specs.PrincipalName.{in_realm, name_of, named, principal_name, unnamed}
use Rattle.ticket_laws.proofs.Texts.{parts_only, realm_only}
use Rattle.ticket_laws.proofs.Values.{int32_only}
use Rattle.krb_messages.specs.declared.kdc_req.KdcReq.{KdcReq}
use Rattle.krb_messages.specs.declared.kdc_req_body.KdcReqBody.{KdcReqBody}
use Rattle.krb_messages.specs.KdcReq.{is_as_req, kdc_req}
use Rattle.krb_messages.specs.KdcReqBody.{kdc_req_body}
use Rattle.krb_messages.specs.Laws.{kdc_req_body_lawful}
use Rattle.kdc_records.specs.declared.decision.Aim.{Aim}
use Rattle.kdc_records.specs.declared.decision.Aim.TheVariants.{Krbtgt, Hop, Account}
use Rattle.kdc_records.specs.declared.decision.Terms.{Terms}
use Rattle.kdc_records.specs.declared.ticket_rec.TicketRec.{TicketRec}
use Rattle.kdc_records.specs.Bits.{bit_if}
use Rattle.kdc_records.specs.Wishes.{end_by}
use Rattle.dir_records.specs.declared.records.Account.{Account as AccountRec}
use Rattle.dir_records.specs.declared.records.RealmRec.{RealmRec}
use Rattle.dir_records.specs.declared.records.Trust.{Trust}
use Rattle.dir_records.specs.DirectoryValue.{DirectoryValue}
use Rattle.dir_records.specs.IsDirectory.{IsAccount, IsAccountInRange, IsDirectory, IsRealm, IsRealmInRange, IsTrust, IsTrustInRange}
use Rattle.dir_core.specs.Lookups.{account_at, realm_named}
use Rattle.as_core.specs.AsRequests.{as_ask, as_wish}
use Rattle.as_core.specs.AsRules.{as_terms}
use Rattle.s4u_rules.specs.SelfRules.{enterprise_user, self_terms}
use Rattle.s4u_rules.specs.TgsRules.{aim_of, ordinary_terms}
use Rattle.s4u_rules.specs.TgsRules as tgs
use Rattle.ticket_codec.specs.declared.holding.Holding.{Holding}
use Rattle.ticket_codec.specs.Holdings.{aim_holding}
use Rattle.ticket_codec.specs.Made.{IsTicketName}
use Rattle.tgs_requests.specs.Askings.{tgs_wish, wish_of}
use Rattle.tgs_core.specs.Grants.{ByAccount, ByEvidence, ByHeader, ForHeadersUser, ForUser, Grant, Grounds, IsGrant, IsGrantable, IsGrounds, account_name, grant_with, hop_name, principal_of_account, terms_of, ticket_name}
use Rattle.tgs_core.specs.Requests.{Request, request_to}
use Rattle.proxy_rules.specs.ProxyRules.{proxy_terms}
use Rattle.tgs_core.proofs.SoundGrants.{account_is, hop_named, kind_fits, lone_part, realm_is}

-- ---- look-ups

pub some_is : {X : Type 0} (x y : X) → Some x ≡ Some y → x ≡ y
some_is x y e = cc

-- a value that is got by a step
pub record IsStep {A B : Type 0} (found : Option A) (f : A → Option B) (y : B) : Type 0 where
  pub value : A
  pub was : found ≡ Some value
  pub is : f value ≡ Some y

pub step_of : {A B : Type 0} (found : Option A) (f : A → Option B) (y : B) → (found >>= f) ≡ Some y → IsStep found f y
step_of None f y e = absurd cc
step_of (Some x) f y e = record { value = x; was = refl; is = e }

-- a value that is mapped
pub record IsMapped {A B : Type 0} (found : Option A) (f : A → B) (y : B) : Type 0 where
  pub value : A
  pub was : found ≡ Some value
  pub is : f value ≡ y

pub mapped_of : {A B : Type 0} (found : Option A) (f : A → B) (y : B) → option_map f found ≡ Some y → IsMapped found f y
mapped_of None f y e = absurd cc
mapped_of (Some x) f y e = record { value = x; was = refl; is = some_is (f x) y e }

pub at_index : {X : Type 0} (P : X → Type 0) (xs : List X) (i : ℕ) (x : X) → AllByRecursion P xs → slice_get xs i ≡ Some x → P x
at_index P [] i x h e = absurd cc
at_index P (y ∷ ys) zero x h e = subst P (some_is y x e) h.0
at_index P (y ∷ ys) (suc i) x h e = at_index P ys i x h.1 e

-- the realm of a name has this name
pub named_realm : (dir : DirectoryValue) (name : List ℕ) (i : ℕ) (realm : RealmRec) → realm_named dir name ≡ Some i → slice_get dir.realms i ≡ Some realm → realm.name ≡ name
named_realm dir name i realm found at =
    let passes = (position-Some (λ (r : RealmRec). same_text r.name name) dir.realms i realm found).1 in
    let is : same_text realm.name name ≡ true = subst (λ (r : RealmRec). same_text r.name name ≡ true) (get_or_from_slice_get dir.realms i realm realm at) passes in
    (bytes_decides realm.name name).0 is

-- forms and ranges of an account
pub record IsMember (account : AccountRec) : Type 0 where
  pub form : IsAccount account
  pub range : IsAccountInRange account

-- an account of a realm of the directory
pub member_in : (dir : DirectoryValue) (i j : ℕ) (realm : RealmRec) (account : AccountRec) → IsDirectory dir → slice_get dir.realms i ≡ Some realm → slice_get realm.accounts j ≡ Some account
    → IsMember account
member_in dir i j realm account h at is =
    let form = at_index IsRealm dir.realms i realm h.consistent.forms.realms at in
    let range = at_index IsRealmInRange dir.realms i realm h.in_range.realms at in
    record { form = at_index IsAccount realm.accounts j account form.accounts is; range = at_index IsAccountInRange realm.accounts j account range.accounts is }

member_found : (dir : DirectoryValue) (i j : ℕ) (account : AccountRec) (found : Option RealmRec) → slice_get dir.realms i ≡ found
    → option_and_then (λ realm. slice_get realm.accounts j) found ≡ Some account → IsDirectory dir → IsMember account
member_found dir i j account None was is h = absurd (cc)
member_found dir i j account (Some realm) was is h = member_in dir i j realm account h was is

pub member_at : (dir : DirectoryValue) (i j : ℕ) (account : AccountRec) → IsDirectory dir → account_at dir i j ≡ Some account → IsMember account
member_at dir i j account h is = member_found dir i j account (slice_get dir.realms i) refl is h

-- ---- what a request asks for

server_by : (b : Bool) (message : KdcReq) → (if b then as_wish message.req_body else tgs_wish message).server ≡ message.req_body.sname
unfolding tgs_wish
server_by true message = refl
server_by false message = refl

pub wish_server : (message : KdcReq) → (wish_of message).server ≡ message.req_body.sname
wish_server message = server_by (is_as_req message) message

nonce_by : (b : Bool) (message : KdcReq) → (if b then as_wish message.req_body else tgs_wish message).nonce ≡ message.req_body.nonce
unfolding tgs_wish
nonce_by true message = refl
nonce_by false message = refl

pub wish_nonce : (message : KdcReq) → (wish_of message).nonce ≡ message.req_body.nonce
wish_nonce message = nonce_by (is_as_req message) message

-- ---- the ticket's name

asked_name : (body : KdcReqBody) (server : Principal) → kdc_req_body.Fits body → body.sname ≡ Some server → IsTicketName body.realm server
unfolding kdc_req_body
asked_name body server fits e =
    let again : named body.realm (unnamed body.sname) ≡ body.sname = ap (λ (b : KdcReqBody). b.sname) fits.0 in
    let whole : named body.realm (unnamed (Some server)) ≡ Some server = subst (λ (s : Option Principal). named body.realm (unnamed s) ≡ s) e again in
    let same : in_realm (name_of server) body.realm ≡ server = some_is _ _ whole in
    let name : principal_name.Fits (name_of server) = subst (λ (s : Option Principal). IfSome (unnamed s) principal_name.Fits) e fits.1.1.1.1.0 in
    record {
      realm = realm_only body.realm fits.1.1.1.0;
      same = sym (ap (λ (p : Principal). p.realm) same);
      kind = int32_only server.kind name.1.0;
      parts = parts_only server.kind server.parts name.1.1.0;
    }

own_name : (realm : RealmRec) (account : AccountRec) → IsRealm realm → IsRealmInRange realm → IsMember account → IsTicketName realm.name (principal_of_account realm account)
own_name realm account h k member = record { realm = realm_is realm h k; same = refl; kind = kind_fits; parts = lone_part account.name (account_is account member.form member.range) }

name_by : (b : Bool) (realm : List ℕ) (own asked : Principal) → IsTicketName realm own → IsTicketName realm asked → IsTicketName realm (if b then own else asked)
name_by true realm own asked h k = h
name_by false realm own asked h k = k

of_account : (dir : DirectoryValue) (i at : ℕ) (realm : RealmRec) (asked : Principal) (found : Option AccountRec) → IsDirectory dir → slice_get dir.realms i ≡ Some realm
    → slice_get realm.accounts at ≡ found → IsTicketName realm.name asked → IsTicketName realm.name (unwrap_or (option_map (account_name realm asked) found) asked)
of_account dir i at realm asked None h is was named = named
of_account dir i at realm asked (Some account) h is was named =
    let form = at_index IsRealm dir.realms i realm h.consistent.forms.realms is in
    let range = at_index IsRealmInRange dir.realms i realm h.in_range.realms is in
    name_by (is_some (enterprise_user asked)) realm.name (principal_of_account realm account) asked (own_name realm account form range (member_in dir i at realm account h is was)) named

of_trust : (dir : DirectoryValue) (i at : ℕ) (realm : RealmRec) (asked : Principal) (found : Option Trust) → IsDirectory dir → slice_get dir.realms i ≡ Some realm
    → slice_get realm.trusts at ≡ found → IsTicketName realm.name asked → IsTicketName realm.name (unwrap_or (option_map (hop_name realm) found) asked)
of_trust dir i at realm asked None h is was named = named
of_trust dir i at realm asked (Some trust) h is was named =
    let form = at_index IsRealm dir.realms i realm h.consistent.forms.realms is in
    let range = at_index IsRealmInRange dir.realms i realm h.in_range.realms is in
    hop_named realm trust form range (at_index IsTrust realm.trusts at trust form.trusts was) (at_index IsTrustInRange realm.trusts at trust range.trusts was)

named_by_aim : (dir : DirectoryValue) (i : ℕ) (realm : RealmRec) (asked : Principal) (aim : Aim) → IsDirectory dir → slice_get dir.realms i ≡ Some realm → IsTicketName realm.name asked
    → IsTicketName realm.name (ticket_name realm asked aim)
named_by_aim dir i realm asked Krbtgt h is named = named
named_by_aim dir i realm asked (Hop trust) h is named = of_trust dir i trust realm asked (slice_get realm.trusts trust) h is refl named
named_by_aim dir i realm asked (Account at) h is named = of_account dir i at realm asked (slice_get realm.accounts at) h is refl named

-- ---- terms

-- terms that a ticket can have
pub record AreTerms (terms : Terms) : Type 0 where
  pub flags : terms.flags < 2 ^ 32
  pub start : terms.start ≤ 253402300799
  pub end : terms.end ≤ 253402300799

flags_small : (forwardable stamped : Bool) → bit_if 1 forwardable + bit_if 9 true + bit_if 10 stamped < 2 ^ 32
flags_small true true = omega arith
flags_small true false = omega arith
flags_small false true = omega arith
flags_small false false = omega arith

by_choice : (b : Bool) (till latest : ℕ) → (if b then latest else min till latest) ≤ latest
by_choice true till latest = omega arith
by_choice false till latest = omega arith

end_early : (till latest : ℕ) → end_by till latest ≤ latest
end_early till latest = by_choice (till == 0) till latest

life_few : (dir : DirectoryValue) (i : ℕ) (realm : RealmRec) → slice_get dir.realms i ≡ Some realm → IsRealm realm → longest_life dir i ≤ 31536000
life_few dir i realm at h =
    let is : realm.max_life ≡ longest_life dir i = sym (ap (λ (r : Option RealmRec). unwrap_or (option_map (λ (found : RealmRec). found.max_life) r) 0) at) in
    let few = h.few_life in
    omega (arith, is, few)

as_terms_are : (dir : DirectoryValue) (i : ℕ) (realm : RealmRec) (now : Moment) (req : KdcReq) → slice_get dir.realms i ≡ Some realm → IsRealm realm
    → AreTerms (as_terms (as_ask dir i now req))
unfolding as_ask
as_terms_are dir i realm now req at h =
    let early = now.in_range in
    let life = life_few dir i realm at h in
    let end = end_early req.req_body.till (now.secs + longest_life dir i) in
    record { flags = flags_small _ _; start = omega (arith, early); end = omega (arith, early, life, end) }

two_flags_small : (forwardable stamped : Bool) → bit_if 1 forwardable + bit_if 10 stamped < 2 ^ 32
two_flags_small true true = omega arith
two_flags_small true false = omega arith
two_flags_small false true = omega arith
two_flags_small false false = omega arith

one_flag_small : (forwardable : Bool) → bit_if 1 forwardable < 2 ^ 32
one_flag_small true = omega arith
one_flag_small false = omega arith

-- terms of a TGS-REQ, with flags that are small
tgs_terms_are : (dir : DirectoryValue) (i : ℕ) (realm : RealmRec) (now : Moment) (request : Request) (rec : TicketRec) (aim : Aim) (flags : ℕ) (append : Bool)
    → slice_get dir.realms i ≡ Some realm → IsRealm realm → flags < 2 ^ 32 → AreTerms (tgs.terms_with dir i now request.wish rec aim flags append)
tgs_terms_are dir i realm now request rec aim flags append at h small =
    let early = now.in_range in
    let life = life_few dir i realm at h in
    let end = end_early request.wish.till (min (now.secs + longest_life dir i) rec.end) in
    record { flags = small; start = omega (arith, early); end = omega (arith, early, life, end) }

ordinary_by_aim : (dir : DirectoryValue) (now : Moment) (request : Request) (rec : TicketRec) (realm : RealmRec) (terms : Terms) → slice_get dir.realms request.realm ≡ Some realm → IsRealm realm
    → option_map (ordinary_terms dir request.realm now request.wish rec) (aim_of dir request.realm request.wish) ≡ Some terms → AreTerms terms
ordinary_by_aim dir now request rec realm terms at h e =
    let made = mapped_of (aim_of dir request.realm request.wish) (ordinary_terms dir request.realm now request.wish rec) terms e in
    subst AreTerms made.is (tgs_terms_are dir request.realm realm now request rec made.value _ _ at h (two_flags_small _ _))

self_by_aim : (dir : DirectoryValue) (now : Moment) (request : Request) (rec : TicketRec) (realm : RealmRec) (terms : Terms) → slice_get dir.realms request.realm ≡ Some realm → IsRealm realm
    → option_map (self_terms dir request.realm now request.wish rec) (aim_of dir request.realm request.wish) ≡ Some terms → AreTerms terms
self_by_aim dir now request rec realm terms at h e =
    let made = mapped_of (aim_of dir request.realm request.wish) (self_terms dir request.realm now request.wish rec) terms e in
    subst AreTerms made.is (tgs_terms_are dir request.realm realm now request rec made.value _ _ at h (one_flag_small _))

-- those of S4U2proxy
proxy_terms_are : (dir : DirectoryValue) (i : ℕ) (realm : RealmRec) (now : Moment) (request : Request) (header evidence : TicketRec) (aim : Aim) → slice_get dir.realms i ≡ Some realm → IsRealm realm
    → AreTerms (proxy_terms dir i now request.wish header evidence aim)
proxy_terms_are dir i realm now request header evidence aim at h =
    let early = now.in_range in
    let life = life_few dir i realm at h in
    let end = end_early request.wish.till (min (now.secs + longest_life dir i) (min header.end evidence.end)) in
    record { flags = one_flag_small _; start = omega (arith, early); end = omega (arith, early, life, end) }

proxy_by_aim : (dir : DirectoryValue) (now : Moment) (request : Request) (header evidence : TicketRec) (realm : RealmRec) (terms : Terms) → slice_get dir.realms request.realm ≡ Some realm
    → IsRealm realm → option_map (proxy_terms dir request.realm now request.wish header evidence) (aim_of dir request.realm request.wish) ≡ Some terms → AreTerms terms
proxy_by_aim dir now request header evidence realm terms at h e =
    let made = mapped_of (aim_of dir request.realm request.wish) (proxy_terms dir request.realm now request.wish header evidence) terms e in
    subst AreTerms made.is (proxy_terms_are dir request.realm realm now request header evidence made.value at h)

pub terms_are : (dir : DirectoryValue) (now : Moment) (request : Request) (realm : RealmRec) (grounds : Grounds) (terms : Terms) → slice_get dir.realms request.realm ≡ Some realm → IsRealm realm
    → terms_of dir now request grounds ≡ Some terms → AreTerms terms
terms_are dir now request realm (ByAccount account) terms at h e =
    subst AreTerms (some_is _ terms e) (as_terms_are dir request.realm realm now request.message at h)
terms_are dir now request realm (ByHeader shown) terms at h e = ordinary_by_aim dir now request shown.rec realm terms at h e
terms_are dir now request realm (ForUser shown account asked) terms at h e = self_by_aim dir now request shown.rec realm terms at h e
terms_are dir now request realm (ForHeadersUser shown asked) terms at h e = self_by_aim dir now request shown.rec realm terms at h e
terms_are dir now request realm (ByEvidence shown evidence) terms at h e = proxy_by_aim dir now request shown.rec evidence.rec realm terms at h e

-- ---- the grant

-- a request's parts, as a directory has them
pub record IsAsked (dir : DirectoryValue) (req : KdcReq) (i : ℕ) (realm : RealmRec) (server : Principal) : Type 0 where
  pub known : realm_named dir req.req_body.realm ≡ Some i
  pub at : slice_get dir.realms i ≡ Some realm
  pub named : req.req_body.sname ≡ Some server

abbrev pub grant_made : RealmRec → KdcReq → ℕ → Principal → Terms → Holding → Grounds → Grant
grant_made realm req i server terms held grounds =
    record { realm = realm; request = request_to req i; asked = server; server = ticket_name realm server terms.aim; terms = terms; holding = held; grounds = grounds }

pub body_fits : (req : KdcReq) → kdc_req.Fits req → IsBytes req.body_bytes → kdc_req_body.Fits req.req_body
unfolding kdc_req
body_fits req fits bytes = kdc_req_body_lawful.fits req.body_bytes req.req_body bytes fits.1.1.1.1.0

pub asked_is_grant : (dir : DirectoryValue) (req : KdcReq) (i : ℕ) (realm : RealmRec) (server : Principal) (terms : Terms) (held : Holding) (grounds : Grounds)
    → IsDirectory dir → kdc_req.Fits req → IsBytes req.body_bytes → IsAsked dir req i realm server → AreTerms terms → IsGrounds grounds → IsGrantable realm server terms grounds
    → IsGrant (grant_made realm req i server terms held grounds)
unfolding kdc_req_body
asked_is_grant dir req i realm server terms held grounds h fits bytes asked are stands grantable =
    let form = at_index IsRealm dir.realms i realm h.consistent.forms.realms asked.at in
    let range = at_index IsRealmInRange dir.realms i realm h.in_range.realms asked.at in
    let body = body_fits req fits bytes in
    let name : IsTicketName realm.name server =
    subst (λ (name : List ℕ). IsTicketName name server) (sym (named_realm dir req.req_body.realm i realm asked.known asked.at)) (asked_name req.req_body server body asked.named) in
    record {
      realm = form;
      range = range;
      grounds = stands;
      grantable = grantable;
      server = named_by_aim dir i realm server terms.aim h asked.at name;
      nonce = rw (wish_nonce req) body.1.1.1.1.1.1.1.1.0;
      flags = are.flags;
      start = are.start;
      end = are.end;
    }

-- what is granted on these grounds, of what is looked up
abbrev granted_by : Request → Grounds → Terms → Option RealmRec → Option Principal → Option Holding → Option Grant
granted_by request grounds terms realm server holding =
    realm >>= λ realm. server >>= λ server. holding >>= λ holding.
    Some (record { realm = realm; request = request; asked = server; server = ticket_name realm server terms.aim; terms = terms; holding = holding; grounds = grounds })

looked_up : (dir : DirectoryValue) (req : KdcReq) (i : ℕ) (grounds : Grounds) (terms : Terms)
    → grant_with dir (request_to req i) grounds terms ≡ granted_by (request_to req i) grounds terms (slice_get dir.realms i) req.req_body.sname (aim_holding dir i terms.aim)
looked_up dir req i grounds terms =
    ap (λ (server : Option Principal). granted_by (request_to req i) grounds terms (slice_get dir.realms i) server (aim_holding dir i terms.aim)) (wish_server req)

by_no_server : (request : Request) (grounds : Grounds) (terms : Terms) (realm : Option RealmRec) (holding : Option Holding) → granted_by request grounds terms realm None holding ≡ None
by_no_server request grounds terms None holding = refl
by_no_server request grounds terms (Some realm) holding = refl

by_no_holding : (request : Request) (grounds : Grounds) (terms : Terms) (realm : Option RealmRec) (server : Option Principal) → granted_by request grounds terms realm server None ≡ None
by_no_holding request grounds terms None server = refl
by_no_holding request grounds terms (Some realm) None = refl
by_no_holding request grounds terms (Some realm) (Some server) = refl

-- where the server is not named
pub no_server : (dir : DirectoryValue) (req : KdcReq) (i : ℕ) (grounds : Grounds) (terms : Terms) → req.req_body.sname ≡ None → None ≡ grant_with dir (request_to req i) grounds terms
no_server dir req i grounds terms none =
    sym (
    looked_up dir req i grounds terms
    ∙ ap (λ (server : Option Principal). granted_by (request_to req i) grounds terms (slice_get dir.realms i) server (aim_holding dir i terms.aim)) none
    ∙ by_no_server (request_to req i) grounds terms (slice_get dir.realms i) (aim_holding dir i terms.aim)
    )

-- where the ticket is sealed for nobody
pub no_holding : (dir : DirectoryValue) (req : KdcReq) (i : ℕ) (grounds : Grounds) (terms : Terms) → aim_holding dir i terms.aim ≡ None → None ≡ grant_with dir (request_to req i) grounds terms
no_holding dir req i grounds terms none =
    sym (
    looked_up dir req i grounds terms
    ∙ ap (granted_by (request_to req i) grounds terms (slice_get dir.realms i) req.req_body.sname) none
    ∙ by_no_holding (request_to req i) grounds terms (slice_get dir.realms i) req.req_body.sname
    )

-- where all is there
pub grant_found : (dir : DirectoryValue) (req : KdcReq) (i : ℕ) (realm : RealmRec) (server : Principal) (terms : Terms) (held : Holding) (grounds : Grounds) → IsAsked dir req i realm server
    → aim_holding dir i terms.aim ≡ Some held → Some (grant_made realm req i server terms held grounds) ≡ grant_with dir (request_to req i) grounds terms
grant_found dir req i realm server terms held grounds asked holds =
    sym (looked_up dir req i grounds terms ∙ (λ k. granted_by (request_to req i) grounds terms (asked.at k) (asked.named k) (holds k)))

-- what is granted on grounds that are known
pub granted_with : (dir : DirectoryValue) (req : KdcReq) (i : ℕ) (grounds : Grounds) (terms : Terms) (grant : Grant) → IsDirectory dir → kdc_req.Fits req → IsBytes req.body_bytes
    → realm_named dir req.req_body.realm ≡ Some i → AreTerms terms → IsGrounds grounds
    → ((realm : RealmRec) (server : Principal) → slice_get dir.realms i ≡ Some realm → req.req_body.sname ≡ Some server → IsGrantable realm server terms grounds)
    → grant_with dir (request_to req i) grounds terms ≡ Some grant → IsGrant grant
granted_with dir req i grounds terms grant h fits bytes known are stands grantable e =
    let realm = step_of (slice_get dir.realms i) _ grant e in
    let server = step_of (wish_of req).server _ grant realm.is in
    let holding = step_of (aim_holding dir i terms.aim) _ grant server.is in
    let asked : IsAsked dir req i realm.value server.value = record { known = known; at = realm.was; named = sym (wish_server req) ∙ server.was } in
    subst IsGrant (some_is _ _ holding.is) (asked_is_grant dir req i realm.value server.value terms holding.value grounds h fits bytes asked are stands (grantable realm.value server.value realm.was asked.named))

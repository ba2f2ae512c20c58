-- The client's name is right for each kind of request.
use Rattle.std.proofs.Common.{◌≡◌, ◌∙◌, ℕ, Bool, true, false, cond, ◌&&◌, ◌||◌, List, Option, None, Some, refl, sym, ap, subst}
use Rattle.std.specs.Prelude.{Result, codes, option_and_then, option_map, slice_get, unwrap_or}
use Rattle.kdc_prelude.specs.Steps.{◌>>=◌}
use Rattle.kdc_prelude.specs.Texts.{same_text}
use Rattle.der_core.specs.declared.refusal.DerRefusal.{DerRefusal}
use Rattle.der_core.specs.Codec.{whole}
use Rattle.krb_names.specs.declared.key.Key.{Key}
use Rattle.krb_names.specs.declared.moment.Moment.{Moment}
use Rattle.krb_names.specs.declared.principal.Principal.{Principal}
use Rattle.krb_names.specs.Principals.{same_principal}
use Rattle.krb_tickets.specs.declared.ticket.Ticket.{Ticket}
use Rattle.krb_messages.specs.declared.kdc_req.KdcReq.{KdcReq}
use Rattle.krb_messages.specs.declared.kdc_req_body.KdcReqBody.{KdcReqBody}
use Rattle.s4u_padata.specs.declared.for_user.ForUser.{ForUser as ForUserPadata}
use Rattle.s4u_padata.specs.declared.x509_user.X509User.{X509User}
use Rattle.s4u_padata.specs.X509User.{x509_user}
use Rattle.kdc_records.specs.declared.decision.Aim.{Aim}
use Rattle.kdc_records.specs.declared.decision.Aim.TheVariants.{Krbtgt, Hop, Account}
use Rattle.kdc_records.specs.declared.ticket_rec.TicketRec.{TicketRec}
use Rattle.kdc_records.specs.declared.wish.Branch.TheVariants.{Ordinary, SelfTicket, Proxy}
use Rattle.dir_records.specs.declared.records.Account.{Account as AccountRec}
use Rattle.dir_records.specs.declared.records.RealmRec.{RealmRec}
use Rattle.dir_records.specs.declared.records.Trust.{Trust}
use Rattle.dir_records.specs.DirectoryValue.{DirectoryValue}
use Rattle.dir_core.specs.Lookups.{realm_named}
use Rattle.route_rules.specs.Aims.{resolve}
use Rattle.s4u_rules.specs.SelfRules.{is_user_of, user_fits_header, user_is_local, user_record}
use Rattle.s4u_rules.specs.TgsRules.{is_for_its_client}
use Rattle.ticket_codec.specs.declared.holding.Holding.{Holding}
use Rattle.ticket_codec.specs.Holdings.{aim_holding_in, hop_holding}
use Rattle.proxy_requests.specs.declared.evidence.Evidence.{Evidence}
use Rattle.proxy_requests.specs.Evidences.{evidence_given, evidence_in, requestor_role, ticket_asked}
use Rattle.tgs_requests.specs.declared.asking.SelfAsked.{SelfAsked}
use Rattle.tgs_requests.specs.declared.header.Header.{Header}
use Rattle.tgs_requests.specs.Askings.{branch_of, names_one_user, read_or_none, self_asked, tgs_wish, user_wished, wish_of}
use Rattle.tgs_requests.specs.Headers.{record_in}
use Rattle.s4u_client.specs.declared.cred.Cred.{Cred}
use Rattle.s4u_client.specs.declared.cred.Want.{Want}
use Rattle.s4u_client.specs.Finishing.{client_is_right, is_krbtgt_in}
use Rattle.s4u_client.specs.Reads.{IsRandom}
use Rattle.s4u_client.specs.Requests.{as_request, asked_in, for_user_of, pending_for, proxy_request, self_request, subkey_of, tgs_request, x509_user_of}
use Rattle.s4u_client.specs.Writable.{IsName, IsWant}
use Rattle.s4u_client.proofs.ReadBack.{users_read}
use Rattle.tgs_core.specs.Grants.{ByAccount, ByEvidence, ByHeader, ForHeadersUser, ForUser, Grant, Grounds, Presented, client_by, client_for, evidence_presented, granted_record, hop_name, presented_with, principal_of_account, principal_of_subject, self_grounds, ticket_name, ticket_shown_by, user_grounds, x509_asked}
use Rattle.tgs_core.specs.Requests.{Request, request_to}
use Rattle.tgs_core.specs.Verdicts.{SelfTicketGrants, verdict}
use Rattle.tgs_core.proofs.FoundGrants.{mapped_of, named_realm, some_is, step_of}
use Rattle.tgs_core.proofs.Openings.{branch_known}
use Rattle.tgs_core.proofs.TgsVerdicts.{self_kept}
use Rattle.ends_laws.specs.Ends.{AsksItself, IsAsking, IsPlain, Itself, OnBehalf, Ordinarily, ShowsItself, WithEvidence, begun_by}
use Rattle.ends_laws.proofs.AskedMessages.{proxy_header_is, self_header_is, tgs_header_is}
use Rattle.ends_laws.proofs.Askers.{IsBegun, keys_of, later_grounds, own_account, proxy_branch, self_branch, tgs_branch}
use Rattle.ends_laws.proofs.ClientNames.{aim_found, chosen_of, client_right, is_shown, requestor_is}
use Rattle.ends_laws.proofs.GrantParts.{IsGrantOf, aimed_in}
use Rattle.ends_laws.proofs.PlainNames.{client_named, local_user, plain_same, told_user}
use Rattle.ends_laws.proofs.SamePrincipals.{name_is_same, text_is_same}
use Rattle.ends_laws.proofs.WantedAnswers.{IsAnswer}

-- ---- what is granted

client_of : (grant : Grant) (block : List ℕ) (grounds : Grounds) → grounds ≡ grant.grounds → (granted_record grant block).client ≡ client_by grant.realm grant.terms.aim grounds
unfolding granted_record
client_of grant block grounds is = ap (client_by grant.realm grant.terms.aim) (sym is)

hop_krbtgt : (want : Want) (realm : RealmRec) (asked : Principal) (aim : Aim) (t : ℕ) (holding : Holding) → aim_holding_in realm aim ≡ Some holding → realm.name ≡ want.realm → aim ≡ Hop t
    → is_krbtgt_in want.realm (ticket_name realm asked aim) ≡ true
hop_krbtgt want realm asked aim t holding held same e =
    let at_hop : aim_holding_in realm (Hop t) ≡ Some holding = sym (ap (aim_holding_in realm) e) ∙ held in
    let trust = mapped_of (slice_get realm.trusts t) (hop_holding realm) holding at_hop in
    let named : ticket_name realm asked (Hop t) ≡ hop_name realm trust.value = ap (λ (found : Option Trust). unwrap_or (option_map (hop_name realm) found) asked) trust.was in
    let own : same_text realm.name want.realm ≡ true = subst (λ (other : List ℕ). same_text realm.name other ≡ true) same (text_is_same realm.name) in
    ap (λ (a : Aim). is_krbtgt_in want.realm (ticket_name realm asked a)) e
    ∙ ap (is_krbtgt_in want.realm) named
    ∙ ap (λ (b : Bool). b && same_text realm.name want.realm) (text_is_same (codes "krbtgt")) ∙ own

same_as : (a b : Principal) → a ≡ b → same_principal a b ≡ true
same_as a b e = subst (λ (name : Principal). same_principal a name ≡ true) e (name_is_same a)

-- of a TGS-REQ, whose grounds tell the user and the one that asks
shown_right : (dir : DirectoryValue) (now : Moment) (block bytes own : List ℕ) (tgt : Cred) (awaited : Principal) (want : Want) (message : KdcReq) (grant : Grant) (grounds : Grounds) (user requestor : Principal)
    → IsGrantOf dir now bytes grant → IsBegun dir want message grant → IsAnswer grant want → grounds ≡ grant.grounds → is_shown grounds ≡ true
    → client_by grant.realm grant.terms.aim grounds ≡ client_for grant.terms.aim user requestor → user ≡ awaited → requestor ≡ tgt.client
    → client_is_right (pending_for tgt awaited want own) grant.server (granted_record grant block).client ≡ true
shown_right dir now block bytes own tgt awaited want message grant grounds user requestor of begun answer is shown client u r =
    let asked : Principal = asked_in want.realm want.server in
    let at : ℕ = grant.request.realm in
    let same : begun.at ≡ at = ap (λ (request : Request). request.realm) begun.is in
    let known : realm_named dir want.realm ≡ Some at = begun.known ∙ ap Some same in
    let held : aim_holding_in grant.realm grant.terms.aim ≡ Some grant.holding = sym (aimed_in dir at grant.terms.aim grant.realm of.realm) ∙ of.held in
    let of_grounds : is_shown grant.grounds ≡ true = subst (λ (g : Grounds). is_shown g ≡ true) is shown in
    let means : resolve dir at asked ≡ Some grant.terms.aim =
    ap (resolve dir at) (sym answer.asked)
    ∙ sym (ap (λ (server : Option Principal). server >>= resolve dir at) of.server)
    ∙ aim_found dir now grant.request grant.grounds grant.terms of_grounds of.terms in
    let own_realm : grant.realm.name ≡ want.realm = named_realm dir want.realm at grant.realm known of.realm in
    let right = client_right dir at grant.realm grant.terms.aim (pending_for tgt awaited want own) user requestor known of.realm means
    (λ (t : ℕ) (e : grant.terms.aim ≡ Hop t). hop_krbtgt want grant.realm asked grant.terms.aim t grant.holding held own_realm e) (same_as user awaited u) (same_as requestor tgt.client r) in
    let named : ticket_name grant.realm asked grant.terms.aim ≡ grant.server = ap (λ (name : Principal). ticket_name grant.realm name grant.terms.aim) (sym answer.asked) ∙ of.named in
    let who : client_for grant.terms.aim user requestor ≡ (granted_record grant block).client = sym (client_of grant block grounds is ∙ client) in
    sym (λ i. client_is_right (pending_for tgt awaited want own) (named i) (who i)) ∙ right

-- ---- an AS-REQ

pub itself_right : (dir : DirectoryValue) (now made : Moment) (block bytes own : List ℕ) (want : Want) (client : Principal) (key : Key) (grant : Grant) → AsksItself dir want client key
    → IsGrantOf dir now bytes grant → IsBegun dir want (as_request client key want made own) grant
    → client_is_right (begun_by (Itself client key) want made own).pending grant.server (granted_record grant block).client ≡ true
itself_right dir now made block bytes own want client key grant h of begun =
    let account = own_account dir want client key made own grant h begun in
    let same : begun.at ≡ grant.request.realm = ap (λ (request : Request). request.realm) begun.is in
    let here : slice_get dir.realms begun.at ≡ Some grant.realm = ap (slice_get dir.realms) same ∙ of.realm in
    let named = client_named dir begun.at grant.realm account.account client h.plain here account.found in
    let own_realm : grant.realm.name ≡ client.realm = named_realm dir want.realm begun.at grant.realm begun.known here ∙ sym h.realm in
    let is : (granted_record grant block).client ≡ client =
    client_of grant block (ByAccount account.account) account.is ∙ plain_same client account.account.name grant.realm.name h.plain named own_realm in
    first_of (same_principal (granted_record grant block).client client) _ (same_as (granted_record grant block).client client is)
  where
    first_of : (a b : Bool) → a ≡ true → (a || b) ≡ true
    first_of a b e = rw e refl

-- ---- an ordinary TGS-REQ

one_client : (aim : Aim) (name : Principal) → name ≡ client_for aim name name
one_client Krbtgt name = refl
one_client (Hop t) name = refl
one_client (Account k) name = refl

pub ordinary_right : (dir : DirectoryValue) (now made : Moment) (block bytes own : List ℕ) (want : Want) (tgt : Cred) (grant : Grant) → ShowsItself dir want tgt → IsRandom own
    → IsGrantOf dir now bytes grant → IsBegun dir want (tgs_request tgt want made own) grant → IsAnswer grant want
    → client_is_right (begun_by (Ordinarily tgt) want made own).pending grant.server (granted_record grant block).client ≡ true
ordinary_right dir now made block bytes own want tgt grant h random of begun answer =
    let message : KdcReq = tgs_request tgt want made own in
    let stands = later_grounds dir want message Ordinary grant (tgs_branch tgt want made own) refl begun in
    let header = tgs_header_is dir begun.at tgt want made own stands.header h.cred h.is_key random (keys_of dir want tgt begun.at h begun.known) stands.found in
    let asks = requestor_is dir want begun.at tgt made own _ stands.header stands.rec h begun.known header stands.shows in
    let shown : Presented = presented_with stands.header stands.rec in
    shown_right dir now block bytes own tgt tgt.client want message grant (ByHeader shown) stands.rec.client stands.rec.client of begun answer (some_is (ByHeader shown) grant.grounds stands.on) refl
    (one_client grant.terms.aim stands.rec.client) asks asks

-- ---- S4U2self

self_asked_is : (tgt : Cred) (user : Principal) (want : Want) (made : Moment) (own : List ℕ) → IsName user → IsWant want
    → self_asked (self_request tgt user want made own) ≡ Some (record { for_user = Some (for_user_of user tgt.session); x509_user = Some (x509_user_of want user (subkey_of own)) })
unfolding self_asked self_request
self_asked_is tgt user want made own n w =
    let by_id : Option (Option X509User) = option_map Some (read_or_none (whole x509_user (x509_user.spelling (x509_user_of want user (subkey_of own))))) in
    let told : Option ForUserPadata → Option X509User → Option SelfAsked = λ (a : Option ForUserPadata) (b : Option X509User). Some (record { for_user = a; x509_user = b }) in
    ap (λ (r : Result ForUserPadata DerRefusal). option_map Some (read_or_none r) >>= λ (a : Option ForUserPadata). by_id >>= told a) (users_read.name user tgt.session n)
    ∙ ap (λ (r : Result X509User DerRefusal). option_map Some (read_or_none r) >>= told (Some (for_user_of user tgt.session))) (users_read.x509 want user (subkey_of own) w n)

user_told : (tgt : Cred) (user other : Principal) (want : Want) (made : Moment) (own : List ℕ) → (self_asked (self_request tgt user want made own) >>= user_wished (self_request tgt user want made own).req_body) ≡ Some other
    → IsName user → IsWant want → user ≡ other
user_told tgt user other want made own e n w =
    let body : KdcReqBody = (self_request tgt user want made own).req_body in
    let asked : SelfAsked = record { for_user = Some (for_user_of user tgt.session); x509_user = Some (x509_user_of want user (subkey_of own)) } in
    let told : user_wished body asked ≡ Some other = sym (ap (λ (o : Option SelfAsked). o >>= user_wished body) (self_asked_is tgt user want made own n w)) ∙ e in
    some_is user other (chosen_of (names_one_user body asked) (Some user) other told)

wished_user : (tgt : Cred) (user other : Principal) (want : Want) (made : Moment) (own : List ℕ) → IsName user → IsWant want → (wish_of (self_request tgt user want made own)).user ≡ Some other → user ≡ other
unfolding tgs_wish self_request
wished_user tgt user other want made own n w e = user_told tgt user other want made own e n w

-- for a user of the realm, or of another one
by_place : (dir : DirectoryValue) (now : Moment) (block bytes own : List ℕ) (tgt : Cred) (user : Principal) (want : Want) (message : KdcReq) (grant : Grant) (header : Header) (rec : TicketRec) (asked : Option X509User)
    (local : Bool) (record_found : Option AccountRec) → IsPlain user → IsGrantOf dir now bytes grant → (begun : IsBegun dir want message grant) → IsAnswer grant want → rec.client ≡ tgt.client
    → user_record dir begun.at user ≡ record_found → (local ≡ false → is_user_of rec.subject user ≡ true)
    → user_grounds (presented_with header rec) asked local record_found ≡ Some grant.grounds
    → client_is_right (pending_for tgt user want own) grant.server (granted_record grant block).client ≡ true
by_place dir now block bytes own tgt user want message grant header rec asked true record_found plain of begun answer asks was fits e =
    let shown : Presented = presented_with header rec in
    let account = mapped_of record_found (λ (found : AccountRec). ForUser shown found asked) grant.grounds e in
    let same : begun.at ≡ grant.request.realm = ap (λ (request : Request). request.realm) begun.is in
    let here : slice_get dir.realms begun.at ≡ Some grant.realm = ap (slice_get dir.realms) same ∙ of.realm in
    let named = local_user dir begun.at grant.realm account.value user plain here (was ∙ account.was) in
    shown_right dir now block bytes own tgt user want message grant (ForUser shown account.value asked) (principal_of_account grant.realm account.value) rec.client of begun answer account.is refl refl named asks
by_place dir now block bytes own tgt user want message grant header rec asked false record_found plain of begun answer asks was fits e =
    let shown : Presented = presented_with header rec in
    shown_right dir now block bytes own tgt user want message grant (ForHeadersUser shown asked) (principal_of_subject rec.subject) rec.client of begun answer
    (some_is (ForHeadersUser shown asked) grant.grounds e) refl refl (told_user rec.subject user plain (fits refl)) asks

pub self_right : (dir : DirectoryValue) (now made : Moment) (block bytes own : List ℕ) (want : Want) (tgt : Cred) (user : Principal) (grant : Grant) → ShowsItself dir want tgt → IsName user → IsPlain user
    → IsWant want → IsRandom own → verdict dir now bytes ≡ None → IsGrantOf dir now bytes grant → IsBegun dir want (self_request tgt user want made own) grant → IsAnswer grant want
    → client_is_right (begun_by (OnBehalf tgt user) want made own).pending grant.server (granted_record grant block).client ≡ true
self_right dir now made block bytes own want tgt user grant h n plain w random none of begun answer =
    let message : KdcReq = self_request tgt user want made own in
    let at : ℕ = begun.at in
    let request : Request = request_to message at in
    let stands = later_grounds dir want message SelfTicket grant (self_branch tgt user want made own) refl begun in
    let header = self_header_is dir at tgt user want made own stands.header h.cred h.is_key random (keys_of dir want tgt at h begun.known) stands.found in
    let asks = requestor_is dir want at tgt made own _ stands.header stands.rec h begun.known header stands.shows in
    let shown : Presented = presented_with stands.header stands.rec in
    let asked : Option X509User = x509_asked message in
    let wished = step_of request.wish.user (self_grounds dir at shown asked) grant.grounds stands.on in
    let same : user ≡ wished.value = wished_user tgt user wished.value want made own n w wished.was in
    let branch : branch_of grant.request.message ≡ SelfTicket = ap (λ (r : Request). branch_of r.message) (sym begun.is) ∙ self_branch tgt user want made own in
    let kept : SelfTicketGrants dir now request = subst (SelfTicketGrants dir now) (sym begun.is) (self_kept dir now grant.request (branch_known dir now bytes grant.request SelfTicket none of.asked branch)) in
    let own_header : stands.header ≡ kept.kept.header = some_is stands.header kept.kept.header (sym stands.found ∙ kept.kept.opened) in
    let own_rec : stands.rec ≡ kept.kept.rec = some_is stands.rec kept.kept.rec (sym stands.shows ∙ ap record_in own_header ∙ kept.kept.shown) in
    let own_user : user ≡ kept.granted.user = wished_user tgt user kept.granted.user want made own n w kept.granted.named in
    let fits : user_fits_header dir at stands.rec user ≡ true = (λ i. user_fits_header dir at (own_rec i) (own_user i)) ∙ kept.granted.fits in
    let on : user_grounds shown asked (user_is_local dir at user) (user_record dir at user) ≡ Some grant.grounds =
    (λ i. user_grounds shown asked (user_is_local dir at (same i)) (user_record dir at (same i))) ∙ wished.is in
    by_place dir now block bytes own tgt user want message grant stands.header stands.rec asked (user_is_local dir at user) (user_record dir at user) plain of begun answer asks refl
    (λ (other : user_is_local dir at user ≡ false). sym (ap (λ (b : Bool). cond b (is_for_its_client stands.rec) (is_user_of stands.rec.subject user)) other) ∙ fits) on

-- ---- S4U2proxy

proxy_ticket : (tgt evidence : Cred) (rbcd : Bool) (want : Want) (made : Moment) (own : List ℕ) → ticket_asked (proxy_request tgt evidence rbcd want made own) ≡ Some evidence.ticket
unfolding proxy_request
proxy_ticket tgt evidence rbcd want made own = refl

given_by : (dir : DirectoryValue) (at : ℕ) (message : KdcReq) (header : TicketRec) (ticket : Ticket) (shown : Evidence) → ticket_asked message ≡ Some ticket → evidence_in dir at message header ≡ Some shown
    → evidence_given dir at (requestor_role dir at header) ticket ≡ Some shown
unfolding evidence_in
given_by dir at message header ticket shown asked e = sym (ap (option_and_then (evidence_given dir at (requestor_role dir at header))) asked) ∙ e

pub proxy_right : (dir : DirectoryValue) (now made : Moment) (block bytes own : List ℕ) (want : Want) (tgt evidence : Cred) (user : Principal) (rbcd : Bool) (grant : Grant)
    → IsAsking dir want (WithEvidence tgt evidence user rbcd) → IsRandom own → IsGrantOf dir now bytes grant → IsBegun dir want (proxy_request tgt evidence rbcd want made own) grant → IsAnswer grant want
    → client_is_right (begun_by (WithEvidence tgt evidence user rbcd) want made own).pending grant.server (granted_record grant block).client ≡ true
proxy_right dir now made block bytes own want tgt evidence user rbcd grant h random of begun answer =
    let message : KdcReq = proxy_request tgt evidence rbcd want made own in
    let at : ℕ = begun.at in
    let stands = later_grounds dir want message Proxy grant (proxy_branch tgt evidence rbcd want made own) refl begun in
    let header = proxy_header_is dir at tgt evidence rbcd want made own stands.header h.0.cred h.0.is_key random (keys_of dir want tgt at h.0 begun.known) stands.found in
    let asks = requestor_is dir want at tgt made own _ stands.header stands.rec h.0 begun.known header stands.shows in
    let shown : Presented = presented_with stands.header stands.rec in
    let ticket = mapped_of (evidence_presented dir (request_to message at) stands.rec) (ByEvidence shown) grant.grounds stands.on in
    let found = mapped_of (evidence_in dir at message stands.rec) ticket_shown_by ticket.value ticket.was in
    let given = given_by dir at message stands.rec evidence.ticket found.value (proxy_ticket tgt evidence rbcd want made own) found.was in
    let is_user : user ≡ principal_of_subject found.value.certified.rec.subject = h.1.1 at stands.rec found.value begun.known asks given in
    let grounds : Grounds = ByEvidence shown (ticket_shown_by found.value) in
    shown_right dir now block bytes own tgt user want message grant grounds (principal_of_subject found.value.certified.rec.subject) stands.rec.client of begun answer
    (ap (ByEvidence shown) found.is ∙ ticket.is) refl refl (sym is_user) asks

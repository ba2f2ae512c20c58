-- A client that begins a request has the key of the reply.
use Rattle.std.proofs.Common.{◌≡◌, ◌∙◌, ℕ, ◌+◌, Bool, true, false, cond, List, Option, Some, refl, sym, ap, subst}
use Rattle.krb_names.specs.declared.etype.Etype.TheVariants.{Aes256}
use Rattle.krb_names.specs.declared.key.Key.{Key}
use Rattle.krb_names.specs.declared.moment.Moment.{Moment}
use Rattle.krb_names.specs.declared.principal.Principal.{Principal}
use Rattle.krb_crypto.proofs.ByteSums.{bytes_below}
use Rattle.krb_crypto.specs.BlockCipher.{IsKey}
use Rattle.krb_tickets.specs.PrincipalName.{in_realm, name_of}
use Rattle.krb_messages.specs.declared.authenticator.Authenticator.{Authenticator}
use Rattle.krb_messages.specs.declared.kdc_req.KdcReq.{KdcReq}
use Rattle.s4u_padata.specs.declared.x509_user.X509User.{X509User}
use Rattle.kdc_records.specs.declared.ticket_rec.TicketRec.{TicketRec}
use Rattle.kdc_records.specs.declared.wish.Branch.{Branch}
use Rattle.kdc_records.specs.declared.wish.Branch.TheVariants.{Initial, Ordinary, SelfTicket, Proxy}
use Rattle.kdc_records.specs.Bits.{bit_if, has_bit}
use Rattle.dir_records.specs.declared.records.Account.{Account as AccountRec}
use Rattle.dir_records.specs.DirectoryValue.{DirectoryValue}
use Rattle.dir_core.specs.Lookups.{realm_named}
use Rattle.as_core.specs.AsRules.{client_account}
use Rattle.s4u_rules.specs.SelfRules.{user_is_local, user_record}
use Rattle.ticket_codec.specs.declared.opening.Opened.{Opened}
use Rattle.tgs_requests.specs.declared.header.Header.{Header}
use Rattle.tgs_requests.specs.Askings.{branch_of}
use Rattle.tgs_requests.specs.Headers.{header_in, record_in, ticket_opened}
use Rattle.tgs_core.specs.Grants.{ByAccount, ByEvidence, ByHeader, ForHeadersUser, ForUser, Grant, Grounds, Presented, evidence_presented, grant_in, grounds_of, grounds_on, presented_in, presented_with, self_grounds, user_grounds, x509_asked}
use Rattle.tgs_core.specs.Replies.{reply_key, tgs_key}
use Rattle.tgs_core.specs.Requests.{Request, request_to}
use Rattle.tgs_core.proofs.FoundGrants.{mapped_of, some_is, step_of}
use Rattle.tgs_core.proofs.SoundGrants.{session_key_is}
use Rattle.s4u_client.specs.declared.cred.Cred.{Cred}
use Rattle.s4u_client.specs.declared.cred.Want.{Want}
use Rattle.s4u_client.specs.Reads.{IsRandom}
use Rattle.s4u_client.specs.Requests.{as_request, asked_in, pending_for, proxy_request, self_request, subkey_of, tgs_request}
use Rattle.s4u_client.specs.Writable.{IsWant}
use Rattle.ends_laws.specs.Ends.{AskersOpen, Asking, AsksItself, CanOpen, IsAsking, Itself, OnBehalf, Ordinarily, ShowsItself, WithEvidence, begun_by}
use Rattle.ends_laws.proofs.AskedMessages.{IsHeaderOf, message_by, message_reads, proxy_header_is, request_is, self_header_is, tgs_header_is}
use Rattle.ends_laws.proofs.GrantParts.{grant_parts}
use Rattle.ends_laws.proofs.HeldKeys.{random_bytes}

-- ---- how it asks

no_evidence : (forwardable : Bool) → has_bit 14 (bit_if 1 forwardable + bit_if 14 false) ≡ false
no_evidence true = refl
no_evidence false = refl

with_evidence : (forwardable : Bool) → has_bit 14 (bit_if 1 forwardable + bit_if 14 true) ≡ true
with_evidence true = refl
with_evidence false = refl

pub as_branch : (client : Principal) (key : Key) (want : Want) (made : Moment) (own : List ℕ) → branch_of (as_request client key want made own) ≡ Initial
unfolding as_request
as_branch client key want made own = refl

pub tgs_branch : (tgt : Cred) (want : Want) (made : Moment) (own : List ℕ) → branch_of (tgs_request tgt want made own) ≡ Ordinary
unfolding tgs_request
tgs_branch tgt want made own = ap (λ (b : Bool). cond b Proxy Ordinary) (no_evidence want.forwardable)

pub self_branch : (tgt : Cred) (user : Principal) (want : Want) (made : Moment) (own : List ℕ) → branch_of (self_request tgt user want made own) ≡ SelfTicket
unfolding self_request
self_branch tgt user want made own = refl

pub proxy_branch : (tgt evidence : Cred) (rbcd : Bool) (want : Want) (made : Moment) (own : List ℕ) → branch_of (proxy_request tgt evidence rbcd want made own) ≡ Proxy
unfolding proxy_request
proxy_branch tgt evidence true want made own = ap (λ (b : Bool). cond b Proxy Ordinary) (with_evidence want.forwardable)
proxy_branch tgt evidence false want made own = ap (λ (b : Bool). cond b Proxy Ordinary) (with_evidence want.forwardable)

pub asked_realm : (asking : Asking) (want : Want) (made : Moment) (own : List ℕ) → (message_by asking want made own).req_body.realm ≡ want.realm
unfolding as_request tgs_request self_request proxy_request
asked_realm (Itself client key) want made own = refl
asked_realm (Ordinarily tgt) want made own = refl
asked_realm (OnBehalf tgt user) want made own = refl
asked_realm (WithEvidence tgt evidence user rbcd) want made own = refl

-- ---- what is granted

-- what is granted to a message, which was asked for of the realm at an index
pub record IsBegun (dir : DirectoryValue) (want : Want) (message : KdcReq) (grant : Grant) : Type 0 where
  pub at : ℕ
  pub known : realm_named dir want.realm ≡ Some at
  pub is : request_to message at ≡ grant.request
  pub grounds : grounds_of dir (request_to message at) (branch_of message) ≡ Some grant.grounds

pub begun_grant : (dir : DirectoryValue) (now made : Moment) (own : List ℕ) (want : Want) (asking : Asking) (grant : Grant) → IsWant want → IsRandom own → IsAsking dir want asking
    → grant_in dir now (begun_by asking want made own).bytes ≡ Some grant → IsBegun dir want (message_by asking want made own) grant
begun_grant dir now made own want asking grant w random h granted =
    let bytes : List ℕ = (begun_by asking want made own).bytes in
    let message : KdcReq = message_by asking want made own in
    let of = grant_parts dir now bytes grant granted in
    let asked = request_is dir bytes message grant.request (message_reads dir want asking made own w h random.long) of.asked in
    record {
      at = asked.at;
      known = ap (realm_named dir) (sym (asked_realm asking want made own)) ∙ asked.known;
      is = asked.is;
      grounds = subst (λ (request : Request). grounds_of dir request (branch_of request.message) ≡ Some grant.grounds) (sym asked.is) of.grounds;
    }

-- ---- the grounds of a TGS-REQ

-- they stand on its header, which shows a record
pub record StandsOn (dir : DirectoryValue) (request : Request) (branch : Branch) (grounds : Grounds) : Type 0 where
  pub header : Header
  pub rec : TicketRec
  pub found : header_in dir request.realm request.message ≡ Some header
  pub shows : record_in header ≡ Some rec
  pub on : grounds_on dir request (presented_with header rec) branch ≡ Some grounds

shown_on : (dir : DirectoryValue) (request : Request) (branch : Branch) (grounds : Grounds) (shown : Presented) → presented_in dir request ≡ Some shown → grounds_on dir request shown branch ≡ Some grounds
    → StandsOn dir request branch grounds
shown_on dir request branch grounds shown presented on =
    let header = step_of (header_in dir request.realm request.message) _ shown presented in
    let rec = mapped_of (record_in header.value) (presented_with header.value) shown header.is in
    record {
      header = header.value;
      rec = rec.value;
      found = header.was;
      shows = rec.was;
      on = subst (λ (shown : Presented). grounds_on dir request shown branch ≡ Some grounds) (sym rec.is) on;
    }

-- what is no AS-REQ
abbrev pub is_later : Branch → Bool
is_later Initial = false
is_later Ordinary = true
is_later SelfTicket = true
is_later Proxy = true

pub stands_on : (dir : DirectoryValue) (request : Request) (branch : Branch) (grounds : Grounds) → is_later branch ≡ true → grounds_of dir request branch ≡ Some grounds → StandsOn dir request branch grounds
stands_on dir request Initial grounds later e = absurd (cc)
stands_on dir request Ordinary grounds later e =
    let shown = step_of (presented_in dir request) (λ (shown : Presented). grounds_on dir request shown Ordinary) grounds e in
    shown_on dir request Ordinary grounds shown.value shown.was shown.is
stands_on dir request SelfTicket grounds later e =
    let shown = step_of (presented_in dir request) (λ (shown : Presented). grounds_on dir request shown SelfTicket) grounds e in
    shown_on dir request SelfTicket grounds shown.value shown.was shown.is
stands_on dir request Proxy grounds later e =
    let shown = step_of (presented_in dir request) (λ (shown : Presented). grounds_on dir request shown Proxy) grounds e in
    shown_on dir request Proxy grounds shown.value shown.was shown.is

user_key : (shown : Presented) (asked : Option X509User) (local : Bool) (account : Option AccountRec) (grounds : Grounds) → user_grounds shown asked local account ≡ Some grounds
    → reply_key grounds ≡ tgs_key shown.part.key shown.subkey
user_key shown asked false account grounds e = ap reply_key (sym (some_is (ForHeadersUser shown asked) grounds e))
user_key shown asked true account grounds e =
    let found = mapped_of account (λ (found : AccountRec). ForUser shown found asked) grounds e in
    ap reply_key (sym found.is)

key_on : (dir : DirectoryValue) (request : Request) (shown : Presented) (branch : Branch) (grounds : Grounds) → grounds_on dir request shown branch ≡ Some grounds
    → reply_key grounds ≡ tgs_key shown.part.key shown.subkey
key_on dir request shown Initial grounds e = absurd (cc)
key_on dir request shown Ordinary grounds e = ap reply_key (sym (some_is (ByHeader shown) grounds e))
key_on dir request shown SelfTicket grounds e =
    let user = step_of request.wish.user (self_grounds dir request.realm shown (x509_asked request.message)) grounds e in
    user_key shown (x509_asked request.message) (user_is_local dir request.realm user.value) (user_record dir request.realm user.value) grounds user.is
key_on dir request shown Proxy grounds e =
    let ticket = mapped_of (evidence_presented dir request shown.rec) (ByEvidence shown) grounds e in
    ap reply_key (sym ticket.is)

-- ---- who has the key

subkey_is : (own : List ℕ) → IsRandom own → IsKey (subkey_of own)
subkey_is own random = let key = session_key_is Aes256 own random.long (random_bytes own random) in (key.size, bytes_below (subkey_of own).raw key.octets)

-- with the subkey that the authenticator of the header has
by_header : (dir : DirectoryValue) (request : Request) (branch : Branch) (grant : Grant) (tgt : Cred) (client : Principal) (want : Want) (made : Moment) (own body : List ℕ) (at : ℕ) → IsRandom own
    → (stands : StandsOn dir request branch grant.grounds) → IsHeaderOf dir at tgt made own body stands.header → CanOpen grant (pending_for tgt client want own)
by_header dir request branch grant tgt client want made own body at random stands of =
    let shown : Presented = presented_with stands.header stands.rec in
    let subkey : shown.subkey ≡ Some (subkey_of own) = ap (λ (auth : Authenticator). auth.subkey) of.auth in
    let keyed : reply_key grant.grounds ≡ tgs_key shown.part.key (Some (subkey_of own)) = key_on dir request shown branch grant.grounds stands.on ∙ ap (tgs_key shown.part.key) subkey in
    record { key = sym (λ i. (keyed i).key); usage = sym (λ i. (keyed i).usage); is_key = subkey_is own random }

pub keys_of : (dir : DirectoryValue) (want : Want) (tgt : Cred) (at : ℕ) → ShowsItself dir want tgt → realm_named dir want.realm ≡ Some at
    → (opened : Opened) → ticket_opened dir at tgt.ticket ≡ Some opened → opened.part.key ≡ tgt.session
keys_of dir want tgt at h known opened found = (h.shown at opened known found).1

-- a name of the realm that is asked
pub asked_again : (realm : List ℕ) (name : Principal) → name.realm ≡ realm → asked_in realm name ≡ name
asked_again realm name same = λ i. in_realm (name_of name) (sym same i)

pub as_client : (client : Principal) (key : Key) (want : Want) (made : Moment) (own : List ℕ) → (as_request client key want made own).req_body.cname ≡ Some (asked_in want.realm client)
unfolding as_request
as_client client key want made own = refl

-- the account of a client that asks for itself
pub record IsOwn (dir : DirectoryValue) (at : ℕ) (client : Principal) (grounds : Grounds) : Type 0 where
  pub account : AccountRec
  pub found : client_account dir at (Some client) ≡ Some account
  pub is : ByAccount account ≡ grounds

pub own_account : (dir : DirectoryValue) (want : Want) (client : Principal) (key : Key) (made : Moment) (own : List ℕ) (grant : Grant) → AsksItself dir want client key
    → (begun : IsBegun dir want (as_request client key want made own) grant) → IsOwn dir begun.at client grant.grounds
own_account dir want client key made own grant h begun =
    let message : KdcReq = as_request client key want made own in
    let on : grounds_of dir (request_to message begun.at) Initial ≡ Some grant.grounds = sym (ap (grounds_of dir (request_to message begun.at)) (as_branch client key want made own)) ∙ begun.grounds in
    let account = mapped_of (client_account dir begun.at message.req_body.cname) ByAccount grant.grounds on in
    let asked : message.req_body.cname ≡ Some client = as_client client key want made own ∙ (λ i. Some (asked_again want.realm client h.realm i)) in
    record { account = account.value; found = sym (ap (client_account dir begun.at) asked) ∙ account.was; is = account.is }

itself_opens : (dir : DirectoryValue) (want : Want) (client : Principal) (key : Key) (made : Moment) (own : List ℕ) (grant : Grant) → AsksItself dir want client key
    → IsBegun dir want (as_request client key want made own) grant → CanOpen grant (begun_by (Itself client key) want made own).pending
itself_opens dir want client key made own grant h begun =
    let account = own_account dir want client key made own grant h begun in
    record {
      key = h.own begun.at account.account begun.known account.found ∙ ap (λ (g : Grounds). (reply_key g).key) account.is;
      usage = ap (λ (g : Grounds). (reply_key g).usage) account.is;
      is_key = h.is_key;
    }

-- the grounds of a TGS-REQ, by how it asks
pub later_grounds : (dir : DirectoryValue) (want : Want) (message : KdcReq) (branch : Branch) (grant : Grant) → branch_of message ≡ branch → is_later branch ≡ true → (begun : IsBegun dir want message grant)
    → StandsOn dir (request_to message begun.at) branch grant.grounds
later_grounds dir want message branch grant e later begun =
    stands_on dir (request_to message begun.at) branch grant.grounds later (sym (ap (grounds_of dir (request_to message begun.at)) e) ∙ begun.grounds)

pub askers_open : AskersOpen
askers_open dir now made own want (Itself client key) grant d w random h granted =
    itself_opens dir want client key made own grant h (begun_grant dir now made own want (Itself client key) grant w random h granted)
askers_open dir now made own want (Ordinarily tgt) grant d w random h granted =
    let message : KdcReq = tgs_request tgt want made own in
    let begun = begun_grant dir now made own want (Ordinarily tgt) grant w random h granted in
    let stands = later_grounds dir want message Ordinary grant (tgs_branch tgt want made own) refl begun in
    let header = tgs_header_is dir begun.at tgt want made own stands.header h.cred h.is_key random (keys_of dir want tgt begun.at h begun.known) stands.found in
    by_header dir (request_to message begun.at) Ordinary grant tgt tgt.client want made own _ begun.at random stands header
askers_open dir now made own want (OnBehalf tgt user) grant d w random h granted =
    let message : KdcReq = self_request tgt user want made own in
    let begun = begun_grant dir now made own want (OnBehalf tgt user) grant w random h granted in
    let stands = later_grounds dir want message SelfTicket grant (self_branch tgt user want made own) refl begun in
    let header = self_header_is dir begun.at tgt user want made own stands.header h.0.cred h.0.is_key random (keys_of dir want tgt begun.at h.0 begun.known) stands.found in
    by_header dir (request_to message begun.at) SelfTicket grant tgt user want made own _ begun.at random stands header
askers_open dir now made own want (WithEvidence tgt evidence user rbcd) grant d w random h granted =
    let message : KdcReq = proxy_request tgt evidence rbcd want made own in
    let begun = begun_grant dir now made own want (WithEvidence tgt evidence user rbcd) grant w random h granted in
    let stands = later_grounds dir want message Proxy grant (proxy_branch tgt evidence rbcd want made own) refl begun in
    let header = proxy_header_is dir begun.at tgt evidence rbcd want made own stands.header h.0.cred h.0.is_key random (keys_of dir want tgt begun.at h.0 begun.known) stands.found in
    by_header dir (request_to message begun.at) Proxy grant tgt user want made own _ begun.at random stands header

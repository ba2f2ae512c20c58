-- A client, the KDC and the service that the client comes to agree (RFC 4120, section 3; MS-SFU, section 3).
use Rattle.std.specs.Prelude.{◌≡◌, ℕ, pos, [], ◌∷◌, ◌+◌, ◌*◌, ◌<◌, ◌≤◌, Bool, true, List, None, Some, slice_get, Result, Ok, Err}
use Rattle.kdc_prelude.specs.Verdicts.{first_failing}
use Rattle.der_core.specs.Laws.{IsBytes}
use Rattle.krb_names.specs.declared.key.Key.{Key}
use Rattle.krb_names.specs.declared.moment.Moment.{Moment}
use Rattle.krb_names.specs.declared.principal.Principal.{Principal}
use Rattle.krb_names.specs.Moments.{in_micros}
use Rattle.krb_crypto.specs.BlockCipher.{IsKey}
use Rattle.krb_messages.specs.declared.enc_kdc_rep.EncKdcRep.{EncKdcRep}
use Rattle.kdc_records.specs.declared.decision.Aim.TheVariants.{Account}
use Rattle.kdc_records.specs.declared.rule.Rule.{Rule}
use Rattle.kdc_records.specs.declared.ticket_rec.TicketRec.{TicketRec}
use Rattle.kdc_records.specs.RuleCodes.{code_of}
use Rattle.kdc_records.specs.RuleNames.{name_of}
use Rattle.dir_records.specs.declared.records.Account.{Account as AccountRec}
use Rattle.dir_records.specs.declared.records.RealmRec.{RealmRec}
use Rattle.dir_records.specs.DirectoryValue.{DirectoryValue}
use Rattle.dir_records.specs.IsDirectory.{IsDirectory}
use Rattle.dir_core.specs.Lookups.{realm_named}
use Rattle.as_core.specs.AsRules.{client_account}
use Rattle.ticket_codec.specs.declared.opening.Opened.{Opened}
use Rattle.tgs_requests.specs.Headers.{ticket_opened}
use Rattle.proxy_rules.specs.ProxyRules.{services_of}
use Rattle.proxy_requests.specs.declared.evidence.Evidence.{Evidence}
use Rattle.proxy_requests.specs.Evidences.{evidence_given, requestor_role}
use Rattle.s4u_client.specs.declared.cred.Begun.{Begun}
use Rattle.s4u_client.specs.declared.cred.Cred.{Cred}
use Rattle.s4u_client.specs.declared.cred.Pending.{Pending}
use Rattle.s4u_client.specs.declared.cred.Want.{Want}
use Rattle.s4u_client.specs.declared.fault.FinishFault.TheVariants.{Denied}
use Rattle.s4u_client.specs.Finishing.{comparisons, cred_of, finished, unless_differing}
use Rattle.s4u_client.specs.Reads.{IsRandom}
use Rattle.s4u_client.specs.Requests.{begun_ap, begun_as, begun_proxy, begun_self, begun_tgs}
use Rattle.s4u_client.specs.Writable.{IsCred, IsName, IsWant}
use Rattle.service_end.specs.declared.refusal.AcceptRule.{AcceptRule}
use Rattle.service_end.specs.declared.service.ServiceKeys.{ServiceKeys}
use Rattle.service_end.specs.Accepting.{Acceptance, accept_outcome}
use Rattle.service_end.specs.Memory.{nothing_seen}
use Rattle.service_end.specs.Times.{is_fresh}
use Rattle.tgs_core.specs.Answers.{answered_to}
use Rattle.tgs_core.specs.Grants.{Grant, grant_in, granted_record, principal_of_account, principal_of_subject}
use Rattle.tgs_core.specs.Replies.{reply_key, reply_of, reply_part, ticket_made}
use Rattle.tgs_core.specs.Verdicts.{verdict}

-- ---- a denial

-- where a rule denies a request, its code and name reach every client that takes the reply, whatever it awaits
abbrev pub DenialsReach : Type 0
DenialsReach = (dir : DirectoryValue) (now : Moment) (block bytes : List ℕ) (rule : Rule) (pending : Pending)
    → IsDirectory dir → IsBytes bytes → verdict dir now bytes ≡ Some rule
    → finished pending (answered_to dir now block bytes).reply ≡ Err (Denied (code_of rule) (name_of rule))

-- ---- a grant

-- what is sealed in the reply to a grant
abbrev pub part_given : Grant → List ℕ → EncKdcRep
part_given grant block = reply_part grant (granted_record grant block)

-- the client has the key of the reply, and takes it for the usage that it is sealed with (RFC 4120, sections 3.1.5, 3.3.4 and 7.5.1)
pub record CanOpen (grant : Grant) (pending : Pending) : Type 0 where
  pub key : pending.key ≡ (reply_key grant.grounds).key
  pub usage : pending.usage ≡ (reply_key grant.grounds).usage
  pub is_key : IsKey pending.key

-- where no rule denies a request, every client that has the key of the reply opens it, and accepts it unless its comparisons say
-- otherwise
abbrev pub GrantsOpen : Type 0
GrantsOpen = (dir : DirectoryValue) (now : Moment) (block bytes : List ℕ) (grant : Grant) (pending : Pending)
    → IsDirectory dir → IsBytes bytes → IsRandom block → verdict dir now bytes ≡ None → grant_in dir now bytes ≡ Some grant → CanOpen grant pending
    → finished pending (answered_to dir now block bytes).reply
    ≡ unless_differing (first_failing (comparisons pending (reply_of grant block) (part_given grant block))) (cred_of (reply_of grant block) (part_given grant block))

-- the credential that a grant gives: of the ticket's client, with its session key, flags and end
abbrev pub cred_given : Grant → List ℕ → Cred
cred_given grant block =
    let t = granted_record grant block in
    record { client = t.client; server = grant.server; ticket = ticket_made grant block; session = t.session; flags = t.flags; end = t.end }

-- ---- a request that a client begins

-- for whom a client asks: an AS-REQ for itself, with its key; with a ticket-granting ticket, an ordinary TGS-REQ, S4U2self for a user, and S4U2proxy
-- for the user of an evidence ticket
pub data Asking : Type 0 where
  Itself : (client : Principal) → (key : Key) → Asking
  Ordinarily : (tgt : Cred) → Asking
  OnBehalf : (tgt : Cred) → (user : Principal) → Asking
  WithEvidence : (tgt : Cred) → (evidence : Cred) → (user : Principal) → (rbcd : Bool) → Asking

-- the request with this wish, made at a time with a random block, and what is awaited
abbrev pub begun_by : Asking → Want → Moment → List ℕ → Begun
begun_by (Itself client key) want made block = begun_as client key want made block
begun_by (Ordinarily tgt) want made block = begun_tgs tgt want made block
begun_by (OnBehalf tgt user) want made block = begun_self tgt user want made block
begun_by (WithEvidence tgt evidence user rbcd) want made block = begun_proxy tgt evidence user rbcd want made block

-- of kind 1 (NT-PRINCIPAL) and one part
pub record IsPlain (name : Principal) : Type 0 where
  pub part : List ℕ
  pub kind : name.kind ≡ pos 1
  pub lone : name.parts ≡ part ∷ []

-- a client of the realm that is asked, with the key of its account there
pub record AsksItself (dir : DirectoryValue) (want : Want) (client : Principal) (key : Key) : Type 0 where
  pub name : IsName client
  pub plain : IsPlain client
  pub realm : client.realm ≡ want.realm
  pub is_key : IsKey key
  pub own : (at : ℕ) (account : AccountRec) → realm_named dir want.realm ≡ Some at → client_account dir at (Some client) ≡ Some account → key ≡ account.key.key

-- a credential whose client and session key are those that its ticket shows, as a header, at the realm that is asked
pub record ShowsItself (dir : DirectoryValue) (want : Want) (tgt : Cred) : Type 0 where
  pub cred : IsCred tgt
  pub is_key : IsKey tgt.session
  pub shown : (at : ℕ) (opened : Opened) → realm_named dir want.realm ≡ Some at → ticket_opened dir at tgt.ticket ≡ Some opened → (opened.part.client ≡ tgt.client) × (opened.part.key ≡ tgt.session)

-- the user of the evidence, where that is shown at the realm that is asked
abbrev pub IsEvidencesUser : DirectoryValue → Want → Cred → Cred → Principal → Type 0
IsEvidencesUser dir want tgt evidence user = (at : ℕ) (header : TicketRec) (shown : Evidence) → realm_named dir want.realm ≡ Some at → header.client ≡ tgt.client
    → evidence_given dir at (requestor_role dir at header) evidence.ticket ≡ Some shown → user ≡ principal_of_subject shown.certified.rec.subject

abbrev pub IsAsking : DirectoryValue → Want → Asking → Type 0
IsAsking dir want (Itself client key) = AsksItself dir want client key
IsAsking dir want (Ordinarily tgt) = ShowsItself dir want tgt
IsAsking dir want (OnBehalf tgt user) = ShowsItself dir want tgt × (IsName user × IsPlain user)
IsAsking dir want (WithEvidence tgt evidence user rbcd) = ShowsItself dir want tgt × (IsCred evidence × IsEvidencesUser dir want tgt evidence user)

-- a client that begins a request has the key of the reply
abbrev pub AskersOpen : Type 0
AskersOpen = (dir : DirectoryValue) (now made : Moment) (own : List ℕ) (want : Want) (asking : Asking) (grant : Grant) → IsDirectory dir → IsWant want → IsRandom own → IsAsking dir want asking
    → grant_in dir now (begun_by asking want made own).bytes ≡ Some grant → CanOpen grant (begun_by asking want made own).pending

-- where no rule denies a request that a client begins, it finishes with the credential that the grant gives
abbrev pub AskersFinish : Type 0
AskersFinish = (dir : DirectoryValue) (now made : Moment) (block own : List ℕ) (want : Want) (asking : Asking) (grant : Grant)
    → IsDirectory dir → IsWant want → IsRandom own → IsAsking dir want asking → IsBytes (begun_by asking want made own).bytes → IsRandom block
    → verdict dir now (begun_by asking want made own).bytes ≡ None → grant_in dir now (begun_by asking want made own).bytes ≡ Some grant
    → finished (begun_by asking want made own).pending (answered_to dir now block (begun_by asking want made own).bytes).reply ≡ Ok (cred_given grant block)

-- ---- a service

-- what the service of an account knows of itself
abbrev pub service_of : RealmRec → AccountRec → ServiceKeys
service_of realm account = record { account = principal_of_account realm account; key = account.key.key; version = account.key.version }

-- a moment, in microseconds after 1970, within 300 seconds of the one when the authenticator was made, at most 300 seconds before the ticket
-- starts, and earlier than its end
pub record IsTimely (moment : ℕ) (made : Moment) (t : TicketRec) : Type 0 where
  pub fresh : is_fresh moment (in_micros made) ≡ true
  pub begun : t.start * 1000000 ≤ moment + 300000000
  pub lasting : moment < t.end * 1000000

-- the service is told of the ticket's client, its user's SID, and the services that delegated
pub record IsTold (outcome : Result Acceptance AcceptRule) (t : TicketRec) : Type 0 where
  pub acceptance : Acceptance
  pub accepted : outcome ≡ Ok acceptance
  pub client : acceptance.accepted.client ≡ t.client
  pub sid : acceptance.accepted.sid ≡ t.subject.sid
  pub services : acceptance.accepted.services ≡ services_of t.delegation

-- a service ticket that was granted is accepted by its service, which has seen nothing before: with the credential that the grant gives
abbrev pub ServicesAccept : Type 0
ServicesAccept = (dir : DirectoryValue) (now : Moment) (block bytes : List ℕ) (grant : Grant) (at : ℕ) (account : AccountRec)
    → IsDirectory dir → IsBytes bytes → IsRandom block → verdict dir now bytes ≡ None → grant_in dir now bytes ≡ Some grant
    → grant.terms.aim ≡ Account at → slice_get grant.realm.accounts at ≡ Some account
    → (is_mutual : Bool) (made : Moment) (own conf : List ℕ) (moment : ℕ) → IsRandom own → IsTimely moment made (granted_record grant block)
    → IsTold (accept_outcome (service_of grant.realm account) moment conf nothing_seen (begun_ap (cred_given grant block) is_mutual made own)) (granted_record grant block)

-- What is known of each entry of a history, by the rules that held for it and by what it was granted.
use Rattle.std.proofs.Common.{◌≡◌, ◌++◌, Bool, true, false, None, Some}
use Rattle.std.specs.Prelude.{slice_get}
use Rattle.krb_names.specs.declared.key.Key.{Key}
use Rattle.krb_names.specs.declared.principal.Principal.{Principal}
use Rattle.dir_records.specs.declared.records.Account.{Account as AccountRec}
use Rattle.as_core.specs.AsRequests.{as_ask}
use Rattle.as_core.specs.AsRules.{AsGrants, client_account}
use Rattle.ticket_parts.specs.Parts.{part}
use Rattle.ticket_parts.specs.Records.{record_of}
use Rattle.ticket_parts.specs.Sound.{IsSound}
use Rattle.s4u_rules.specs.SelfRules.{is_user_of, user_is_local, user_record}
use Rattle.s4u_rules.specs.TgsRules.{is_for_its_client}
use Rattle.proxy_rules.specs.ProxyRules.{requestor_text, services_of}
use Rattle.tgs_core.specs.Grants.{ByAccount, ByEvidence, ByHeader, ForHeadersUser, ForUser, Grounds, Presented, ShownTicket, subject_of_account, ticket_presented}
use Rattle.history_laws.specs.Chains.{ProxyStep, SelfStep, realm_asked, services_told}
use Rattle.history_laws.specs.Entries.{Entry}

-- the record of a shown ticket is the one that its part tells
pub record IsRead (shown : ShownTicket) : Type 0 where
  pub agrees : Bool
  pub told : record_of shown.rec.holder shown.part ≡ Some (record { rec = shown.rec; agrees = agrees })

-- ---- by the grounds

pub record InitialGrant (entry : Entry) (account : AccountRec) : Type 0 where
  pub realm : slice_get entry.dir.realms (realm_asked entry) ≡ Some entry.grant.realm
  pub rules : AsGrants (as_ask entry.dir (realm_asked entry) entry.now entry.grant.request.message)
  pub found : client_account entry.dir (realm_asked entry) entry.grant.request.message.req_body.cname ≡ Some account
  pub subject : entry.ticket.subject ≡ subject_of_account entry.grant.realm account
  pub bare : entry.ticket.delegation ≡ None

pub record OrdinaryGrant (entry : Entry) (header : Presented) : Type 0 where
  pub read : IsRead (ticket_presented header)
  pub subject : entry.ticket.subject ≡ header.rec.subject
  pub client : entry.ticket.client ≡ header.rec.client
  pub bare : entry.ticket.delegation ≡ None
  pub first : header.rec.delegation ≡ None

pub record OwnUserGrant (entry : Entry) (header : Presented) (account : AccountRec) : Type 0 where
  pub read : IsRead (ticket_presented header)
  pub user : Principal
  pub step : SelfStep entry header.rec user
  pub own : is_for_its_client header.rec ≡ true
  pub local : user_is_local entry.dir (realm_asked entry) user ≡ true
  pub found : user_record entry.dir (realm_asked entry) user ≡ Some account
  pub subject : entry.ticket.subject ≡ subject_of_account entry.grant.realm account
  pub bare : entry.ticket.delegation ≡ None

pub record OtherUserGrant (entry : Entry) (header : Presented) : Type 0 where
  pub read : IsRead (ticket_presented header)
  pub user : Principal
  pub step : SelfStep entry header.rec user
  pub other : user_is_local entry.dir (realm_asked entry) user ≡ false
  pub is_user : is_user_of header.rec.subject user ≡ true
  pub subject : entry.ticket.subject ≡ header.rec.subject
  pub bare : entry.ticket.delegation ≡ None
  pub first : header.rec.delegation ≡ None

pub record ProxyGrant (entry : Entry) (header : Presented) (evidence : ShownTicket) : Type 0 where
  pub read : IsRead (ticket_presented header)
  pub evidence_read : IsRead evidence
  pub step : ProxyStep entry header.rec evidence
  pub subject : entry.ticket.subject ≡ evidence.rec.subject
  pub list : services_told entry.ticket ≡ Some (services_of evidence.rec.delegation ++ requestor_text entry.grant.realm header.rec)

abbrev pub GrantBy : Entry → Grounds → Type 0
GrantBy entry (ByAccount account) = InitialGrant entry account
GrantBy entry (ByHeader shown) = OrdinaryGrant entry shown
GrantBy entry (ForUser shown account asked) = OwnUserGrant entry shown account
GrantBy entry (ForHeadersUser shown asked) = OtherUserGrant entry shown
GrantBy entry (ByEvidence shown evidence) = ProxyGrant entry shown evidence

-- ---- of any

-- its part is that of its record, which is sound, and its row holds
pub record IsGranted (entry : Entry) : Type 0 where
  pub holder_key : Key
  pub realm_key : Key
  pub part_is : entry.part ≡ part entry.ticket holder_key realm_key
  pub sound : IsSound entry.ticket
  pub row : GrantBy entry entry.grant.grounds

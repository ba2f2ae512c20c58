-- The evidence of a requestor of the realm is for the requestor's account, which has the SID of the header's user.
use Rattle.std.proofs.Common.{◌≡◌, ◌∙◌, ℕ, Bool, true, false, Option, Some, sym, ap, subst}
use Rattle.std.specs.Prelude.{◌&&◌, ◌||◌, ◌==◌, not, option_and_then, option_map, slice_get}
use lib.Dec.{T, eqb→eq}
use lib.Pointwise.{bytes_decides}
use Rattle.kdc_prelude.proofs.Bools.{both}
use Rattle.kdc_prelude.specs.Options.{holds_of}
use Rattle.kdc_prelude.specs.Steps.{◌>>=◌}
use Rattle.kdc_prelude.specs.Texts.{same_text}
use Rattle.krb_names.specs.SidValue.{SidValue, followed_by, same_sid}
use Rattle.krb_tickets.specs.declared.enc_ticket_part.EncTicketPart.{EncTicketPart}
use Rattle.krb_tickets.specs.declared.ticket.Ticket.{Ticket}
use Rattle.krb_messages.specs.declared.kdc_req.KdcReq.{KdcReq}
use Rattle.kdc_records.specs.declared.decision.Aim.{Aim}
use Rattle.kdc_records.specs.declared.decision.Aim.TheVariants as aims
use Rattle.kdc_records.specs.declared.ticket_rec.TicketRec.{TicketRec}
use Rattle.kdc_records.specs.Parties.{party_of}
use Rattle.dir_records.specs.declared.records.Account.{Account as AccountRec}
use Rattle.dir_records.specs.declared.records.RealmRec.{RealmRec}
use Rattle.dir_records.specs.DirectoryValue.{DirectoryValue}
use Rattle.dir_core.specs.Lookups.{account_at}
use Rattle.route_rules.specs.Aims.{resolve_account}
use Rattle.route_rules.specs.Requestor.{requestor_account}
use Rattle.s4u_rules.specs.TgsRules.{has_sid_of, is_for_its_client, is_local, is_the_subject, requestor_is_known, requestor_record}
use Rattle.proxy_rules.specs.ProxyRules.{requestor_is_local}
use Rattle.ticket_codec.specs.declared.holding.Holding.{Holding}
use Rattle.ticket_codec.specs.declared.opening.Opened.{Opened}
use Rattle.ticket_codec.specs.declared.role.Role.{Role}
use Rattle.ticket_codec.specs.declared.role.Role.TheVariants.{Evidence as AsEvidence}
use Rattle.ticket_codec.specs.Holdings.{account_holding, aim_holding}
use Rattle.ticket_codec.specs.Opening.{opened_of, opened_with, part_in}
use Rattle.ticket_codec.specs.Presented.{certified}
use Rattle.ticket_codec.specs.Roles.{evidence_place, holder_place, holding, is_place, place_in_role}
use Rattle.proxy_requests.specs.declared.evidence.Evidence.{Evidence}
use Rattle.proxy_requests.specs.Evidences.{evidence_by, evidence_given, evidence_in, evidence_of, evidence_with, requestor_role, role_of, ticket_asked}
use Rattle.history_laws.specs.Chains.{IsAccountOf}
use Rattle.history_laws.proofs.GrantsOf.{aim_in_realm}
use Rattle.history_laws.proofs.ShownTickets.{IsTold, certified_told}
use Rattle.history_laws.proofs.Steps.{asked_second, chosen, mapped, moved, one_of, stepped, thened}

-- ---- what an evidence is

-- it was opened in the role of the requestor, and certified
pub record IsEvidenceOf (dir : DirectoryValue) (at : ℕ) (header : TicketRec) (evidence : Evidence) : Type 0 where
  pub ticket : Ticket
  pub role : Role
  pub held : Holding
  pub given : requestor_role dir at header ≡ Some role
  pub found : holding dir at role ticket ≡ Some held
  pub holder : evidence.opened.holder ≡ held.holder
  pub told : IsTold evidence.opened evidence.certified

opener : (held : Holding) (opened : Opened) (found : Option EncTicketPart) → option_map (opened_of held) found ≡ Some opened → opened.holder ≡ held.holder
opener held opened found e = let part = mapped (opened_of held) found opened e in ap (λ (o : Opened). o.holder) (sym part.2)

pub evidence_parts : (dir : DirectoryValue) (at : ℕ) (message : KdcReq) (header : TicketRec) (evidence : Evidence) → evidence_in dir at message header ≡ Some evidence → IsEvidenceOf dir at header evidence
unfolding evidence_in
evidence_parts dir at message header evidence e =
    let ticket = thened (ticket_asked message) (evidence_given dir at (requestor_role dir at header)) evidence e in
    let role = thened (requestor_role dir at header) (evidence_of dir at ticket.0) evidence ticket.2 in
    let opened = thened (option_and_then (opened_with ticket.0) (holding dir at role.0 ticket.0)) (evidence_by dir at) evidence role.2 in
    let held = thened (holding dir at role.0 ticket.0) (opened_with ticket.0) opened.0 opened.1 in
    let shown = mapped (evidence_with opened.0) (certified dir at opened.0) evidence opened.2 in
    moved (IsEvidenceOf dir at header) (evidence_with opened.0 shown.0) evidence shown.2
    (record {
      ticket = ticket.0;
      role = role.0;
      held = held.0;
      given = role.1;
      found = held.1;
      holder = opener held.0 opened.0 (part_in held.0.key.key ticket.0.sealed.cipher) held.2;
      told = certified_told dir at opened.0 shown.0 shown.1;
    })

-- ---- of a requestor of the realm

-- the role is that of its account
role_is : (local : Bool) (account : Option ℕ) (role : Role) → local ≡ true → role_of local account ≡ Some role → (index : ℕ) × (account ≡ Some index) × (AsEvidence index ≡ role)
role_is true account role e h = mapped AsEvidence account role h
role_is false account role e h = absurd (cc)

local_role : (dir : DirectoryValue) (at : ℕ) (header : TicketRec) (role : Role) → requestor_is_local dir at header ≡ true → requestor_role dir at header ≡ Some role
    → (index : ℕ) × (requestor_account dir at header.client ≡ Some index) × (AsEvidence index ≡ role)
unfolding requestor_role
local_role dir at header role local h = role_is (requestor_is_local dir at header) (requestor_account dir at header.client) role local h

-- the holder is that account
held_place : (dir : DirectoryValue) (at index : ℕ) (realm : RealmRec) (ticket : Ticket) (held : Holding) → slice_get dir.realms at ≡ Some realm → holding dir at (AsEvidence index) ticket ≡ Some held
    → aim_holding dir at (aims.Account index) ≡ Some held
unfolding holding holder_place
held_place dir at index realm ticket held here h =
    let place = stepped (holder_place dir at (AsEvidence index) ticket) (λ (p : ℕ × Aim). aim_holding dir p.0 p.1) held h in
    let in_realm : evidence_place dir at realm index ticket ≡ Some place.0 = sym (ap (λ (o : Option RealmRec). o >>= λ (r : RealmRec). place_in_role dir at r (AsEvidence index) ticket) here) ∙ place.1 in
    let own = chosen (same_text ticket.realm realm.name && is_place at index (resolve_account dir at ticket.sname)) (let found : Option (ℕ × Aim) = Some (at, aims.Account index) in found) place.0 in_realm in
    ap (λ (p : ℕ × Aim). aim_holding dir p.0 p.1) (one_of (at, aims.Account index) place.0 own.1) ∙ place.2

sids_are : (a b : SidValue) → same_sid a b ≡ true → a ≡ b
sids_are a b h =
    let parts = both (a.authority == b.authority) (same_text a.numbers b.numbers) h in
    let authorities : a.authority ≡ b.authority = eqb→eq a.authority b.authority (subst T (sym parts.0) tt) in
    let numbers : a.numbers ≡ b.numbers = (bytes_decides a.numbers b.numbers).0 parts.1 in
    λ k. let sid : SidValue = record { authority = authorities k; numbers = numbers k } in sid

-- G13 of a header that is its client's own: the account has its user's SID
account_sid : (dir : DirectoryValue) (at index : ℕ) (realm : RealmRec) (header : TicketRec) (account : AccountRec) → slice_get dir.realms at ≡ Some realm → requestor_is_known dir at header ≡ true
    → requestor_is_local dir at header ≡ true → is_for_its_client header ≡ true → requestor_account dir at header.client ≡ Some index → slice_get realm.accounts index ≡ Some account
    → followed_by realm.sid account.number ≡ header.subject.sid
account_sid dir at index realm header account here known local own asked listed =
    let at_realm : (not (is_local realm header) || holds_of (is_the_subject realm header) (requestor_record dir at header)) ≡ true =
    sym (ap (holds_of (λ (r : RealmRec). not (is_local r header) || holds_of (is_the_subject r header) (requestor_record dir at header))) here) ∙ known in
    let is_local_here : is_local realm header ≡ true = sym (ap (holds_of (λ (r : RealmRec). is_local r header)) here) ∙ local in
    let subject : holds_of (is_the_subject realm header) (requestor_record dir at header) ≡ true = asked_second (is_local realm header) (holds_of (is_the_subject realm header) (requestor_record dir at header)) is_local_here at_realm in
    let found : requestor_record dir at header ≡ Some account =
    ap (λ (o : Option ℕ). o >>= account_at dir at) asked
    ∙ ap (option_and_then (λ (r : RealmRec). slice_get r.accounts index)) here
    ∙ listed in
    let is_subject : is_the_subject realm header account ≡ true = sym (ap (holds_of (is_the_subject realm header)) found) ∙ subject in
    sids_are (followed_by realm.sid account.number) header.subject.sid (asked_second (is_for_its_client header) (has_sid_of realm header.subject account) own is_subject)

pub own_evidence : (dir : DirectoryValue) (at : ℕ) (realm : RealmRec) (header : TicketRec) (evidence : Evidence) → slice_get dir.realms at ≡ Some realm → requestor_is_known dir at header ≡ true
    → is_for_its_client header ≡ true → IsEvidenceOf dir at header evidence → requestor_is_local dir at header ≡ true
    → IsAccountOf realm header.subject.sid (party_of evidence.certified.rec.holder)
own_evidence dir at realm header evidence here known own of local =
    let role = local_role dir at header of.role local of.given in
    let found : holding dir at (AsEvidence role.0) of.ticket ≡ Some of.held = ap (λ (r : Role). holding dir at r of.ticket) role.2 ∙ of.found in
    let aimed = aim_in_realm dir at realm (aims.Account role.0) (Some of.held) here (held_place dir at role.0 realm of.ticket of.held here found) in
    let account = mapped (account_holding realm) (slice_get realm.accounts role.0) of.held aimed in
    record {
      index = role.0;
      account = account.0;
      listed = account.1;
      numbered = account_sid dir at role.0 realm header account.0 here known local own role.1 account.1;
      held = ap party_of (of.told.holder ∙ of.holder) ∙ ap (λ (h : Holding). party_of h.holder) (sym account.2);
    }

-- The record of an evidence ticket is sound, and what was sealed in the ticket tells it.
use Rattle.std.proofs.Common.{◌≡◌, ℕ, List, [], ◌∷◌, Some, refl, subst}
use Rattle.std.specs.Prelude.{option_and_then}
use Rattle.std.specs.List.{AllByRecursion}
use Rattle.der_core.specs.Laws.{IsBytes}
use Rattle.krb_tickets.specs.declared.ticket.Ticket.{Ticket}
use Rattle.krb_messages.specs.declared.kdc_req.KdcReq.{KdcReq}
use Rattle.kdc_records.specs.declared.ticket_rec.TicketRec.{TicketRec}
use Rattle.dir_records.specs.DirectoryValue.{DirectoryValue}
use Rattle.dir_records.specs.IsDirectory.{IsDirectory}
use Rattle.ticket_parts.specs.Records.{record_of}
use Rattle.ticket_parts.specs.Sound.{IsSound}
use Rattle.ticket_codec.specs.declared.role.Role.{Role}
use Rattle.ticket_codec.specs.Opening.{opened_with}
use Rattle.ticket_codec.specs.Presented.{certified}
use Rattle.ticket_codec.specs.Roles.{holding}
use Rattle.tgs_requests.specs.Askings.{only}
use Rattle.proxy_requests.specs.declared.evidence.Evidence.{Evidence}
use Rattle.proxy_requests.specs.Evidences.{evidence_by, evidence_given, evidence_in, evidence_of, evidence_with, requestor_role, ticket_asked, tickets_of}
use Rattle.tgs_core.specs.Received.{IsReceived}
use Rattle.tgs_core.proofs.FoundGrants.{mapped_of, some_is}
use Rattle.tgs_core.proofs.ShownHeaders.{certified_holder, certified_is_told, opened_writable, shown_sound, then_of}

-- ---- the steps to the evidence

-- the ticket that is asked, what was opened of it in a role, and what was certified of that
record IsShown (dir : DirectoryValue) (at : ℕ) (message : KdcReq) (evidence : Evidence) : Type 0 where
  ticket : Ticket
  role : Role
  asked : ticket_asked message ≡ Some ticket
  opens : option_and_then (opened_with ticket) (holding dir at role ticket) ≡ Some evidence.opened
  shows : certified dir at evidence.opened ≡ Some evidence.certified

evidence_shown : (dir : DirectoryValue) (at : ℕ) (message : KdcReq) (header : TicketRec) (evidence : Evidence) → evidence_in dir at message header ≡ Some evidence → IsShown dir at message evidence
unfolding evidence_in
evidence_shown dir at message header evidence e =
    let asked = then_of (ticket_asked message) (evidence_given dir at (requestor_role dir at header)) evidence e in
    let given = then_of (requestor_role dir at header) (evidence_of dir at asked.value) evidence asked.is in
    let unsealed = then_of (option_and_then (opened_with asked.value) (holding dir at given.value asked.value)) (evidence_by dir at) evidence given.is in
    let shown = mapped_of (certified dir at unsealed.value) (evidence_with unsealed.value) evidence unsealed.is in
    let is : evidence_with unsealed.value shown.value ≡ evidence = shown.is in
    subst (IsShown dir at message) is (record { ticket = asked.value; role = given.value; asked = asked.was; opens = unsealed.was; shows = shown.was })

-- ---- its record

-- what holds of all holds of the only one
only_holds : {X : Type 0} (P : X → Type 0) (xs : List X) (x : X) → AllByRecursion P xs → only xs ≡ Some x → P x
only_holds P [] x h e = absurd cc
only_holds P (one ∷ []) x h e = subst P (some_is one x e) h.0
only_holds P (one ∷ more ∷ xs) x h e = absurd cc

pub evidence_is_sound : (dir : DirectoryValue) (at : ℕ) (message : KdcReq) (header : TicketRec) (evidence : Evidence) → IsDirectory dir → IsReceived message
    → evidence_in dir at message header ≡ Some evidence → IsSound evidence.certified.rec
evidence_is_sound dir at message header evidence h received e =
    let shown = evidence_shown dir at message header evidence e in
    let tickets = tickets_of message.req_body.additional_tickets in
    let cipher = only_holds (λ (one : Ticket). IsBytes one.sealed.cipher) tickets shown.ticket received.sealed_octets shown.asked in
    let writable = opened_writable dir at shown.role shown.ticket (holding dir at shown.role shown.ticket) evidence.opened h cipher refl shown.opens in
    shown_sound dir at evidence.opened evidence.certified writable shown.shows

-- its holder is the one for whom the ticket is sealed
pub evidence_holder : (dir : DirectoryValue) (at : ℕ) (message : KdcReq) (header : TicketRec) (evidence : Evidence) → evidence_in dir at message header ≡ Some evidence
    → evidence.certified.rec.holder ≡ evidence.opened.holder
evidence_holder dir at message header evidence e =
    certified_holder dir at evidence.opened evidence.certified (evidence_shown dir at message header evidence e).shows

-- the part tells it, and whether the client information agrees
pub evidence_is_told : (dir : DirectoryValue) (at : ℕ) (message : KdcReq) (header : TicketRec) (evidence : Evidence) → evidence_in dir at message header ≡ Some evidence
    → record_of evidence.certified.rec.holder evidence.opened.part ≡ Some (record { rec = evidence.certified.rec; agrees = evidence.certified.agrees })
evidence_is_told dir at message header evidence e =
    certified_is_told dir at evidence.opened evidence.certified (evidence_shown dir at message header evidence e).shows

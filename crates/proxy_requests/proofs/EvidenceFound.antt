-- What is read of an evidence is what its ticket shows.
use Rattle.std.proofs.Common.{◌≡◌, ◌∙◌, ℕ, Option, Some, None, Result, Ok, Err, refl, ap}
use Rattle.std.specs.Prelude.{option_and_then, option_map}
use Rattle.kdc_prelude.specs.Answers.{or_fault}
use Rattle.kdc_prelude.specs.Results.{◌>>=◌}
use Rattle.kdc_prelude.specs.Verdicts.{first_failing}
use Rattle.krb_tickets.specs.declared.ticket.Ticket.{Ticket}
use Rattle.krb_messages.specs.declared.kdc_req.KdcReq.{KdcReq}
use Rattle.kdc_records.specs.declared.rule.Rule.{Rule}
use Rattle.kdc_records.specs.declared.ticket_rec.TicketRec.{TicketRec}
use Rattle.dir_records.specs.DirectoryValue.{DirectoryValue}
use Rattle.ticket_codec.specs.declared.holding.Holding.{Holding}
use Rattle.ticket_codec.specs.declared.opening.Opened.{Opened}
use Rattle.ticket_codec.specs.declared.presenting.Certified.{Certified}
use Rattle.ticket_codec.specs.declared.role.Role.{Role}
use Rattle.ticket_codec.specs.Opening.{opened_with, unsealed}
use Rattle.ticket_codec.specs.Presented.{certified, presented, shown, Shown, shown_of}
use Rattle.ticket_codec.specs.Roles.{pac_rule}
use Rattle.ticket_codec.specs.Rules.{refusal_of}
use Rattle.ticket_codec.proofs.Steps.{Opens, unsealed_opens}
use Rattle.proxy_requests.specs.declared.evidence.Evidence.{Evidence}
use Rattle.proxy_requests.specs.Evidences.{evidence_by, evidence_given, evidence_in, EvidenceKept, evidence_of, evidence_reading_rules, evidence_with, requestor_role, ticket_asked}
use Rattle.proxy_requests.specs.EvidenceSteps.{evidence_read, evidence_shown}
use Rattle.proxy_requests.proofs.FirstEvidence.{first_read, told_in_role, told_of}

-- ---- of a ticket in a role

certified_found : (role : Role) (opened : Opened) (found : Option Certified) (evidence : Evidence)
    → (let r : Result Evidence Rule = or_fault (pac_rule role) found >>= λ c. Ok (evidence_with opened c) in r) ≡ Ok evidence → option_map (evidence_with opened) found ≡ Some evidence
certified_found role opened None evidence h = absurd (cc)
certified_found role opened (Some c) evidence h = cc

opened_found : (dir : DirectoryValue) (at : ℕ) (role : Role) (ticket : Ticket) (evidence : Evidence) (r : Result Opened Rule) → unsealed dir at role ticket ≡ r
    → (let e : Result Evidence Rule = r >>= λ opened. presented dir at role opened >>= λ c. Ok (evidence_with opened c) in e) ≡ Ok evidence → evidence_of dir at ticket role ≡ Some evidence
unfolding presented
opened_found dir at role ticket evidence (Err rule) u h = absurd (cc)
opened_found dir at role ticket evidence (Ok opened) u h =
    let o : Opens dir at role ticket opened = unsealed_opens dir at role ticket opened u in
    ap (λ (held : Option Holding). option_and_then (evidence_by dir at) (option_and_then (opened_with ticket) held)) o.found
    ∙ ap (option_and_then (evidence_by dir at)) o.opens
    ∙ certified_found role opened (certified dir at opened) evidence h

shown_found : (dir : DirectoryValue) (at : ℕ) (role : Role) (ticket : Ticket) (evidence : Evidence) → evidence_shown dir at role ticket ≡ Ok evidence → evidence_of dir at ticket role ≡ Some evidence
shown_found dir at role ticket evidence h = opened_found dir at role ticket evidence (unsealed dir at role ticket) refl h

-- ---- of a request

given_found : (dir : DirectoryValue) (at : ℕ) (role : Option Role) (ticket : Ticket) (evidence : Evidence) → told_in_role dir at role ticket ≡ Ok evidence → evidence_given dir at role ticket ≡ Some evidence
given_found dir at None ticket evidence h = absurd (cc)
given_found dir at (Some role) ticket evidence h = shown_found dir at role ticket evidence h

asked_found : (dir : DirectoryValue) (at : ℕ) (role : Option Role) (ticket : Option Ticket) (evidence : Evidence) → told_of dir at role ticket ≡ Ok evidence
    → option_and_then (evidence_given dir at role) ticket ≡ Some evidence
asked_found dir at role None evidence h = absurd (cc)
asked_found dir at role (Some ticket) evidence h = given_found dir at role ticket evidence h

pub read_found : (dir : DirectoryValue) (at : ℕ) (message : KdcReq) (header : TicketRec) (evidence : Evidence) → evidence_read dir at message header ≡ Ok evidence → evidence_in dir at message header ≡ Some evidence
unfolding evidence_read evidence_in
read_found dir at message header evidence h = asked_found dir at (requestor_role dir at header) (ticket_asked message) evidence h

-- ---- what is known where no rule fails

certified_shows : (opened : Opened) (evidence : Evidence) (r : Result Certified Rule) → (let e : Result Evidence Rule = r >>= λ c. Ok (evidence_with opened c) in e) ≡ Ok evidence
    → (let s : Result Shown Rule = r >>= λ c. Ok (shown_of opened c) in s) ≡ Ok (shown_of evidence.opened evidence.certified)
certified_shows opened evidence (Err rule) h = absurd (cc)
certified_shows opened evidence (Ok c) h =
    let same : evidence_with opened c ≡ evidence = cc in
    ap (λ (e : Evidence). let s : Result Shown Rule = Ok (shown_of e.opened e.certified) in s) same

opened_shows : (dir : DirectoryValue) (at : ℕ) (role : Role) (evidence : Evidence) (r : Result Opened Rule)
    → (let e : Result Evidence Rule = r >>= λ opened. presented dir at role opened >>= λ c. Ok (evidence_with opened c) in e) ≡ Ok evidence
    → (let s : Result Shown Rule = r >>= λ opened. presented dir at role opened >>= λ c. Ok (shown_of opened c) in s) ≡ Ok (shown_of evidence.opened evidence.certified)
opened_shows dir at role evidence (Err rule) h = absurd (cc)
opened_shows dir at role evidence (Ok opened) h = certified_shows opened evidence (presented dir at role opened) h

shown_shows : (dir : DirectoryValue) (at : ℕ) (role : Role) (ticket : Ticket) (evidence : Evidence) → evidence_shown dir at role ticket ≡ Ok evidence
    → shown dir at role ticket ≡ Ok (shown_of evidence.opened evidence.certified)
unfolding shown
shown_shows dir at role ticket evidence h = opened_shows dir at role evidence (unsealed dir at role ticket) h

in_request : (dir : DirectoryValue) (at : ℕ) (message : KdcReq) (header : TicketRec) (ticket : Ticket) (role : Role) → ticket_asked message ≡ Some ticket → requestor_role dir at header ≡ Some role
    → evidence_in dir at message header ≡ evidence_of dir at ticket role
unfolding evidence_in
in_request dir at message header ticket role asked given =
    ap (option_and_then (evidence_given dir at (requestor_role dir at header))) asked
    ∙ ap (λ (found : Option Role). evidence_given dir at found ticket) given

shown_kept : (dir : DirectoryValue) (at : ℕ) (message : KdcReq) (header : TicketRec) (ticket : Ticket) (role : Role) → ticket_asked message ≡ Some ticket → requestor_role dir at header ≡ Some role
    → (r : Result Evidence Rule) → evidence_shown dir at role ticket ≡ r → refusal_of r ≡ None → EvidenceKept dir at message header
shown_kept dir at message header ticket role asked given (Err rule) e h = absurd (cc)
shown_kept dir at message header ticket role asked given (Ok evidence) e h = record {
  ticket = ticket;
  role = role;
  evidence = evidence;
  asked = asked;
  given = given;
  found = in_request dir at message header ticket role asked given ∙ shown_found dir at role ticket evidence e;
  shows = shown_shows dir at role ticket evidence e;
}

told_kept : (dir : DirectoryValue) (at : ℕ) (message : KdcReq) (header : TicketRec) (role : Option Role) (ticket : Option Ticket) → requestor_role dir at header ≡ role → ticket_asked message ≡ ticket
    → refusal_of (told_of dir at role ticket) ≡ None → EvidenceKept dir at message header
told_kept dir at message header role None given asked h = absurd (cc)
told_kept dir at message header None (Some ticket) given asked h = absurd (cc)
told_kept dir at message header (Some role) (Some ticket) given asked h = shown_kept dir at message header ticket role asked given (evidence_shown dir at role ticket) refl h

read_kept : (dir : DirectoryValue) (at : ℕ) (message : KdcReq) (header : TicketRec) → refusal_of (evidence_read dir at message header) ≡ None → EvidenceKept dir at message header
unfolding evidence_read
read_kept dir at message header h = told_kept dir at message header (requestor_role dir at header) (ticket_asked message) refl refl h

pub evidence_kept : (dir : DirectoryValue) (at : ℕ) (message : KdcReq) (header : TicketRec) → first_failing (evidence_reading_rules dir at message header) ≡ None → EvidenceKept dir at message header
evidence_kept dir at message header h = read_kept dir at message header (first_read dir at message header ∙ h)

-- What a call answers of an evidence that is read.
use Rattle.std.proofs.Common.{◌≡◌, ◌≢◌, ◌∙◌, ℕ, Some, None, Result, Ok, Err, sym, subst, ap}
use Rattle.std.specs.Prelude.{IfErr, IfOk, IsErr, IsErrAnd}
use Rattle.kdc_prelude.specs.Answers.{Answers}
use Rattle.kdc_prelude.specs.Results.{◌>>=◌}
use Rattle.kdc_prelude.specs.Verdicts.{first_failing}
use Rattle.krb_tickets.specs.declared.ticket.Ticket.{Ticket}
use Rattle.krb_messages.specs.declared.kdc_req.KdcReq.{KdcReq}
use Rattle.kdc_records.specs.declared.rule.Rule.{Rule}
use Rattle.kdc_records.specs.declared.ticket_rec.TicketRec.{TicketRec}
use Rattle.dir_records.specs.DirectoryValue.{DirectoryValue}
use Rattle.ticket_codec.specs.declared.fault.ShowFault.{ShowFault}
use Rattle.ticket_codec.specs.declared.fault.ShowFault.TheVariants.{Deny, NoMemory}
use Rattle.ticket_codec.specs.declared.opening.Opened.{Opened}
use Rattle.ticket_codec.specs.declared.presenting.Certified.{Certified}
use Rattle.ticket_codec.specs.declared.role.Role.{Role}
use Rattle.ticket_codec.specs.Denied.{denied}
use Rattle.ticket_codec.specs.Opening.{unsealed}
use Rattle.ticket_codec.specs.Presented.{presented}
use Rattle.ticket_codec.specs.Rules.{refusal_of}
use Rattle.tgs_requests.specs.HeaderSteps.{IsDenial}
use Rattle.tgs_requests.proofs.FirstHeader.{not_denied}
use Rattle.proxy_requests.specs.declared.evidence.Evidence.{Evidence}
use Rattle.proxy_requests.specs.Evidences.{evidence_in, evidence_reading_rules, evidence_with}
use Rattle.proxy_requests.specs.EvidenceSteps.{evidence_read, evidence_shown}
use Rattle.proxy_requests.proofs.EvidenceFound.{read_found}
use Rattle.proxy_requests.proofs.FirstEvidence.{first_read}

-- ---- step by step

-- a fault of a step is that of the reading
pub carried : (result : Result Evidence ShowFault) (fault : ShowFault) (reading : Result Evidence ShowFault) → IsErr result × IsErrAnd result (λ told. told ≡ fault)
    → (fault ≢ NoMemory → reading ≡ Err fault) → Answers NoMemory result reading
carried (Ok evidence) fault reading h denies = absurd h.1
carried (Err told) fault reading h denies = subst (λ (f : ShowFault). f ≢ NoMemory → reading ≡ Err f) (sym h.1) denies

-- a step that is denied ends the reading
ended : {X Y : Type 0} (r : Result X Rule) (next : X → Result Y Rule) (fault : ShowFault) → denied r ≡ Err fault → denied (r >>= next) ≡ Err fault
ended (Ok x) next fault h = absurd (cc)
ended {X} {Y} (Err rule) next fault h =
    let same : Deny rule ≡ fault = cc in
    ap (λ (f : ShowFault). let told : Result Y ShowFault = Err f in told) same

abbrev after_opening : DirectoryValue → ℕ → Role → Opened → Result Evidence Rule
after_opening dir at role opened = presented dir at role opened >>= λ certified. Ok (evidence_with opened certified)

pub opening_denied : (dir : DirectoryValue) (at : ℕ) (role : Role) (ticket : Ticket) (fault : ShowFault) → (fault ≢ NoMemory → denied (unsealed dir at role ticket) ≡ Err fault)
    → fault ≢ NoMemory → denied (evidence_shown dir at role ticket) ≡ Err fault
opening_denied dir at role ticket fault told other = ended (unsealed dir at role ticket) (after_opening dir at role) fault (told other)

with_opened : (dir : DirectoryValue) (at : ℕ) (role : Role) (ticket : Ticket) (opened : Opened) → denied (unsealed dir at role ticket) ≡ Ok opened
    → evidence_shown dir at role ticket ≡ after_opening dir at role opened
with_opened dir at role ticket opened opens =
    ap (λ (r : Result Opened Rule). r >>= after_opening dir at role) (not_denied (unsealed dir at role ticket) opened opens)

pub reading_denied : (dir : DirectoryValue) (at : ℕ) (role : Role) (ticket : Ticket) (opened : Opened) (fault : ShowFault) → denied (unsealed dir at role ticket) ≡ Ok opened
    → (fault ≢ NoMemory → denied (presented dir at role opened) ≡ Err fault) → fault ≢ NoMemory → denied (evidence_shown dir at role ticket) ≡ Err fault
reading_denied dir at role ticket opened fault opens told other =
    let next = λ (certified : Certified). let found : Result Evidence Rule = Ok (evidence_with opened certified) in found in
    ap denied (with_opened dir at role ticket opened opens) ∙ ended (presented dir at role opened) next fault (told other)

pub evidence_told : (dir : DirectoryValue) (at : ℕ) (role : Role) (ticket : Ticket) (opened : Opened) (certified : Certified) → denied (unsealed dir at role ticket) ≡ Ok opened
    → denied (presented dir at role opened) ≡ Ok certified → denied (evidence_shown dir at role ticket) ≡ Ok (evidence_with opened certified)
evidence_told dir at role ticket opened certified opens shows =
    let next = λ (c : Certified). let found : Result Evidence Rule = Ok (evidence_with opened c) in found in
    ap denied (with_opened dir at role ticket opened opens ∙ ap (λ (r : Result Certified Rule). r >>= next) (not_denied (presented dir at role opened) certified shows))

-- ---- what a call answers

denial : {X : Type 0} (r : Result X Rule) (rule : Rule) → denied r ≡ Err (Deny rule) → refusal_of r ≡ Some rule
denial (Ok y) rule h = absurd (cc)
denial (Err other) rule h = cc

pub no_rule_fails : (dir : DirectoryValue) (at : ℕ) (message : KdcReq) (header : TicketRec) (result : Result Evidence ShowFault) → Answers NoMemory result (denied (evidence_read dir at message header))
    → IfOk result (λ evidence. first_failing (evidence_reading_rules dir at message header) ≡ None)
no_rule_fails dir at message header (Ok evidence) h = sym (first_read dir at message header) ∙ ap refusal_of (not_denied (evidence_read dir at message header) evidence h)
no_rule_fails dir at message header (Err fault) h = tt

pub evidence_is_found : (dir : DirectoryValue) (at : ℕ) (message : KdcReq) (header : TicketRec) (result : Result Evidence ShowFault) → Answers NoMemory result (denied (evidence_read dir at message header))
    → IfOk result (λ evidence. evidence_in dir at message header ≡ Some evidence)
evidence_is_found dir at message header (Ok evidence) h = read_found dir at message header evidence (not_denied (evidence_read dir at message header) evidence h)
evidence_is_found dir at message header (Err fault) h = tt

pub first_rule_denies : (dir : DirectoryValue) (at : ℕ) (message : KdcReq) (header : TicketRec) (result : Result Evidence ShowFault) → Answers NoMemory result (denied (evidence_read dir at message header))
    → IfErr result (IsDenial (first_failing (evidence_reading_rules dir at message header)))
first_rule_denies dir at message header (Ok evidence) h = tt
first_rule_denies dir at message header (Err (Deny rule)) h = sym (first_read dir at message header) ∙ denial (evidence_read dir at message header) rule (h (λ e. absurd (cc)))
first_rule_denies dir at message header (Err NoMemory) h = tt

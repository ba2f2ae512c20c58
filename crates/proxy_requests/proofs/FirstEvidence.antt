-- The rule that is told of an evidence is the first that fails.
use Rattle.std.proofs.Common.{◌≡◌, ◌∙◌, ℕ, Bool, true, false, List, [], ◌∷◌, Option, Some, None, Result, Ok, Err, refl}
use Rattle.std.specs.Prelude.{is_some}
use Rattle.kdc_prelude.specs.Answers.{or_fault}
use Rattle.kdc_prelude.specs.Results.{◌>>=◌}
use Rattle.kdc_prelude.specs.Verdicts.{first_failing}
use Rattle.krb_tickets.specs.declared.ticket.Ticket.{Ticket}
use Rattle.krb_messages.specs.declared.kdc_req.KdcReq.{KdcReq}
use Rattle.kdc_records.specs.declared.rule.Rule.{Rule}
use Rattle.kdc_records.specs.declared.rule.Rule.TheVariants.{P1, P2, P3, P4, P5}
use Rattle.kdc_records.specs.declared.ticket_rec.TicketRec.{TicketRec}
use Rattle.dir_records.specs.DirectoryValue.{DirectoryValue}
use Rattle.route_rules.specs.Requestor.{requestor_account}
use Rattle.ticket_codec.specs.declared.opening.Opened.{Opened}
use Rattle.ticket_codec.specs.declared.presenting.Certified.{Certified}
use Rattle.ticket_codec.specs.declared.role.Role.{Role}
use Rattle.ticket_codec.specs.declared.role.Role.TheVariants.{Evidence as AsEvidence, CrossEvidence}
use Rattle.ticket_codec.specs.Opening.{unsealed}
use Rattle.ticket_codec.specs.Presented.{presented, shown, shown_of}
use Rattle.ticket_codec.specs.Rules.{evidence_is_for_requestor, evidence_key_fits, evidence_opens, evidence_pac_is_right, refusal_of}
use Rattle.ticket_codec.proofs.FirstRules.{first_shown}
use Rattle.proxy_rules.specs.ProxyRules.{requestor_is_local}
use Rattle.proxy_requests.specs.declared.evidence.Evidence.{Evidence}
use Rattle.proxy_requests.specs.Evidences.{evidence_reading_rules, evidence_with, of_evidence, requestor_role, role_of, ticket_asked}
use Rattle.proxy_requests.specs.EvidenceSteps.{evidence_read, evidence_shown}

-- ---- the same rule is told of what the ticket shows

certified_alike : (opened : Opened) (r : Result Certified Rule) → refusal_of (r >>= λ c. Ok (evidence_with opened c)) ≡ refusal_of (r >>= λ c. Ok (shown_of opened c))
certified_alike opened (Ok c) = refl
certified_alike opened (Err rule) = refl

opened_alike : (dir : DirectoryValue) (at : ℕ) (role : Role) (r : Result Opened Rule)
    → refusal_of (r >>= λ opened. presented dir at role opened >>= λ c. Ok (evidence_with opened c)) ≡ refusal_of (r >>= λ opened. presented dir at role opened >>= λ c. Ok (shown_of opened c))
opened_alike dir at role (Ok opened) = certified_alike opened (presented dir at role opened)
opened_alike dir at role (Err rule) = refl

shown_alike : (dir : DirectoryValue) (at : ℕ) (role : Role) (ticket : Ticket) → refusal_of (evidence_shown dir at role ticket) ≡ refusal_of (shown dir at role ticket)
unfolding shown
shown_alike dir at role ticket = opened_alike dir at role (unsealed dir at role ticket)

-- ---- of a ticket, whose role is given or not

abbrev pub told_in_role : DirectoryValue → ℕ → Option Role → Ticket → Result Evidence Rule
told_in_role dir at role ticket = or_fault P2 role >>= λ given. evidence_shown dir at given ticket

abbrev rows_in_role : DirectoryValue → ℕ → Option Role → Option Ticket → List (Rule × Bool)
rows_in_role dir at role ticket =
    (P2, of_evidence (evidence_is_for_requestor dir at) role ticket)
    ∷ (P3, of_evidence (evidence_key_fits dir at) role ticket)
    ∷ (P4, of_evidence (evidence_opens dir at) role ticket)
    ∷ (P5, of_evidence (evidence_pac_is_right dir at) role ticket)
    ∷ []

first_in_role : (dir : DirectoryValue) (at : ℕ) (is_local : Bool) (account : Option ℕ) (ticket : Ticket)
    → refusal_of (told_in_role dir at (role_of is_local account) ticket) ≡ first_failing (rows_in_role dir at (role_of is_local account) (Some ticket))
first_in_role dir at true None ticket = refl
first_in_role dir at true (Some account) ticket = shown_alike dir at (AsEvidence account) ticket ∙ first_shown dir at (AsEvidence account) ticket
first_in_role dir at false account ticket = shown_alike dir at CrossEvidence ticket ∙ first_shown dir at CrossEvidence ticket

-- ---- of the additional ticket, if there is exactly one

abbrev pub told_of : DirectoryValue → ℕ → Option Role → Option Ticket → Result Evidence Rule
told_of dir at role ticket = or_fault P1 ticket >>= told_in_role dir at role

first_told : (dir : DirectoryValue) (at : ℕ) (is_local : Bool) (account : Option ℕ) (ticket : Option Ticket)
    → refusal_of (told_of dir at (role_of is_local account) ticket) ≡ first_failing ((P1, is_some ticket) ∷ rows_in_role dir at (role_of is_local account) ticket)
first_told dir at is_local account None = refl
first_told dir at is_local account (Some ticket) = first_in_role dir at is_local account ticket

pub first_read : (dir : DirectoryValue) (at : ℕ) (message : KdcReq) (header : TicketRec) → refusal_of (evidence_read dir at message header) ≡ first_failing (evidence_reading_rules dir at message header)
unfolding evidence_read requestor_role
first_read dir at message header = first_told dir at (requestor_is_local dir at header) (requestor_account dir at header.client) (ticket_asked message)

-- The evidence of a request for S4U2proxy, read step by step: the first step that fails tells its rule.
use Rattle.std.specs.Prelude.{ℕ, Result, Ok}
use Rattle.kdc_prelude.specs.Answers.{or_fault}
use Rattle.kdc_prelude.specs.Results.{◌>>=◌}
use Rattle.krb_tickets.specs.declared.ticket.Ticket.{Ticket}
use Rattle.krb_messages.specs.declared.kdc_req.KdcReq.{KdcReq}
use Rattle.kdc_records.specs.declared.rule.Rule.{Rule}
use Rattle.kdc_records.specs.declared.rule.Rule.TheVariants.{P1, P2}
use Rattle.kdc_records.specs.declared.ticket_rec.TicketRec.{TicketRec}
use Rattle.dir_records.specs.DirectoryValue.{DirectoryValue}
use Rattle.ticket_codec.specs.declared.role.Role.{Role}
use Rattle.ticket_codec.specs.Opening.{unsealed}
use Rattle.ticket_codec.specs.Presented.{presented}
use Rattle.proxy_requests.specs.declared.evidence.Evidence.{Evidence}
use Rattle.proxy_requests.specs.Evidences.{evidence_with, requestor_role, ticket_asked}

-- what a ticket shows in a role of evidence, or the first of P2 to P5 that fails
abbrev pub evidence_shown : DirectoryValue → ℕ → Role → Ticket → Result Evidence Rule
evidence_shown dir at role ticket =
    unsealed dir at role ticket >>= λ opened. presented dir at role opened >>= λ certified. Ok (evidence_with opened certified)

-- the evidence, or the first of P1 to P5 that fails; where the requestor has no account, the ticket is not for it
unfoldable pub evidence_read : DirectoryValue → ℕ → KdcReq → TicketRec → Result Evidence Rule
evidence_read dir at message header =
    or_fault P1 (ticket_asked message) >>= λ ticket.
    or_fault P2 (requestor_role dir at header) >>= λ role.
    evidence_shown dir at role ticket

use Rattle.std.proofs.Common.{List, ℕ, Result, sym, subst}
use Rattle.kdc_prelude.specs.Answers.{Answers}
use Rattle.der_core.specs.Codec.{whole}
use Rattle.kdc_records.specs.declared.rule.Rule.{Rule}
use Rattle.krb_tickets.specs.Ticket.{ticket}
use Rattle.ticket_explain.specs.declared.fault.ExplainFault.TheVariants.{NoMemory}
use Rattle.ticket_explain.specs.Explained.{denied}
use Rattle.ticket_explain.proofs.Lengths.{few_sealed}
use Rattle.ticket_explain.proofs.Told.{reading_told}
use Rattle.ticket_explain.proofs.explanation.explain_bytes.Goals as goal

pub explain_ticket-requires : goal.explain_ticket-requires
explain_ticket-requires c = few_sealed c.in-Ok.ticket c.args.bytes.now c.requires c.in-Ok.ensures.short

pub returns-in-Ok : goal.returns-in-Ok
returns-in-Ok c =
    let same = reading_told c.args.dir.now (whole ticket c.args.bytes.now) c.in-Ok.ticket c.in-Ok.ensures.exact in
    let P : Result (List ℕ) Rule → Type 0 = λ r. Answers NoMemory c.explain_ticket.result (denied r) in
    subst P (sym same) c.explain_ticket.ensures

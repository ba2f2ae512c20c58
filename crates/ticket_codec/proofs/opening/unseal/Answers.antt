use Rattle.std.proofs.Common.{◌≡◌, ◌∙◌, Err, Some, Result, ap, sym}
use Rattle.kdc_records.specs.declared.rule.Rule.{Rule}
use Rattle.ticket_codec.specs.declared.fault.ShowFault.{ShowFault}
use Rattle.ticket_codec.specs.declared.fault.ShowFault.TheVariants.{Deny}
use Rattle.ticket_codec.specs.declared.opening.Opened.{Opened}
use Rattle.ticket_codec.specs.Denied.{denied}
use Rattle.ticket_codec.specs.Opening.{opened_by}
use Rattle.ticket_codec.specs.Roles.{holding}
use Rattle.ticket_codec.proofs.Denials.{opened_told, unopened_told}
use Rattle.ticket_codec.proofs.Steps.{unsealed_with}
use Rattle.ticket_codec.proofs.opening.unseal.Goals as goal

pub returns-in-Ok-clause-exact : goal.returns-in-Ok-clause-exact
returns-in-Ok-clause-exact c =
    let a = c.args in
    let held = c.in-Some.held in
    let known : holding a.dir.now a.realm a.role a.ticket.now ≡ Some held = sym c.in_ok-held.ensures ∙ c.in-Some.is in
    ap denied (unsealed_with a.dir.now a.realm a.role a.ticket.now held known) ∙ opened_told a.role (opened_by a.ticket.now held) c.in-Ok.opened c.in-Ok.ensures.exact

pub returns-in-Err-Unopened-clause-exact : goal.returns-in-Err-Unopened-clause-exact
returns-in-Err-Unopened-clause-exact c = λ _.
    let a = c.args in
    let held = c.in-Some.held in
    let known : holding a.dir.now a.realm a.role a.ticket.now ≡ Some held = sym c.in_ok-held.ensures ∙ c.in-Some.is in
    ap denied (unsealed_with a.dir.now a.realm a.role a.ticket.now held known)
    ∙ unopened_told a.role (opened_by a.ticket.now held) c.in-Err-Unopened.unopened (rw c.in-Err-Unopened.field-0-is at c.in-Err-Unopened.ensures.exact)
    ∙ ap (λ (rule : Rule). let told : Result Opened ShowFault = Err (Deny rule) in told) (sym c.unopened_rule.ensures)

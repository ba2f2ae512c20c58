use Rattle.std.proofs.Common.{List, ℕ, Result, Ok, Err, ap, sym, subst, ◌∙◌}
use Rattle.kdc_prelude.specs.Answers.{Answers}
use Rattle.kdc_prelude.specs.Results.{◌>>=◌}
use Rattle.kdc_records.specs.declared.rule.Rule.{Rule}
use Rattle.ticket_codec.specs.declared.fault.Unopened.{Unopened}
use Rattle.ticket_codec.specs.declared.opening.Opened.{Opened}
use Rattle.ticket_codec.specs.Opening.{opened_by}
use Rattle.ticket_explain.specs.declared.fault.ExplainFault.{ExplainFault}
use Rattle.ticket_explain.specs.declared.fault.ExplainFault.TheVariants.{Deny, NoMemory}
use Rattle.ticket_explain.specs.Explained.{denied, ruled, told_of, told_opened}
use Rattle.ticket_explain.proofs.Told.{opened_is, unopened_is}
use Rattle.ticket_explain.proofs.explanation.tell.Goals as goal

pub returns-in-Ok : goal.returns-in-Ok
unfolding told_of
returns-in-Ok c =
    let a = c.args in
    let opened = c.in-Ok.opened in
    let reading = opened_by a.ticket.now a.held.holding in
    let next = told_opened a.dir.now a.held.realm a.ticket.now a.held.text in
    let is = opened_is reading opened c.in-Ok.ensures.exact in
    let same = ap (λ (text : List ℕ). told_opened a.dir.now a.held.realm a.ticket.now text opened) c.as_str.ensures ∙ sym (ap (λ (r : Result Opened Unopened). ruled r >>= next) is) in
    let P : Result (List ℕ) Rule → Type 0 = λ r. Answers NoMemory c.tell_opened.result (denied r) in
    subst P same c.tell_opened.ensures

pub returns-in-Err-Unopened : goal.returns-in-Err-Unopened
unfolding told_of
returns-in-Err-Unopened c = λ _.
    let a = c.args in
    let reading = opened_by a.ticket.now a.held.holding in
    let next = told_opened a.dir.now a.held.realm a.ticket.now a.held.text in
    let is = unopened_is reading c.in-Err-Unopened.unopened (rw c.in-Err-Unopened.field-0-is at c.in-Err-Unopened.ensures.exact) in
    ap (λ (r : Result Opened Unopened). denied (ruled r >>= next)) is ∙ ap (λ (rule : Rule). let told : Result (List ℕ) ExplainFault = Err (Deny rule) in told) (sym (rw c.in-Err-Unopened.field-0-is at c.opening_rule.ensures))

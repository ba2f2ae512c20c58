use Rattle.std.proofs.Common.{◌∙◌, None, Ok, Result, Some, ap, subst, sym}
use Rattle.der_core.specs.Codec.{whole}
use Rattle.krb_messages.specs.KrbError.{krb_error}
use Rattle.s4u_client.specs.declared.cred.Cred.{Cred}
use Rattle.s4u_client.specs.declared.fault.FinishFault.{FinishFault}
use Rattle.s4u_client.specs.Finishing.{IsFound, awaits_as, finished, not_denied, part_of, reply_in}
use Rattle.s4u_client.specs.Writable.{IsCred}
use Rattle.s4u_client.proofs.Differences.{compared_told, denied_plain, part_plain, reply_plain, step_told, told}
use Rattle.s4u_client.proofs.Replies.{cred_is_found, found_is_cred}
use Rattle.s4u_client.proofs.Steps.{carried, denied, judges, unopened, unread}
use Rattle.s4u_client.proofs.finishing.finish.Goals as goal

pub returns-in_err-not_denied-clause-exact : goal.returns-in_err-not_denied-clause-exact
returns-in_err-not_denied-clause-exact c =
    let a = c.args in
    carried c.from_residual.result c.in_err-not_denied.field-0.0 (finished a.pending.now a.reply.now) c.from_residual.ensures
    (λ other. denied a.pending.now a.reply.now c.in_err-not_denied.field-0.0 (c.in_err-not_denied.ensures other))

pub returns-in_err-message-clause-exact : goal.returns-in_err-message-clause-exact
returns-in_err-message-clause-exact c =
    let a = c.args in
    let fault = c.in_err-message.field-0.0 in
    carried c.from_residual-in_err-message.result fault (finished a.pending.now a.reply.now) c.from_residual-in_err-message.ensures
    (λ other. unread a.pending.now a.reply.now c.in_ok-not_denied.field-0 fault c.in_ok-not_denied.ensures (c.in_err-message.ensures.exact other))

pub returns-in_err-part-clause-exact : goal.returns-in_err-part-clause-exact
returns-in_err-part-clause-exact c =
    let a = c.args in
    let fault = c.in_err-part.field-0.0 in
    carried c.from_residual-in_err-part.result fault (finished a.pending.now a.reply.now) c.from_residual-in_err-part.ensures
    (λ other. unopened a.pending.now a.reply.now c.in_ok-not_denied.field-0 c.in_ok-message.message fault c.in_ok-not_denied.ensures c.in_ok-message.ensures.exact (c.in_err-part.ensures.exact other))

pub returns-in_err-compare-clause-exact : goal.returns-in_err-compare-clause-exact
returns-in_err-compare-clause-exact c =
    let a = c.args in
    let fault = c.in_err-compare.field-0.0 in
    carried c.from_residual-in_err-compare.result fault (finished a.pending.now a.reply.now) c.from_residual-in_err-compare.ensures
    (λ other. judges a.pending.now a.reply.now c.in_ok-not_denied.field-0 c.in_ok-message.message c.in_ok-part.part (Some fault)
    c.in_ok-not_denied.ensures c.in_ok-message.ensures.exact c.in_ok-part.ensures.exact (c.in_err-compare.ensures.first other))

pub returns-clause-exact : goal.returns-clause-exact
returns-clause-exact c =
    let a = c.args in
    judges a.pending.now a.reply.now c.in_ok-not_denied.field-0 c.in_ok-message.message c.in_ok-part.part None
    c.in_ok-not_denied.ensures c.in_ok-message.ensures.exact c.in_ok-part.ensures.exact c.in_ok-compare.ensures.first
    ∙ ap (λ (cred : Cred). let found : Result Cred FinishFault = Ok cred in found) (sym c.cred_of.ensures)

pub returns-clause-found : goal.returns-clause-found
returns-clause-found c =
    subst (IsFound c.args.reply.now) (sym c.cred_of.ensures) (cred_is_found c.args.reply.now c.in_ok-message.message c.in_ok-part.part c.in_ok-message.ensures.found c.in_ok-part.ensures.fits)

pub returns-clause-cred : goal.returns-clause-cred
returns-clause-cred c = λ few.
    let found = cred_is_found c.args.reply.now c.in_ok-message.message c.in_ok-part.part c.in_ok-message.ensures.found c.in_ok-part.ensures.fits in
    subst IsCred (sym c.cred_of.ensures) (found_is_cred c.args.reply.now _ found few)

-- ---- the texts of a difference

pub returns-in_err-not_denied-clause-cause : goal.returns-in_err-not_denied-clause-cause
returns-in_err-not_denied-clause-cause c = λ client want.
    let fault = c.in_err-not_denied.field-0.0 in
    told c.from_residual.result fault c.from_residual.ensures
    (step_told (not_denied (whole krb_error c.args.reply.now)) fault (denied_plain (whole krb_error c.args.reply.now)) c.in_err-not_denied.ensures)

pub returns-in_err-message-clause-cause : goal.returns-in_err-message-clause-cause
returns-in_err-message-clause-cause c = λ client want.
    let fault = c.in_err-message.field-0.0 in
    let is_as = awaits_as c.args.pending.now in
    told c.from_residual-in_err-message.result fault c.from_residual-in_err-message.ensures
    (step_told (reply_in is_as c.args.reply.now) fault (reply_plain is_as c.args.reply.now) c.in_err-message.ensures.exact)

pub returns-in_err-part-clause-cause : goal.returns-in_err-part-clause-cause
returns-in_err-part-clause-cause c = λ client want.
    let fault = c.in_err-part.field-0.0 in
    told c.from_residual-in_err-part.result fault c.from_residual-in_err-part.ensures
    (step_told (part_of c.args.pending.now c.in_ok-message.message) fault (part_plain c.args.pending.now c.in_ok-message.message) c.in_err-part.ensures.exact)

pub returns-in_err-compare-clause-cause : goal.returns-in_err-compare-clause-cause
returns-in_err-compare-clause-cause c = λ client want.
    let fault = c.in_err-compare.field-0.0 in
    told c.from_residual-in_err-compare.result fault c.from_residual-in_err-compare.ensures
    (compared_told c.args.pending.now c.in_ok-message.message c.in_ok-part.part fault client want c.in_ok-message.ensures.found.fits c.in_ok-part.ensures.fits c.in_err-compare.ensures.first)

pub returns-clause-cause : goal.returns-clause-cause
returns-clause-cause c = λ client want. tt

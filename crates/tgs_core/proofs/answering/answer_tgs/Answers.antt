use Rattle.std.proofs.Common.{◌∙◌, None, Some}
use Rattle.tgs_requests.specs.Askings.{tgs_branch}
use Rattle.tgs_core.proofs.Openings.{IsOpened, answered_granted, told_of}
use Rattle.tgs_core.proofs.TgsVerdicts.{tgs_verdict}
use Rattle.tgs_core.proofs.answering.answer_tgs.Goals as goal

pub deny-requires-clause-rule : goal.deny-requires-clause-rule
deny-requires-clause-rule c =
    let a = c.args in
    let opened : IsOpened a.dir.now a.request.now a.message.now a.realm (tgs_branch a.message.now) = record { read = c.requires.read; found = c.requires.found; asked = c.requires.kind } in
    tgs_verdict a.dir.now a.now a.request.now a.message.now a.realm c.requires.opened opened ∙ (rw c.in-Err-Deny.field-0-is at c.in-Err-Deny.ensures.err)

pub returns-in-Ok-clause-exact : goal.returns-in-Ok-clause-exact
returns-in-Ok-clause-exact c =
    let a = c.args in
    let opened : IsOpened a.dir.now a.request.now a.message.now a.realm (tgs_branch a.message.now) = record { read = c.requires.read; found = c.requires.found; asked = c.requires.kind } in
    let granted = tgs_verdict a.dir.now a.now a.request.now a.message.now a.realm c.requires.opened opened ∙ c.in-Ok.ensures.ok in
    c.granted.ensures
    ∙ (λ i. told_of (c.in-Ok.ensures.value i) (Some (c.tgs_branch.ensures i)) None)
    ∙ answered_granted a.dir.now a.now a.random.now a.request.now a.message.now a.realm (tgs_branch a.message.now) opened granted

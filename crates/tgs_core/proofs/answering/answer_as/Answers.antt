use Rattle.std.proofs.Common.{◌∙◌, List, ℕ, None, Some, ap, sym}
use Rattle.kdc_records.specs.declared.wish.Branch.TheVariants.{Initial}
use Rattle.tgs_core.proofs.Openings.{IsOpened, answered_granted, as_denied, as_granted, told_of}
use Rattle.tgs_core.proofs.answering.answer_as.Goals as goal

pub deny-requires-clause-rule : goal.deny-requires-clause-rule
deny-requires-clause-rule c =
    let a = c.args in
    let opened : IsOpened a.dir.now a.request.now a.message.now a.realm Initial = record { read = c.requires.read; found = c.requires.found; asked = c.requires.asked } in
    as_denied a.dir.now a.now a.request.now a.message.now a.realm c.in-Deny.rule c.requires.opened opened (sym c.in-Deny.is ∙ c.in_ok-rule.ensures.first)

pub reply_as-requires-clause-terms : goal.reply_as-requires-clause-terms
reply_as-requires-clause-terms c =
    let a = c.args in
    let opened : IsOpened a.dir.now a.request.now a.message.now a.realm Initial = record { read = c.requires.read; found = c.requires.found; asked = c.requires.asked } in
    (as_granted a.dir.now a.now a.request.now a.message.now a.realm c.in-Grant.terms c.requires.opened opened (sym c.in-Grant.is ∙ c.in_ok-rule.ensures.first)).1

pub returns-in_ok-reply-in-Grant-clause-exact : goal.returns-in_ok-reply-in-Grant-clause-exact
returns-in_ok-reply-in-Grant-clause-exact c =
    let a = c.args in
    let opened : IsOpened a.dir.now a.request.now a.message.now a.realm Initial = record { read = c.requires.read; found = c.requires.found; asked = c.requires.asked } in
    let granted = as_granted a.dir.now a.now a.request.now a.message.now a.realm c.in-Grant.terms c.requires.opened opened (sym c.in-Grant.is ∙ c.in_ok-rule.ensures.first) in
    c.granted.ensures
    ∙ ap (λ (bytes : List ℕ). told_of bytes (Some Initial) None) c.in_ok-reply-in-Grant.ensures.value
    ∙ answered_granted a.dir.now a.now a.random.now a.request.now a.message.now a.realm Initial opened granted.0

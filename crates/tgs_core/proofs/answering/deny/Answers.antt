use Rattle.std.proofs.Common.{◌≡◌, ◌∙◌, Some}
use Rattle.std.specs.Option.{option_copied}
use Rattle.tgs_core.proofs.Openings.{answered_denied, denial, told_of}
use Rattle.tgs_core.proofs.answering.deny.Goals as goal

pub returns-clause-exact : goal.returns-clause-exact
returns-clause-exact c =
    let a = c.args in
    let made : told_of c.in_ok-error_bytes.field-0 c.noted_branch.result (Some a.rule) ≡ denial a.dir.now a.now (option_copied a.message) a.rule =
    λ i. told_of (c.in_ok-error_bytes.ensures.value i) (c.noted_branch.ensures i) (Some a.rule) in
    made ∙ answered_denied a.dir.now a.now a.random.now a.request.now (option_copied a.message) a.rule c.requires.read c.requires.rule

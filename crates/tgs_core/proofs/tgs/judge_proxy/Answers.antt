use Rattle.std.proofs.Common.{◌∙◌, Some, sym, ap}
use Rattle.kdc_prelude.specs.Verdicts.{first_failing}
use Rattle.proxy_rules.specs.ProxyRules.{SeenEvidence, proxy_decision}
use Rattle.tgs_requests.specs.Askings.{tgs_branch}
use Rattle.tgs_requests.specs.HeaderSteps.{IsDenial}
use Rattle.tgs_core.specs.GrantViews.{presented_seen}
use Rattle.tgs_core.specs.Grants.{Presented}
use Rattle.tgs_core.specs.Requests.{request_to}
use Rattle.tgs_core.specs.Verdicts.{opened_rows}
use Rattle.tgs_core.proofs.JudgedRequests.{branch_allowed, carried_err, evidence_denies, proxy_denies, proxy_grants}
use Rattle.tgs_core.proofs.tgs.judge_proxy.Goals as goal

pub returns-in_err-evidence-clause-err : goal.returns-in_err-evidence-clause-err
returns-in_err-evidence-clause-err c =
    let a = c.args in
    let shown : Presented = presented_seen a.kept.shown in
    let rows = first_failing (opened_rows a.dir.now a.now (request_to a.message.now a.realm) (tgs_branch a.message.now) (Some a.read.now.header)) in
    carried_err (IsDenial rows) c.from_residual.result c.in_err-evidence.field-0.0 c.from_residual.ensures
    (evidence_denies a.dir.now a.now a.message.now a.realm a.read.now.header shown a.kept.aim c.in_err-evidence.field-0.0 c.requires.kept c.requires.asked c.in_err-evidence.ensures.err)

pub returns-in-Deny-clause-err : goal.returns-in-Deny-clause-err
returns-in-Deny-clause-err c =
    let a = c.args in
    let shown : Presented = presented_seen a.kept.shown in
    let found = c.in_ok-evidence in
    let seen = ap (λ (seen : SeenEvidence). proxy_decision a.dir.now a.realm a.now a.read.now.wish shown.rec a.kept.aim seen) c.evidence_view-view.ensures in
    proxy_denies a.dir.now a.now a.message.now a.realm a.read.now.wish a.read.now.header shown a.kept.aim found.evidence c.in-Deny.rule c.requires.kept c.requires.asked c.requires.read.wish
    found.ensures.ok found.ensures.found (sym c.in-Deny.is ∙ c.decide_proxy.ensures.first ∙ seen)

pub reply_proxy-requires-clause-given : goal.reply_proxy-requires-clause-given
reply_proxy-requires-clause-given c =
    let a = c.args in
    let shown : Presented = presented_seen a.kept.shown in
    let found = c.in_ok-evidence in
    let seen = ap (λ (seen : SeenEvidence). proxy_decision a.dir.now a.realm a.now a.read.now.wish shown.rec a.kept.aim seen) c.evidence_view-view.ensures in
    (proxy_grants a.dir.now a.now a.message.now a.realm a.read.now.wish a.read.now.header shown a.kept.aim found.evidence c.in-Grant.terms c.requires.kept c.requires.asked c.requires.read.wish
    found.ensures.ok found.ensures.found (sym c.in-Grant.is ∙ c.decide_proxy.ensures.first ∙ seen)).given

pub reply_proxy-requires-clause-allowed : goal.reply_proxy-requires-clause-allowed
reply_proxy-requires-clause-allowed c =
    let a = c.args in
    let shown : Presented = presented_seen a.kept.shown in
    let found = c.in_ok-evidence in
    let seen = ap (λ (seen : SeenEvidence). proxy_decision a.dir.now a.realm a.now a.read.now.wish shown.rec a.kept.aim seen) c.evidence_view-view.ensures in
    let granted = proxy_grants a.dir.now a.now a.message.now a.realm a.read.now.wish a.read.now.header shown a.kept.aim found.evidence c.in-Grant.terms c.requires.kept c.requires.asked c.requires.read.wish
    found.ensures.ok found.ensures.found (sym c.in-Grant.is ∙ c.decide_proxy.ensures.first ∙ seen) in
    branch_allowed a.dir.now a.now a.message.now a.realm a.read.now.header c.requires.kind c.requires.read.ruled c.requires.read.header granted.rows

pub returns-clause-ok : goal.returns-clause-ok
returns-clause-ok c =
    let a = c.args in
    let shown : Presented = presented_seen a.kept.shown in
    let found = c.in_ok-evidence in
    let seen = ap (λ (seen : SeenEvidence). proxy_decision a.dir.now a.realm a.now a.read.now.wish shown.rec a.kept.aim seen) c.evidence_view-view.ensures in
    (proxy_grants a.dir.now a.now a.message.now a.realm a.read.now.wish a.read.now.header shown a.kept.aim found.evidence c.in-Grant.terms c.requires.kept c.requires.asked c.requires.read.wish
    found.ensures.ok found.ensures.found (sym c.in-Grant.is ∙ c.decide_proxy.ensures.first ∙ seen)).rows

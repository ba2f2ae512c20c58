use Rattle.ticket_codec.specs.Denied.{denied}
use Rattle.proxy_requests.specs.EvidenceSteps.{evidence_shown}
use Rattle.proxy_requests.proofs.EvidenceTold.{carried, evidence_told, opening_denied, reading_denied}
use Rattle.proxy_requests.proofs.reading.read_shown.Goals as goal

pub returns-in_err-opened-clause-exact : goal.returns-in_err-opened-clause-exact
returns-in_err-opened-clause-exact c =
    let a = c.args in
    carried c.from_residual.result c.in_err-opened.field-0.0 (denied (evidence_shown a.dir.now a.realm a.role a.ticket.now)) c.from_residual.ensures
    (opening_denied a.dir.now a.realm a.role a.ticket.now c.in_err-opened.field-0.0 c.in_err-opened.ensures.exact)

pub returns-in_err-certified-clause-exact : goal.returns-in_err-certified-clause-exact
returns-in_err-certified-clause-exact c =
    let a = c.args in
    carried c.from_residual-in_err-certified.result c.in_err-certified.field-0.0 (denied (evidence_shown a.dir.now a.realm a.role a.ticket.now)) c.from_residual-in_err-certified.ensures
    (reading_denied a.dir.now a.realm a.role a.ticket.now c.in_ok-opened.opened c.in_err-certified.field-0.0 c.in_ok-opened.ensures.exact c.in_err-certified.ensures.exact)

pub returns-clause-exact : goal.returns-clause-exact
returns-clause-exact c =
    let a = c.args in
    evidence_told a.dir.now a.realm a.role a.ticket.now c.in_ok-opened.opened c.in_ok-certified.certified c.in_ok-opened.ensures.exact c.in_ok-certified.ensures.exact

use Rattle.std.proofs.Common.{◌≡◌, ◌∙◌, Some, sym}
use Rattle.ticket_codec.specs.Denied.{denied}
use Rattle.tgs_requests.specs.Headers.{ap_req_of}
use Rattle.tgs_requests.specs.HeaderSteps.{header_read}
use Rattle.tgs_requests.proofs.HeaderTold.{auth_denied, carried, header_told, ticket_denied, wanted}
use Rattle.tgs_requests.proofs.reading.read_steps.Goals as goal

pub returns-in_err-opened-clause-exact : goal.returns-in_err-opened-clause-exact
returns-in_err-opened-clause-exact c =
    let a = c.args in
    let read : ap_req_of a.message.now ≡ Some c.in-Some.ap = sym c.in_ok-ap.ensures.value ∙ c.in-Some.is in
    carried c.from_residual-in_err-opened.result c.in_err-opened.field-0.0 (denied (header_read a.dir.now a.realm a.message.now)) c.from_residual-in_err-opened.ensures
    (ticket_denied a.dir.now a.realm a.message.now c.in-Some.ap c.in_err-opened.field-0.0 read c.in_err-opened.ensures.exact)

pub returns-in_err-auth-clause-exact : goal.returns-in_err-auth-clause-exact
returns-in_err-auth-clause-exact c =
    let a = c.args in
    let read : ap_req_of a.message.now ≡ Some c.in-Some.ap = sym c.in_ok-ap.ensures.value ∙ c.in-Some.is in
    carried c.from_residual-in_err-auth.result c.in_err-auth.field-0.0 (denied (header_read a.dir.now a.realm a.message.now)) c.from_residual-in_err-auth.ensures
    (auth_denied a.dir.now a.realm a.message.now c.in-Some.ap c.in_ok-opened.opened c.as_slice.result.now c.in_err-auth.field-0.0 read c.in_ok-opened.ensures.exact c.as_slice.ensures c.in_err-auth.ensures.exact)

pub returns-in_err-certified-clause-exact : goal.returns-in_err-certified-clause-exact
returns-in_err-certified-clause-exact c =
    wanted c.from_residual-in_err-certified.result (denied (header_read c.args.dir.now c.args.realm c.args.message.now)) c.from_residual-in_err-certified.ensures

pub returns-clause-exact : goal.returns-clause-exact
returns-clause-exact c =
    let a = c.args in
    let read : ap_req_of a.message.now ≡ Some c.in-Some.ap = sym c.in_ok-ap.ensures.value ∙ c.in-Some.is in
    header_told a.dir.now a.realm a.message.now c.in-Some.ap c.in_ok-opened.opened c.in_ok-auth.auth c.as_slice.result.now c.in_ok-certified.certified read
    c.in_ok-opened.ensures.exact c.as_slice.ensures c.in_ok-auth.ensures.exact c.in_ok-certified.ensures.exact

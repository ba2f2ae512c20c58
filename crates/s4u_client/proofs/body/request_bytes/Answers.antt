use Rattle.std.proofs.Common.{◌≡◌, ◌<◌, ◌≤◌, ◌+◌, ◌^◌, List, ℕ, length, sym, subst, arith}
use Rattle.std.specs.Prelude.{IfOk}
use Rattle.krb_messages.specs.declared.kdc_req.KdcReq.{KdcReq}
use Rattle.krb_messages.specs.KdcReq.{kdc_req, respelt}
use Rattle.krb_messages.specs.KdcReqLaws.{IsOwn}
use Rattle.s4u_client.specs.Requests.{request_of}
use Rattle.s4u_client.proofs.Forms.{below}
use Rattle.s4u_client.proofs.RequestForms.{request_own, request_short}
use Rattle.s4u_client.proofs.body.request_bytes.Goals as goal

pub write_request-requires-clause-own : goal.write_request-requires-clause-own
write_request-requires-clause-own c =
    let few = subst (λ (bytes : List ℕ). length bytes ≤ 2 ^ 27 + 8192) c.requires.own c.requires.short in
    subst IsOwn (sym c.request_of-message.ensures) (request_own c.args.is_as c.args.padata c.args.body c.requires.padata c.requires.body few)

pub write_request-requires-clause-short : goal.write_request-requires-clause-short
write_request-requires-clause-short c =
    let few = subst (λ (bytes : List ℕ). length bytes ≤ 2 ^ 27 + 8192) c.requires.own c.requires.short in
    let short = request_short c.args.is_as c.args.padata c.args.body c.requires.padata few in
    subst (λ (x : KdcReq). length (kdc_req.spelling x) < 2 ^ 32) (sym c.request_of-message.ensures) (omega (arith, short))

pub returns-clause-ok : goal.returns-clause-ok
returns-clause-ok c = subst (λ (x : KdcReq). IfOk c.write_request.result (λ bytes. bytes ≡ kdc_req.spelling (respelt x))) c.request_of-message.ensures c.write_request.ensures.ok

pub returns-clause-short : goal.returns-clause-short
returns-clause-short c =
    let few = subst (λ (bytes : List ℕ). length bytes ≤ 2 ^ 27 + 8192) c.requires.own c.requires.short in
    let written = subst (λ (x : KdcReq). IfOk c.write_request.result (λ bytes. bytes ≡ kdc_req.spelling (respelt x))) c.request_of-message.ensures c.write_request.ensures.ok in
    below (2 ^ 30) (kdc_req.spelling (request_of c.args.is_as c.args.padata c.args.body)) c.write_request.result written (request_short c.args.is_as c.args.padata c.args.body c.requires.padata few)

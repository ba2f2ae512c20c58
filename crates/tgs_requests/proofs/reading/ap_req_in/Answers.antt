use Rattle.std.proofs.Common.{ℕ, List, subst}
use Rattle.std.specs.Prelude.{IfOk, IfSome}
use Rattle.krb_messages.specs.ApReq.{ap_req}
use Rattle.tgs_requests.proofs.Sizes.{auth_few, sealed_few}
use Rattle.tgs_requests.proofs.reading.ap_req_in.Goals as goal

pub returns-clause-ticket : goal.returns-clause-ticket
returns-clause-ticket c =
    let read = subst (λ (bytes : List ℕ). IfOk c.read_whole.result (λ found. IfSome found (λ x. ap_req.IsDer bytes x))) c.as_slice.ensures c.read_whole.ensures.found in
    sealed_few c.args.item.now.padata_value c.read_whole.result c.requires read

pub returns-clause-auth : goal.returns-clause-auth
returns-clause-auth c =
    let read = subst (λ (bytes : List ℕ). IfOk c.read_whole.result (λ found. IfSome found (λ x. ap_req.IsDer bytes x))) c.as_slice.ensures c.read_whole.ensures.found in
    auth_few c.args.item.now.padata_value c.read_whole.result c.requires read

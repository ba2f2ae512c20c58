use Rattle.std.proofs.Common.{arith}
use Rattle.tgs_requests.proofs.Sizes.{ap_req_in_bytes}
use Rattle.service_end.proofs.opening.read_request.Goals as goal

pub returns-in-Ok-clause-ticket : goal.returns-in-Ok-clause-ticket
returns-in-Ok-clause-ticket c = let few = (ap_req_in_bytes c.args.bytes.now c.in-Ok.request c.in-Ok.ensures.found).sealed in omega (arith, c.requires, few)

pub returns-in-Ok-clause-auth : goal.returns-in-Ok-clause-auth
returns-in-Ok-clause-auth c = let few = (ap_req_in_bytes c.args.bytes.now c.in-Ok.request c.in-Ok.ensures.found).auth in omega (arith, c.requires, few)

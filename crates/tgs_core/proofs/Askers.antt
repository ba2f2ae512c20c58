-- The account that asks is an account of the directory, and a directory has a realm.
use Rattle.std.proofs.Common.{◌≡◌, ◌<◌, length, Option, Some, arith}
use Rattle.kdc_prelude.specs.Steps.{◌>>=◌}
use Rattle.krb_messages.specs.declared.kdc_req.KdcReq.{KdcReq}
use Rattle.dir_records.specs.declared.records.Account.{Account as AccountRec}
use Rattle.dir_records.specs.DirectoryValue.{DirectoryValue}
use Rattle.dir_records.specs.IsDirectory.{IsDirectory}
use Rattle.as_core.specs.AsRules.{client_account}
use Rattle.tgs_core.specs.Errors.{account_asking}
use Rattle.tgs_core.specs.Requests.{Request, request_of}
use Rattle.tgs_core.proofs.FoundGrants.{IsMember, step_of}
use Rattle.tgs_core.proofs.GrantedRequests.{client_is_member}

pub asking_is_member : (dir : DirectoryValue) (message : Option KdcReq) (account : AccountRec) → IsDirectory dir → account_asking dir message ≡ Some account → IsMember account
asking_is_member dir message account h found =
    let step = step_of (message >>= request_of dir) (λ (request : Request). client_account dir request.realm request.message.req_body.cname) account found in
    client_is_member dir step.value.realm step.value.message.req_body.cname account h step.is

pub some_realm : (dir : DirectoryValue) → IsDirectory dir → 0 < length dir.realms
some_realm dir h = let some = h.consistent.forms.some_realms in omega (arith, some)

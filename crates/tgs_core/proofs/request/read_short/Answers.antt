use Rattle.std.proofs.Common.{sym}
use Rattle.tgs_core.proofs.Openings.{read_told, refused_told}
use Rattle.tgs_core.proofs.ReceivedRequests.{message_is_received}
use Rattle.tgs_core.proofs.request.read_short.Goals as goal

pub returns-in-Ok-clause-value : goal.returns-in-Ok-clause-value
returns-in-Ok-clause-value c = read_told c.args.bytes.now c.in-Ok.message c.requires c.in-Ok.ensures.exact

pub returns-in-Ok-clause-received : goal.returns-in-Ok-clause-received
returns-in-Ok-clause-received c =
    let read = sym (read_told c.args.bytes.now c.in-Ok.message c.requires c.in-Ok.ensures.exact) in
    message_is_received c.args.bytes.now c.in-Ok.message c.bytes_fit.ensures read

pub returns-in-Err-Malformed-clause-value : goal.returns-in-Err-Malformed-clause-value
returns-in-Err-Malformed-clause-value c =
    refused_told c.args.bytes.now c.in-Err-Malformed.field-0-0 c.requires (rw c.in-Err-Malformed.field-0-is at c.in-Err-Malformed.ensures.exact)

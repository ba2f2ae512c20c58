use Rattle.std.proofs.Common.{arith}
use Rattle.pac_buffers.specs.Delegation.{delegation}
use Rattle.pac_buffers.proofs.Readings.{object_is_found, object_is_only}
use Rattle.pac_buffers.proofs.InfoLaws.{delegation_lawful}
use Rattle.pac_buffers.proofs.delegation_info.DelegationInfo.read.Goals as goal

pub returns-clause-found : goal.returns-clause-found
returns-clause-found c = object_is_found delegation c.args.bytes.now c.whole.result delegation_lawful (λ i. omega (arith, c.type_inv.bytes i)) c.whole.ensures

pub returns-clause-only : goal.returns-clause-only
returns-clause-only c = object_is_only delegation c.args.bytes.now c.whole.result delegation_lawful c.whole.ensures

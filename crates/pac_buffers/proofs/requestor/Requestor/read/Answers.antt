use Rattle.std.proofs.Common.{arith}
use Rattle.pac_buffers.specs.Requestor.{requestor}
use Rattle.pac_buffers.proofs.Readings.{packed_is_found, packed_is_only}
use Rattle.pac_buffers.proofs.InfoLaws.{requestor_lawful}
use Rattle.pac_buffers.proofs.requestor.Requestor.read.Goals as goal

pub returns-clause-found : goal.returns-clause-found
returns-clause-found c = packed_is_found requestor c.args.bytes.now c.whole.result requestor_lawful (λ i. omega (arith, c.type_inv.bytes i)) c.whole.ensures

pub returns-clause-only : goal.returns-clause-only
returns-clause-only c = packed_is_only requestor c.args.bytes.now c.whole.result requestor_lawful c.whole.ensures

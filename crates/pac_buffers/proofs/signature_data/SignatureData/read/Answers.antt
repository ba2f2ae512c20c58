use Rattle.std.proofs.Common.{arith}
use Rattle.pac_buffers.specs.Signature.{signature}
use Rattle.pac_buffers.proofs.Readings.{front_is_found, front_is_only}
use Rattle.pac_buffers.proofs.InfoLaws.{signature_lawful}
use Rattle.pac_buffers.proofs.signature_data.SignatureData.read.Goals as goal

pub returns-clause-found : goal.returns-clause-found
returns-clause-found c = front_is_found signature c.args.bytes.now c.front.result signature_lawful (λ i. omega (arith, c.type_inv.bytes i)) c.front.ensures

pub returns-clause-only : goal.returns-clause-only
returns-clause-only c = front_is_only signature c.args.bytes.now c.front.result signature_lawful c.front.ensures

use Rattle.std.proofs.Common.{arith}
use Rattle.der_forms.proofs.Readings.{is_found, is_only, is_writable}
use Rattle.der_forms.proofs.message.read.Goals as goal

pub returns-clause-found : goal.returns-clause-found
returns-clause-found g c = is_found g.T.Form.codec c.args.bytes.now c.read_whole.result g.met.T.Form.lawful (λ i. omega (arith, c.type_inv.bytes i)) c.read_whole.ensures

pub returns-clause-value : goal.returns-clause-value
returns-clause-value g c =
    is_writable g.T.Form.codec c.args.bytes.now c.read_whole.result g.met.T.Form.lawful (λ i. omega (arith, c.type_inv.bytes i))
    (is_found g.T.Form.codec c.args.bytes.now c.read_whole.result g.met.T.Form.lawful (λ i. omega (arith, c.type_inv.bytes i)) c.read_whole.ensures)

pub returns-clause-only : goal.returns-clause-only
returns-clause-only g c = is_only g.T.Form.codec c.args.bytes.now c.read_whole.result g.met.T.Form.lawful c.read_whole.ensures

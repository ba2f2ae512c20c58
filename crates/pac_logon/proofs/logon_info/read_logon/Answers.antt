use Rattle.std.proofs.Common.{arith}
use Rattle.pac_logon.specs.Logon.{logon}
use Rattle.pac_logon.proofs.LogonLaws.{logon_lawful}
use Rattle.pac_logon.proofs.Readings.{is_found, is_only, is_few}
use Rattle.pac_logon.proofs.logon_info.read_logon.Goals as goal

found : goal.returns-clause-found
found c = is_found logon c.args.bytes.now c.whole.result logon_lawful (λ i. omega (arith, c.type_inv.bytes i)) c.whole.ensures

pub returns-clause-found : goal.returns-clause-found
returns-clause-found c = found c

pub returns-clause-only : goal.returns-clause-only
returns-clause-only c = is_only logon c.args.bytes.now c.whole.result logon_lawful c.whole.ensures

pub returns-clause-few : goal.returns-clause-few
returns-clause-few c = is_few c.args.bytes.now c.whole.result (found c)

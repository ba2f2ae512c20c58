use Rattle.pac_laws.proofs.Read.{logon_can, client_can, delegation_can}
use Rattle.pac_laws.proofs.parts.what_was_read_can_be_written.Goals as goal

pub returns-clause-logon : goal.returns-clause-logon
returns-clause-logon c = logon_can

pub returns-clause-client : goal.returns-clause-client
returns-clause-client c = client_can

pub returns-clause-delegation : goal.returns-clause-delegation
returns-clause-delegation c = delegation_can

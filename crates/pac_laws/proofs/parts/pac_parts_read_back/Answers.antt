use Rattle.pac_logon.proofs.Fitting.{logon_again}
use Rattle.pac_laws.proofs.Written.{logon_fits, logon_short, client_read, client_short, client_fits, delegation_read, delegation_short, delegation_fits, signature_read, pac_short}
use Rattle.pac_laws.proofs.parts.pac_parts_read_back.Goals as goal

pub returns-clause-logon : goal.returns-clause-logon
returns-clause-logon c = logon_again

pub returns-clause-logon_short : goal.returns-clause-logon_short
returns-clause-logon_short c = logon_short

pub returns-clause-logon_fits : goal.returns-clause-logon_fits
returns-clause-logon_fits c = logon_fits

pub returns-clause-client : goal.returns-clause-client
returns-clause-client c = client_read

pub returns-clause-client_short : goal.returns-clause-client_short
returns-clause-client_short c = client_short

pub returns-clause-client_fits : goal.returns-clause-client_fits
returns-clause-client_fits c = client_fits

pub returns-clause-delegation : goal.returns-clause-delegation
returns-clause-delegation c = delegation_read

pub returns-clause-delegation_short : goal.returns-clause-delegation_short
returns-clause-delegation_short c = delegation_short

pub returns-clause-delegation_fits : goal.returns-clause-delegation_fits
returns-clause-delegation_fits c = delegation_fits

pub returns-clause-signature : goal.returns-clause-signature
returns-clause-signature c = signature_read

pub returns-clause-short : goal.returns-clause-short
returns-clause-short c = pac_short

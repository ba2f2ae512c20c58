use Rattle.ndr_core.proofs.FormLaws.{object_form}
use Rattle.pac_logon.specs.Logon.{logon}
use Rattle.pac_logon.proofs.Fitting.{logon_spelt, logon_again}
use Rattle.pac_logon.proofs.LogonLaws.{logon_lawful}
use Rattle.pac_logon.proofs.laws.keeps_laws.Goals as goal

pub returns-clause-ok : goal.returns-clause-ok
returns-clause-ok c = logon_spelt

pub returns-clause-exact : goal.returns-clause-exact
returns-clause-exact c = logon_again

pub returns-clause-form : goal.returns-clause-form
returns-clause-form c = object_form logon logon_lawful

use Rattle.krb_names.proofs.Units.{text_back}
use Rattle.pac_laws.proofs.Utf16.{text_found}
use Rattle.pac_laws.proofs.texts.utf16_keeps_laws.Goals as goal

pub returns-clause-found : goal.returns-clause-found
returns-clause-found c = text_found

pub returns-clause-value : goal.returns-clause-value
returns-clause-value c = text_back

use Rattle.der_forms.proofs.Readings.{is_again, is_one}
use Rattle.der_forms.proofs.message.keeps_laws.Goals as goal

pub returns-clause-value : goal.returns-clause-value
returns-clause-value g c = is_again g.T.Form.codec g.met.T.Form.lawful

pub returns-clause-only : goal.returns-clause-only
returns-clause-only g c = is_one g.T.Form.codec g.met.T.Form.lawful

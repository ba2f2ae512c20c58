use Rattle.krb_names.proofs.Units.{text_back}
use Rattle.ndr_values.proofs.SidLaws.{on_ok}
use Rattle.ndr_values.proofs.TextLaws.{text_of_fits}
use Rattle.ndr_values.proofs.text.put_text.Goals as goal

pub returns-then-len-eq0-clause-fits : goal.returns-then-len-eq0-clause-fits
returns-then-len-eq0-clause-fits c = text_of_fits c.args.text.now (text_back c.args.text.now c.utf8.text) c.requires.few

pub returns-clause-fits : goal.returns-clause-fits
returns-clause-fits c = on_ok c.units.result (text_of_fits c.args.text.now (text_back c.args.text.now c.utf8.text) c.requires.few)

use Rattle.krb_names.proofs.SidTexts.{first_piece}
use Rattle.krb_names.proofs.sid_text.split_at_hyphen.Goals as goal

pub returns : goal.returns
returns c = first_piece c.args.text.now c.split_once.result c.split_once.ensures.cases

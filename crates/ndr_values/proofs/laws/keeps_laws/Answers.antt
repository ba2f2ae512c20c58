use Rattle.ndr_values.proofs.SidLaws.{packed_sid_lawful, rpc_sid_lawful}
use Rattle.ndr_values.proofs.TextLaws.{string_head_lawful, text_of_lawful}
use Rattle.ndr_values.proofs.laws.keeps_laws.Goals as goal

pub returns-clause-sids : goal.returns-clause-sids
returns-clause-sids c = (packed_sid_lawful, rpc_sid_lawful)

pub returns-clause-strings : goal.returns-clause-strings
returns-clause-strings c = (string_head_lawful, text_of_lawful)

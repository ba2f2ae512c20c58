use Rattle.kdc_records.proofs.Parties.{equal_parties, same_parties}
use Rattle.kdc_records.proofs.laws.parties_keep_laws.Goals as goal

pub returns : goal.returns
returns c = record { exact = λ a b. (same_parties a b, equal_parties a b) }

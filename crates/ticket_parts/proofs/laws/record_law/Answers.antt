use Rattle.ticket_parts.proofs.ToldAgain.{record_back}
use Rattle.ticket_parts.proofs.laws.record_law.Goals as goal

pub returns : goal.returns
returns c = record { value = record_back }

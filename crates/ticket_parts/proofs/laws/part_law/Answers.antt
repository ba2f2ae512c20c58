use Rattle.ticket_parts.proofs.Written.{part_short, part_writable, part_written}
use Rattle.ticket_parts.proofs.laws.part_law.Goals as goal

pub returns-clause-well : goal.returns-clause-well
returns-clause-well c = part_writable

pub returns-clause-fits : goal.returns-clause-fits
returns-clause-fits c = part_written

pub returns-clause-short : goal.returns-clause-short
returns-clause-short c = part_short

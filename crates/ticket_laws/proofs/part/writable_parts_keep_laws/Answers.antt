use Rattle.ticket_laws.proofs.Parts.{part_fits, part_is_writable, part_is_short, read_part_is_writable}
use Rattle.ticket_laws.proofs.part.writable_parts_keep_laws.Goals as goal

pub returns : goal.returns
returns c = record { fits = part_fits; only = part_is_writable; short = part_is_short; found = read_part_is_writable }

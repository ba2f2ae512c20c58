use Rattle.ticket_parts.proofs.ReadSound.{read_is_sound}
use Rattle.ticket_parts.proofs.Steps.{read_for_other, read_holder}
use Rattle.ticket_parts.proofs.laws.read_law.Goals as goal

pub returns : goal.returns
returns c = record { sound = read_is_sound; holder = read_holder; others = read_for_other }

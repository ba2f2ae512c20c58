use Rattle.ticket_laws.proofs.LonePacs.{pac_is_found, pac_is_zeroed, pac_is_short, pac_is_writable}
use Rattle.ticket_laws.proofs.only_pac.lone_pac_keeps_laws.Goals as goal

pub returns : goal.returns
returns c = record { found = pac_is_found; value = pac_is_zeroed; short = pac_is_short; well = pac_is_writable }

use Rattle.ticket_laws.proofs.Parts.{part_fits}
use Rattle.ticket_codec.proofs.presenting.certify.Goals as goal

pub are_right-requires-clause-fits : goal.are_right-requires-clause-fits
are_right-requires-clause-fits c = part_fits c.args.opened.now.part c.requires.writable

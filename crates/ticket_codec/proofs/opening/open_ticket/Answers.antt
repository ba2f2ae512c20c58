use Rattle.ticket_codec.proofs.PartTexts.{range_size, range_within}
use Rattle.ticket_codec.proofs.opening.open_ticket.Goals as goal

pub returns-clause-within : goal.returns-clause-within
returns-clause-within c = range_within _ _ _ _ _ c.open_in_place.ensures.value c.open_in_place.ensures.exact c.open_in_place.auto.cipher

pub returns-clause-size : goal.returns-clause-size
returns-clause-size c = range_size _ _ _ c.open_in_place.ensures.value c.open_in_place.auto.cipher

use Rattle.ticket_codec.proofs.PartTexts.{range_within}
use Rattle.s4u_client.proofs.finishing.open_part.Goals as goal

pub returns-clause-within : goal.returns-clause-within
returns-clause-within c = range_within _ _ _ _ _ c.open_in_place.ensures.value c.open_in_place.ensures.exact c.open_in_place.auto.cipher

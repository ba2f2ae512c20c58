use Rattle.std.proofs.lemmas.Result.{on_ok_weaker}
use Rattle.ndr_values.proofs.SidLaws.{packed_sid_fits}
use Rattle.ndr_values.proofs.sid.put_packed_sid.Goals as goal

pub returns-clause-fits : goal.returns-clause-fits
returns-clause-fits c = on_ok_weaker c.put_body.result (packed_sid_fits c.args.sid.now c.numbers.ensures.some c.numbers.ensures.few) c.put_body.ensures.fits

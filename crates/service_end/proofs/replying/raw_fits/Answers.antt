use Rattle.krb_crypto.proofs.ByteSums.{bytes_below}
use Rattle.service_end.proofs.replying.raw_fits.Goals as goal

pub returns : goal.returns
returns c = (c.told-raw, bytes_below c.args.raw.now c.bytes_fit.ensures)

use Rattle.krb_crypto.proofs.ByteSums.{bytes_below}
use Rattle.ticket_codec.proofs.making.key_fits.Goals as goal

pub returns : goal.returns
returns c = (c.told-raw, bytes_below c.args.raw.now c.bytes_fit.ensures)

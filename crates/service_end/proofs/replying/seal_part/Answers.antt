use Rattle.std.proofs.Common.{length, ap, ◌∙◌}
use Rattle.krb_crypto.proofs.ByteSums.{bytes_below, bytes_from}
use Rattle.ticket_codec.proofs.Sealed.{length_sealed}
use Rattle.service_end.proofs.replying.seal_part.Goals as goal

pub returns-clause-size : goal.returns-clause-size
returns-clause-size c =
    ap length c.in_ok-cipher.ensures
    ∙ length_sealed c.args.key.now 12 c.args.conf.now c.args.text.now c.raw_fits.ensures (c.told-conf, bytes_below c.args.conf.now c.fits-conf) (bytes_from c.args.text.now c.type_inv.text)

use Rattle.krb_crypto.proofs.ByteSums.{bytes_from}
use Rattle.krb_crypto.proofs.sealing.sum_at.Goals as goal

pub returns-clause-exact : goal.returns-clause-exact
returns-clause-exact c = bytes_from c.args.cipher.now c.type_inv.cipher

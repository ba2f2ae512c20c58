use Rattle.std.proofs.Common.{arith}
use Rattle.krb_crypto.proofs.Texts.{other_length, same_by_index}
use Rattle.krb_crypto.proofs.checksum.is_same_sum.Goals as goal

pub returns-clause-exact : goal.returns-clause-exact
returns-clause-exact c = same_by_index c.loop-k.same c.args.shown.now c.args.sum.now c.loop-k.k (omega arith) (omega arith) c.loop-k.invariant

use Rattle.std.proofs.Common.{arith}
use Rattle.krb_crypto.proofs.Sums.{add_by_index}
use Rattle.krb_crypto.proofs.password.add_hashes.Goals as goal

pub returns : goal.returns
returns c = add_by_index c.args.a.now c.args.b.now c.loop-k.sum 20 (omega arith) (omega arith) c.loop-k.invariant.0 (λ i h. c.loop-k.invariant.1 i (omega arith))

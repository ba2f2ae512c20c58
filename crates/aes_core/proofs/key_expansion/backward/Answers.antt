use Rattle.std.proofs.Common.{arith}
use Rattle.aes_core.proofs.Backward.{paired_from}
use Rattle.aes_core.proofs.key_expansion.backward.Goals as goal

pub returns : goal.returns
returns c = paired_from c.args.rounds c.args.forward.now c.words.keys c.requires.low (λ k l. c.words.invariant.1 k (omega arith))

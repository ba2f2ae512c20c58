use Rattle.std.proofs.Common.{arith}
use Rattle.s4u_client.proofs.Replies.{reply_is}
use Rattle.s4u_client.proofs.finishing.reply_in.Goals as goal

pub returns-clause-found : goal.returns-clause-found
returns-clause-found c = reply_is c.args.bytes.now c.readable.result (λ i. omega (arith, c.type_inv.bytes i)) c.readable.ensures.found c.readable.ensures.fits

use Rattle.std.proofs.Common.{arith, ap, ◌∙◌, map, bit_xor}
use Rattle.krb_crypto.proofs.Sums.{map_by_index}
use Rattle.krb_crypto.proofs.hmac.padded.Goals as goal

pub returns : goal.returns
returns c =
    map_by_index (λ x. bit_xor x c.args.byte) c.block_of-block.result c.loop-k.sums 64 (omega arith) c.loop-k.invariant.0 (λ i h. c.loop-k.invariant.1 i (omega arith))
    ∙ ap (map (λ x. bit_xor x c.args.byte)) c.block_of-block.ensures

use Rattle.std.proofs.Common.{◌≡◌, ℕ, List, length, arith}
use Rattle.krb_crypto.specs.Checksums.{zeroed}
use Rattle.krb_crypto.proofs.ZeroedTexts.{part_is, length-zeroed}
use Rattle.krb_crypto.proofs.zeros.zeroed_at.Goals as goal

pub returns : goal.returns
returns c =
    let text : List ℕ = c.args.text.now in
    let once : List ℕ = zeroed c.args.first.now.start c.args.first.now.end text in
    let twice : List ℕ = zeroed c.args.second.now.start c.args.second.now.end once in
    let l1 : length once ≡ length text = length-zeroed c.args.first.now.start c.args.first.now.end text c.requires.first.0 c.requires.first.1 in
    let l2 : length twice ≡ length once = length-zeroed c.args.second.now.start c.args.second.now.end once c.requires.second.0 (omega arith) in
    part_is c.loop-k.block twice c.args.at c.args.n 64 c.loop-k.invariant.0 c.requires.few (omega arith) (λ k h. c.loop-k.invariant.1 k (omega arith))

use Rattle.std.proofs.Common.{◌≡◌, ℕ, ◌+◌, List, ◌++◌, length, take, drop, arith, sym, ◌∙◌, subst, append_assoc}
use Rattle.sha1.specs.Sha1.{Holds}
use Rattle.krb_crypto.specs.Checksums.{zeroed}
use Rattle.krb_crypto.proofs.Parts.{take-add}
use Rattle.krb_crypto.proofs.ZeroedTexts.{length-zeroed}
use Rattle.krb_crypto.proofs.zeros.hash_zeroed.Goals as goal

pub pieces-preserved : goal.pieces-preserved
pieces-preserved c =
    let text : List ℕ = c.args.text.now in
    let once : List ℕ = zeroed c.args.first.now.start c.args.first.now.end text in
    let twice : List ℕ = zeroed c.args.second.now.start c.args.second.now.end once in
    let l1 : length once ≡ length text = length-zeroed c.args.first.now.start c.args.first.now.end text c.requires.first.0 c.requires.first.1 in
    let l2 : length twice ≡ length once = length-zeroed c.args.second.now.start c.args.second.now.end once c.requires.second.0 (omega arith) in
    let at : ℕ = c.pieces.at in
    let n : ℕ = c.min-n.result in
    let front : take (at + n) twice ≡ take at twice ++ take n (drop at twice) = take-add at n twice (omega arith) in (
      omega arith,
      λ m h. subst (Holds c.update.new.self)
          (append_assoc m (take at twice) (take n c.zeroed_at-block.result) ∙ (λ i. m ++ (take at twice ++ c.zeroed_at-block.ensures i)) ∙ (λ i. m ++ sym front i))
          (c.update.ensures (m ++ take at twice) (c.pieces.invariant.1 m h)),
    )

use Rattle.std.proofs.Common.{◌++◌, ◌∙◌, ap, length, drop, replicate}
use Rattle.std.proofs.lemmas.List.{drop-replicate}
use Rattle.krb_crypto.proofs.hmac.block_of.Goals as goal

pub returns : goal.returns
returns c =
    (λ i. c.copy_from_slice.ensures.after i ++ drop (length c.args.key.now) (replicate 64 0))
    ∙ ap (λ s. c.args.key.now ++ s) (drop-replicate (length c.args.key.now) 64 0)

use Rattle.std.proofs.Common.{◌++◌, ◌∙◌, refl, replicate}
use borrow.Rule.Slice.PartMut.{put_mid}
use Rattle.krb_crypto.proofs.Parts.{put_second}
use Rattle.krb_crypto.proofs.key_derivation.joined.Goals as goal

pub returns : goal.returns
returns c =
    (λ i. put_mid 16 16 (c.copy_from_slice.ensures.after i ++ replicate 16 0) (c.copy_from_slice-2.ensures.after i))
    ∙ put_second c.args.first.now c.args.second.now (replicate 16 0) 16 16 c.told-first refl

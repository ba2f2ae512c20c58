use Rattle.std.proofs.Common.{◌++◌, ◌∙◌, sym, take, refl, replicate}
use borrow.Rule.Slice.PartMut.{put_mid}
use Rattle.krb_crypto.proofs.Parts.{put_second, take_across}
use Rattle.krb_crypto.proofs.password.joined.Goals as goal

pub returns : goal.returns
returns c =
    (λ i. put_mid 20 12 (c.copy_from_slice.ensures.after i ++ replicate 12 0) (c.copy_from_slice-2.ensures.after i))
    ∙ put_second c.args.first.now (take 12 c.args.second.now) (replicate 12 0) 20 12 c.told-first refl
    ∙ sym (take_across c.args.first.now c.args.second.now 20 12 c.told-first)

use Rattle.std.proofs.Common.{◌∙◌}
use Rattle.aes_core.specs.Aes.{share, inv_mix}
use Rattle.aes_core.specs.Field.{inv_sbox}
use Rattle.aes_core.proofs.Words.{xor_bytes_5}
use Rattle.aes_core.proofs.columns.inv_mixed_column.Goals as goal

pub returns : goal.returns
returns c =
    xor_bytes_5 _ _ _ _ c.args.key _ _ _ _
    (c.inv_mixed_share.ensures ∙ (λ i. share inv_mix 0 (inv_sbox (c.byte.ensures i))))
    (c.inv_mixed_share-2.ensures ∙ (λ i. share inv_mix 1 (inv_sbox (c.byte-2.ensures i))))
    (c.inv_mixed_share-3.ensures ∙ (λ i. share inv_mix 2 (inv_sbox (c.byte-3.ensures i))))
    (c.inv_mixed_share-4.ensures ∙ (λ i. share inv_mix 3 (inv_sbox (c.byte-4.ensures i))))

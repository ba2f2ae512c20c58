use Rattle.std.proofs.Common.{◌∙◌, ◌≡◌, ℕ, ap, arith, ◌<◌}
use Rattle.aes_core.specs.Aes.{share, inv_mix}
use Rattle.aes_core.specs.Field.{sbox, inv_sbox}
use Rattle.std.specs.Int.{byte_at}
use Rattle.aes_core.proofs.Words.{xor_bytes_4}
use Rattle.aes_core.proofs.Inverse.{unsub_sub}
use Rattle.aes_core.proofs.columns.inv_mixed_word.Goals as goal

plain : (r x y z : ℕ) → x < 256 → y ≡ x → z ≡ sbox y → share inv_mix r (inv_sbox z) ≡ share inv_mix r x
plain r x y z h ey ez = (λ i. share inv_mix r (inv_sbox (ez i))) ∙ (λ i. share inv_mix r (inv_sbox (sbox (ey i)))) ∙ ap (share inv_mix r) (unsub_sub x h)

pub returns : goal.returns
returns c =
    let w = c.args.word in
    xor_bytes_4 _ _ _ _ _ _ _ _
    (c.inv_mixed_share.ensures ∙ plain 0 (byte_at 0 w) _ _ (omega arith) c.byte.ensures c.sub_byte.ensures)
    (c.inv_mixed_share-2.ensures ∙ plain 1 (byte_at 1 w) _ _ (omega arith) c.byte-2.ensures c.sub_byte-2.ensures)
    (c.inv_mixed_share-3.ensures ∙ plain 2 (byte_at 2 w) _ _ (omega arith) c.byte-3.ensures c.sub_byte-3.ensures)
    (c.inv_mixed_share-4.ensures ∙ plain 3 (byte_at 3 w) _ _ (omega arith) c.byte-4.ensures c.sub_byte-4.ensures)

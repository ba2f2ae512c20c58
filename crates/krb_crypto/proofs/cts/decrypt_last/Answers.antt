use Rattle.std.proofs.Common.{ℕ, ◌-◌, List, ◌++◌, ◌∙◌, ap, length, take, drop, arith}
use Rattle.std.proofs.lemmas.List.{take_rest}
use Rattle.aes_core.specs.Aes.{add}
use Rattle.aes_core.specs.Cipher.{inv_cipher}
use Rattle.krb_crypto.specs.CiphertextStealing.{padded}
use Rattle.krb_crypto.proofs.CtsSteps.{decrypt_last_is}
use Rattle.krb_crypto.proofs.Parts.{drop-put_end}
use Rattle.krb_crypto.proofs.cts.decrypt_last.Goals as goal

pub returns : goal.returns
returns c =
    let q : List ℕ = c.args.last.now in
    let d : List ℕ → List ℕ = inv_cipher c.args.schedule.now in
    let y : List ℕ = c.decrypt_block.new.block in
    let rest = drop-put_end q c.copy_from_slice-2.new.self 16 (omega arith) in
    let tail = c.padded.ensures ∙ ap padded (take_rest q 16) in
    let stolen = c.copy_from_slice.ensures.after ∙ take_rest q 16 in
    decrypt_last_is d c.args.before.now q y c.decrypt_block-2.new.block c.copy_from_slice-3.new.self _ (omega arith) c.requires.high c.decrypt_block.array_long
    (c.decrypt_block.ensures ∙ ap d c.block_at-tail.ensures)
    (c.decrypt_block-2.ensures ∙ (λ i. d (stolen i ++ drop (length q - 16) y)))
    (c.copy_from_slice-3.ensures.after ∙ c.add.ensures)
    (rest ∙ c.copy_from_slice-2.ensures.after ∙ ap (take (length q - 16)) (c.add-plain.ensures ∙ (λ i. add y (tail i))))

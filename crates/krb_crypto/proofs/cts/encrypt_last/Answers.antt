use Rattle.std.proofs.Common.{ℕ, List, ◌∙◌, ap, arith}
use Rattle.std.proofs.lemmas.List.{take_rest}
use Rattle.aes_core.specs.Aes.{add}
use Rattle.aes_core.specs.Cipher.{cipher}
use Rattle.krb_crypto.specs.CiphertextStealing.{padded}
use Rattle.krb_crypto.proofs.CtsSteps.{encrypt_last_is}
use Rattle.krb_crypto.proofs.Parts.{drop-put_end}
use Rattle.krb_crypto.proofs.cts.encrypt_last.Goals as goal

pub returns : goal.returns
returns c =
    let p : List ℕ = c.args.last.now in
    let e : List ℕ → List ℕ = cipher c.args.schedule.now in
    let rest = drop-put_end p c.copy_from_slice.new.self 16 (omega arith) in
    let tail = c.padded.ensures ∙ ap padded (take_rest p 16) in
    encrypt_last_is e c.args.before.now p c.encrypt_block.new.block c.copy_from_slice-2.new.self _ (omega arith)
    (c.encrypt_block.ensures ∙ ap e (c.add-stolen.ensures ∙ (λ i. add (c.block_at.ensures i) c.args.before.now)))
    (c.copy_from_slice-2.ensures.after ∙ c.encrypt_block-2.ensures ∙ ap e (c.add-block.ensures ∙ (λ i. add (tail i) c.encrypt_block.new.block)))
    (rest ∙ c.copy_from_slice.ensures.after)

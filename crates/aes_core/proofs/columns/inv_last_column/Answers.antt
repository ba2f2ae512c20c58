use Rattle.std.proofs.Common.{rules, ◌∙◌, ℕ, ◌∷◌, [], List}
use Rattle.std.proofs.lemmas.Nat.{le_bytes_4}
use Rattle.std.specs.Int.{w32, to_le_bytes}
use Rattle.aes_core.specs.Field.{inv_sbox}
use Rattle.aes_core.specs.Aes.{add}
use Rattle.aes_core.proofs.Words.{xor_bytes}
use Rattle.aes_core.proofs.columns.inv_last_column.Goals as goal

pub returns : goal.returns
returns c =
    let bytes : List ℕ = c.inv_sub_byte.result ∷ c.inv_sub_byte-2.result ∷ c.inv_sub_byte-3.result ∷ c.inv_sub_byte-4.result ∷ [] in
    xor_bytes _ c.args.key
    ∙ (λ i. add (le_bytes_4 bytes _ (search rules) (search rules) c.from_le_bytes.ensures i) (to_le_bytes w32 c.args.key))
    ∙ (λ i. add ((c.inv_sub_byte.ensures ∙ (λ j. inv_sbox (c.byte.ensures j))) i ∷ (c.inv_sub_byte-2.ensures ∙ (λ j. inv_sbox (c.byte-2.ensures j))) i ∷ (c.inv_sub_byte-3.ensures ∙ (λ j. inv_sbox (c.byte-3.ensures j))) i ∷ (c.inv_sub_byte-4.ensures ∙ (λ j. inv_sbox (c.byte-4.ensures j))) i ∷ []) (to_le_bytes w32 c.args.key))

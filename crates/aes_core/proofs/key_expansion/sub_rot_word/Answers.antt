use Rattle.std.proofs.Common.{rules, ◌∙◌, ℕ, ◌∷◌, [], List}
use Rattle.std.proofs.lemmas.Nat.{le_bytes_4}
use Rattle.aes_core.specs.Field.{sbox}
use Rattle.aes_core.proofs.key_expansion.sub_rot_word.Goals as goal

pub returns : goal.returns
returns c =
    let bytes : List ℕ = c.sub_byte.result ∷ c.sub_byte-2.result ∷ c.sub_byte-3.result ∷ c.sub_byte-4.result ∷ [] in
    le_bytes_4 bytes _ (search rules) (search rules) c.from_le_bytes.ensures
    ∙ (λ i. (c.sub_byte.ensures ∙ (λ j. sbox (c.byte.ensures j))) i ∷ (c.sub_byte-2.ensures ∙ (λ j. sbox (c.byte-2.ensures j))) i ∷ (c.sub_byte-3.ensures ∙ (λ j. sbox (c.byte-3.ensures j))) i ∷ (c.sub_byte-4.ensures ∙ (λ j. sbox (c.byte-4.ensures j))) i ∷ [])

-- The first example of FIPS 197, appendix C, so that a wrong constant or step in the specs does not check.
use Rattle.std.proofs.Common.{◌≡◌, ◌*◌, [], ◌∷◌, map, refl}
use Rattle.std.specs.List.{range_with_len}
use Rattle.aes_core.specs.Field.{product, remainder, times, all_bytes, inverse, affine, sbox}
use Rattle.aes_core.specs.KeyExpansion.{power_of_x, word_mask, expanded, round_key}
use Rattle.aes_core.specs.Aes.{full_round, last_round, after_rounds, cipher_rounds}

pub aes_128_example : cipher_rounds 10 (round_key (expanded 4 (range_with_len 0 16) 40)) (map (λ i. 17 * i) (range_with_len 0 16))
    ≡ 0x69 ∷ 0xc4 ∷ 0xe0 ∷ 0xd8 ∷ 0x6a ∷ 0x7b ∷ 0x04 ∷ 0x30 ∷ 0xd8 ∷ 0xcd ∷ 0xb7 ∷ 0x80 ∷ 0x70 ∷ 0xb4 ∷ 0xc5 ∷ 0x5a ∷ []
unfolding product remainder times all_bytes inverse affine sbox power_of_x word_mask expanded full_round last_round after_rounds cipher_rounds
aes_128_example = refl

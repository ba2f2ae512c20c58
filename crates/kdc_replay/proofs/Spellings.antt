-- What a word spells.
use Rattle.std.proofs.Common.{ℕ, ◌≡◌, ◌≢◌, ◌∙◌, Bool, false, List, [], ◌∷◌, Ok, ap, arith, length, refl, sym}
use Rattle.std.specs.Prelude.{codes}
use Rattle.std.specs.Str.{bytes_eq}
use Rattle.std.proofs.lemmas.Slice.Eq.{bytes_eq-Decides}
use Rattle.hex.specs.Hex.{decode_of, lower_digits}
use Rattle.hex.proofs.HexLemmas.{decode_of-encode_lower, length-encode_with}
use Rattle.kdc_replay.specs.Octets.{Spells}

pub none_spelt : (octets : List ℕ) → Spells (codes "-") octets → octets ≡ []
none_spelt [] spells = refl
none_spelt (octet ∷ octets) spells = absurd (omega (arith, length-encode_with lower_digits (octet ∷ octets), ap length spells.1))

pub decoded : (word octets : List ℕ) → Spells word octets → word ≢ codes "-" → decode_of word ≡ Ok octets
decoded word [] spells some = absurd (some (sym spells.1))
decoded word (octet ∷ octets) spells some = sym (ap decode_of spells.1) ∙ decode_of-encode_lower (octet ∷ octets) spells.0

pub no_dash : (word : List ℕ) (test : Bool) → test ≡ bytes_eq word (codes "-") → test ≡ false → word ≢ codes "-"
no_dash word test tested failed = λ dash. let yes = (bytes_eq-Decides word (codes "-")).1 dash in cc

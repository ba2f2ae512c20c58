-- Octets as hexadecimal digits.
use Rattle.std.specs.Prelude.{◌≡◌, ℕ, List, [], ◌∷◌, codes}
use Rattle.hex.specs.Hex.{IsBytes, encode_lower}

-- two digits an octet, in lower case; `-` for none
abbrev pub spelling : List ℕ → List ℕ
spelling [] = codes "-"
spelling (octet ∷ octets) = encode_lower (octet ∷ octets)

-- a word spells these octets
abbrev pub Spells : List ℕ → List ℕ → Type 0
Spells word octets = IsBytes octets × (spelling octets ≡ word)

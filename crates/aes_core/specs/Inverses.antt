-- What the two directions are to each other (FIPS 197, section 5.3).
use Rattle.std.specs.Prelude.{◌≡◌, ℕ, ◌*◌, ◌<◌, ◌≤◌, ◌⊎◌, List, length}
use Rattle.std.specs.Simd.Lanes.{Each1}
use Rattle.aes_core.specs.Cipher.{cipher, inv_cipher}
use Rattle.aes_core.specs.KeyExpansion.{key_expansion}

abbrev pub IsByte : ℕ → Type 0
IsByte x = x < 256

-- a list of bytes
abbrev pub AreBytes : List ℕ → Type 0
AreBytes s = Each1 IsByte s

-- 16 bytes
abbrev pub IsBlock : List ℕ → Type 0
IsBlock s = (length s ≡ 16) × AreBytes s

-- e gives a block for each block, and d undoes it
pub record Undoes (e d : List ℕ → List ℕ) : Type 0 where
  pub block : (b : List ℕ) → IsBlock b → IsBlock (e b)
  pub undo : (b : List ℕ) → IsBlock b → d (e b) ≡ b

-- under each key of 128 or 256 bits (nk words) each direction undoes the other
abbrev pub AreInverses : Type 0
AreInverses = (nk : ℕ) (key : List ℕ) → (nk ≡ 4) ⊎ (nk ≡ 8) → 4 * nk ≤ length key → AreBytes key
    → Undoes (cipher (key_expansion nk key)) (inv_cipher (key_expansion nk key)) × Undoes (inv_cipher (key_expansion nk key)) (cipher (key_expansion nk key))

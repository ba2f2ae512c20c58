-- HMAC (RFC 2104) with a hash that works on blocks of 64 bytes, as SHA-1 and MD5 do.
use Rattle.std.specs.Prelude.{ℕ, ◌-◌, List, ◌++◌, length, map, replicate, nat_lt, bit_xor, if◌then◌else◌}
use Rattle.sha1.specs.Sha1.{sha1}
use Rattle.md5.specs.Md5.{md5}

-- a key longer than a block is hashed first (section 2)
abbrev pub short_key : (List ℕ → List ℕ) → List ℕ → List ℕ
short_key hash key = if nat_lt 64 (length key) then hash key else key

-- the key with zeros up to a block, and each byte of it added to this one: 36 (ipad) or 5c (opad)
unfoldable pub pad : (List ℕ → List ℕ) → ℕ → List ℕ → List ℕ
pad hash byte key = map (λ x. bit_xor x byte) (short_key hash key ++ replicate (64 - length (short_key hash key)) 0)

-- HMAC
abbrev pub hmac : (List ℕ → List ℕ) → List ℕ → List ℕ → List ℕ
hmac hash key text = hash (pad hash 0x5c key ++ hash (pad hash 0x36 key ++ text))

abbrev pub hmac_sha1 : List ℕ → List ℕ → List ℕ
hmac_sha1 = hmac sha1

abbrev pub hmac_md5 : List ℕ → List ℕ → List ℕ
hmac_md5 = hmac md5

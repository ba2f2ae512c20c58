-- A checksum of type -138 has 16 bytes.
use Rattle.std.proofs.Common.{◌≡◌, ℕ, zero, suc, ◌*◌, ◌≤◌, List, length, refl, length-append, arith}
use Rattle.std.specs.Prelude.{slice_index}
use Rattle.std.specs.Int.{w32, to_le_bytes}
use Rattle.md5.specs.Md5.{digest_bytes, md5}
use Rattle.krb_crypto.specs.Checksums.{rc4_mac}

word_length : (n : ℕ) → length (to_le_bytes w32 n) ≡ 4
word_length n = refl

digest_length : (h : List ℕ) (n : ℕ) → length (digest_bytes h n) ≡ 4 * n
unfolding digest_bytes
digest_length h zero = refl
digest_length h (suc n) = omega (arith, digest_length h n, length-append (digest_bytes h n) (to_le_bytes w32 (slice_index h n)), word_length (slice_index h n))

md5_length : (m : List ℕ) → length (md5 m) ≡ 16
unfolding md5
md5_length m = digest_length _ 4

pub rc4_short : (key : List ℕ) (usage : ℕ) (text : List ℕ) → length (rc4_mac key usage text) ≤ 16
rc4_short key usage text = let size : length (rc4_mac key usage text) ≡ 16 = md5_length _ in omega (arith, size)

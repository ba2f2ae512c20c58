-- Encryption types and the lengths of their keys (RFC 3962, section 7).
use Rattle.std.specs.Prelude.{ℕ, ℤ, pos, negsuc, Option, None, Some, ◌==◌, if◌then◌else◌}
use Rattle.krb_names.specs.declared.etype.Etype.{Etype}
use Rattle.krb_names.specs.declared.etype.Etype.TheVariants.{Aes128, Aes256}

abbrev pub etype_number : Etype → ℕ
etype_number Aes128 = 17
etype_number Aes256 = 18

abbrev pub etype_numbered : ℤ → Option Etype
etype_numbered (pos n) = if n == 17 then Some Aes128 else (if n == 18 then Some Aes256 else None)
etype_numbered (negsuc n) = None

abbrev pub key_length : Etype → ℕ
key_length Aes128 = 16
key_length Aes256 = 32

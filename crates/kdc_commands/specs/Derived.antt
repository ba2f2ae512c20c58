-- What is printed of a key (RFC 3962, section 4): its octets in hex.
use Rattle.std.specs.Prelude.{ℕ, List}
use Rattle.hex.specs.Hex.{encode_lower}
use Rattle.krb_names.specs.Keys.{key_bytes}
use Rattle.krb_crypto.specs.Passwords.{string_to_key}
use Rattle.kdc_commands.specs.declared.words.Derivation.{Derivation}

abbrev pub key_line : Derivation → List ℕ
key_line from = encode_lower (key_bytes (string_to_key from.etype from.password from.salt from.rounds))

-- Realm (RFC 4120, section 5.2.2): a GeneralString that is one name text.
use Rattle.std.specs.Prelude.{ℕ, List}
use Rattle.der_core.specs.Codec.{Codec}
use Rattle.der_core.specs.Forms.{text_such}
use Rattle.krb_names.specs.Pieces.{is_name}

-- a text that may stand in a name
abbrev pub kerberos_string : Codec (List ℕ)
kerberos_string = text_such is_name

abbrev pub realm : Codec (List ℕ)
realm = kerberos_string

-- The forms of a directory's members. Names are those of RFC 4120, section 6; the limits are an own choice.
use Rattle.std.specs.Prelude.{ℕ, ◌^◌, ◌&&◌, List, codes, not, Bool, nat_eq, nat_lt, is_ok}
use Rattle.std.specs.List.{starts_with}
use Rattle.kdc_prelude.specs.Texts.{same_text}
use Rattle.krb_names.specs.Keys.{is_padded}
use Rattle.krb_names.specs.Pieces.{is_name}
use Rattle.krb_names.specs.Spns.{spn_reading}
use Rattle.dir_records.specs.declared.records.KeyRec.{KeyRec}

-- a number of 32 bits other than 0
abbrev pub is_positive : ℕ → Bool
is_positive n = nat_lt 0 n && nat_lt n (2 ^ 32)

-- a key with its version number, and zeros behind its octets
abbrev pub is_key : KeyRec → Bool
is_key key = is_positive key.version && is_padded key.key

-- one name text that is not the ticket-granting service's
abbrev pub is_account_name : List ℕ → Bool
is_account_name name = is_name name && not (same_text name (codes "krbtgt"))

-- two or three name texts joined by `/`, and not one of the ticket-granting service
abbrev pub is_service_name : List ℕ → Bool
is_service_name spn = is_ok (spn_reading spn) && not (starts_with nat_eq spn (codes "krbtgt/"))

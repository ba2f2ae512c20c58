-- The user of a ticket beside its client.
use Rattle.std.specs.Prelude.{ℕ, ◌+◌, ◌*◌, List, ◌∷◌, ◌++◌, if◌then◌else◌}
use Rattle.krb_names.specs.declared.principal.Principal.{Principal}
use Rattle.kdc_records.specs.Parties.{is_user}

-- FILETIME of seconds since 1970 (MS-DTYP, section 2.3.3): units of 100 nanoseconds since 1601
abbrev pub filetime : ℕ → ℕ
filetime seconds = 116444736000000000 + 10000000 * seconds

-- the name in the client information (MS-PAC, section 2.7): the user's; where the client is another, with `@` and the user's realm
-- behind it (own choice, after MS-SFU, section 3.2.5.1.2)
abbrev pub client_name : List ℕ → List ℕ → Principal → List ℕ
client_name name realm client = if is_user name realm client then name else name ++ 64 ∷ realm

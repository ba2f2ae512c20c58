-- The account that asks (MS-SFU, section 3.2.5), as P2 looks it up; it is the one that G13 and S4 speak of.
use Rattle.std.specs.Prelude.{ℕ, Option, None, slice_get, if◌then◌else◌}
use Rattle.kdc_prelude.specs.Steps.{◌>>=◌}
use Rattle.kdc_prelude.specs.Texts.{same_text}
use Rattle.krb_names.specs.declared.principal.Principal.{Principal}
use Rattle.dir_records.specs.DirectoryValue.{DirectoryValue}
use Rattle.dir_records.specs.declared.records.RealmRec.{RealmRec}
use Rattle.dir_core.specs.Lookups.{account_named, only_part}

-- of this realm, by a name of one part that is the account's; the kind of the name plays no part
abbrev pub account_of_realm : DirectoryValue → ℕ → RealmRec → Principal → Option ℕ
account_of_realm dir at realm client = if same_text client.realm realm.name then only_part client.parts >>= account_named dir at else None

-- the account of the realm at an index whose name and realm a client has
unfoldable pub requestor_account : DirectoryValue → ℕ → Principal → Option ℕ
requestor_account dir at client = slice_get dir.realms at >>= λ realm. account_of_realm dir at realm client

-- What the words of names are made of, for proofs that do not open them further.
use Rattle.std.proofs.Common.{◌≡◌, ℕ, refl}
use Rattle.std.specs.Prelude.{slice_get}
use Rattle.kdc_prelude.specs.Steps.{◌>>=◌}
use Rattle.krb_names.specs.declared.principal.Principal.{Principal}
use Rattle.dir_records.specs.DirectoryValue.{DirectoryValue}
use Rattle.route_rules.specs.Aims.{aim_at, resolve}
use Rattle.route_rules.specs.Meanings.{meaning}
use Rattle.route_rules.specs.Requestor.{account_of_realm, requestor_account}

pub resolve_is : (dir : DirectoryValue) (at : ℕ) (name : Principal) → resolve dir at name ≡ aim_at dir at (meaning dir at name)
unfolding resolve
resolve_is dir at name = refl

pub requestor_account_is : (dir : DirectoryValue) (at : ℕ) (client : Principal)
    → requestor_account dir at client ≡ (slice_get dir.realms at >>= λ realm. account_of_realm dir at realm client)
unfolding requestor_account
requestor_account_is dir at client = refl

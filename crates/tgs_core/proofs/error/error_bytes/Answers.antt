use Rattle.std.proofs.Common.{◌≤◌, length, subst, sym}
use Rattle.std.specs.Option.{option_copied}
use Rattle.krb_messages.specs.declared.krb_error.KrbError.{KrbError}
use Rattle.krb_messages.specs.KrbError.{krb_error}
use Rattle.tgs_core.proofs.WrittenErrors.{written_error_fits, written_error_short}
use Rattle.tgs_core.proofs.error.error_bytes.Goals as goal

pub write_error-requires-clause-fits : goal.write_error-requires-clause-fits
write_error-requires-clause-fits c =
    let a = c.args in
    subst krb_error.Fits (sym c.in_ok-error.ensures) (written_error_fits a.dir.now a.now (option_copied a.message) a.rule c.keeps_directory.ensures c.requires)

pub write_error-requires-clause-short : goal.write_error-requires-clause-short
write_error-requires-clause-short c =
    let a = c.args in
    subst (λ (error : KrbError). length (krb_error.spelling error) ≤ 8192) (sym c.in_ok-error.ensures) (written_error_short a.dir.now a.now (option_copied a.message) a.rule c.keeps_directory.ensures c.requires)

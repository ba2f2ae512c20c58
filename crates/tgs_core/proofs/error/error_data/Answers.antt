use Rattle.std.proofs.Common.{◌≡◌, ◌∙◌, Some, ap, sym}
use Rattle.std.specs.Option.{option_copied}
use Rattle.tgs_core.specs.Errors.{account_asking}
use Rattle.tgs_core.proofs.Askers.{asking_is_member}
use Rattle.tgs_core.proofs.error.error_data.Goals as goal

pub method_bytes-requires-clause-account : goal.method_bytes-requires-clause-account
method_bytes-requires-clause-account c =
    let found : account_asking c.args.dir.now (option_copied c.args.message) ≡ Some c.in-Some.account.now = sym c.account_asking.ensures ∙ ap option_copied c.in-Some.is in
    (asking_is_member c.args.dir.now (option_copied c.args.message) c.in-Some.account.now c.keeps_directory.ensures found).form

pub method_bytes-requires-clause-range : goal.method_bytes-requires-clause-range
method_bytes-requires-clause-range c =
    let found : account_asking c.args.dir.now (option_copied c.args.message) ≡ Some c.in-Some.account.now = sym c.account_asking.ensures ∙ ap option_copied c.in-Some.is in
    (asking_is_member c.args.dir.now (option_copied c.args.message) c.in-Some.account.now c.keeps_directory.ensures found).range

use Rattle.std.proofs.Common.{◌≡◌, ◌++◌, drop, not}
use Rattle.std.specs.Prelude.{filter}
use Rattle.kdc_prelude.specs.Texts.{same_text}
use Rattle.dir_core.proofs.account_edits.without_account.Given as goal

abbrev pub invariant-loop-account : goal.invariant-loop-account
invariant-loop-account l =
    l.kept ++ filter (λ account. not (same_text account.name l.name)) (drop l.account-index l.accounts) ≡ filter (λ account. not (same_text account.name l.name)) l.accounts

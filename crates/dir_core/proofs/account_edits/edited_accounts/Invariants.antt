use Rattle.std.proofs.Common.{◌≡◌, ◌++◌, drop, map}
use Rattle.dir_core.specs.Edits.{account_after}
use Rattle.dir_core.proofs.account_edits.edited_accounts.Given as goal

abbrev pub invariant-loop-account : goal.invariant-loop-account
invariant-loop-account l =
    l.after ++ map (account_after l.change) (drop l.account-index l.accounts) ≡ map (account_after l.change) l.accounts

use Rattle.std.proofs.Common.{◌≡◌, ◌+◌, drop}
use Rattle.dir_records.specs.Members.{accounts_refusal}
use Rattle.dir_records.proofs.members.find_accounts_refusal.Given as goal

abbrev pub invariant-loop-i : goal.invariant-loop-i
invariant-loop-i l = accounts_refusal l.at (l.i + 1) (drop l.i l.accounts) ≡ accounts_refusal l.at 1 l.accounts

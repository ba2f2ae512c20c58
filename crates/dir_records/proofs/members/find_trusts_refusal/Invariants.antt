use Rattle.std.proofs.Common.{◌≡◌, ◌+◌, drop}
use Rattle.dir_records.specs.Members.{trusts_refusal}
use Rattle.dir_records.proofs.members.find_trusts_refusal.Given as goal

abbrev pub invariant-loop-i : goal.invariant-loop-i
invariant-loop-i l = trusts_refusal l.at (l.i + 1) (drop l.i l.trusts) ≡ trusts_refusal l.at 1 l.trusts

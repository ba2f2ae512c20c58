use Rattle.std.proofs.Common.{◌≡◌, ◌++◌, drop, map}
use Rattle.dir_core.specs.Edits.{trust_after}
use Rattle.dir_core.proofs.realm_edits.trusts_after.Given as goal

abbrev pub invariant-loop-trust : goal.invariant-loop-trust
invariant-loop-trust l =
    l.after ++ map (trust_after l.change) (drop l.trust-index l.trusts) ≡ map (trust_after l.change) l.trusts

use Rattle.std.proofs.Common.{◌≡◌, drop}
use Rattle.std.specs.List.{list_any}
use Rattle.dir_core.specs.Lookups.{reaches_from}
use Rattle.dir_core.proofs.lookups.has_trust_reaching.Given as goal

abbrev pub invariant-loop-trust : goal.invariant-loop-trust
invariant-loop-trust l =
    list_any (reaches_from l.partner l.name) (drop l.trust-index l.trusts) ≡ list_any (reaches_from l.partner l.name) l.trusts

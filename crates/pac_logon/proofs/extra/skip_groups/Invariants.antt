use Rattle.std.proofs.Common.{◌≡◌}
use Rattle.ndr_core.specs.Arrays.{repeated}
use Rattle.ndr_core.proofs.Loops.{left}
use Rattle.pac_logon.specs.Referents.{group}
use Rattle.pac_logon.proofs.Loops.{gone}
use Rattle.pac_logon.proofs.extra.skip_groups.Given as goal

abbrev pub invariant-loop : goal.invariant-loop
invariant-loop l = gone (left group l.fn.count l.counter l.from) ≡ gone ((repeated l.fn.count group).reading l.fn.from)

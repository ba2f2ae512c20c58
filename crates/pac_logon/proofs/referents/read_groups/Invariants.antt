use Rattle.std.proofs.Common.{◌≡◌}
use Rattle.ndr_core.specs.Arrays.{repeated}
use Rattle.ndr_core.proofs.Loops.{with_front, left}
use Rattle.pac_logon.specs.Referents.{group}
use Rattle.pac_logon.proofs.referents.read_groups.Given as goal

abbrev pub invariant-loop : goal.invariant-loop
invariant-loop l = with_front l.groups (left group l.fn.count l.counter l.from) ≡ (repeated l.fn.count group).reading l.fn.from

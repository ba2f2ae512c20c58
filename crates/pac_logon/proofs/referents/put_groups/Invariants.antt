use Rattle.std.proofs.Common.{◌≡◌, ◌-◌, length, drop, replicate}
use Rattle.ndr_core.specs.Arrays.{repeated, put_each}
use Rattle.pac_logon.specs.Referents.{group}
use Rattle.pac_logon.proofs.referents.put_groups.Given as goal

abbrev pub invariant-loop-number : goal.invariant-loop-number
invariant-loop-number l = put_each (λ (_ : Unit {0}). group) (replicate (length l.groups - l.number-index) tt) l.to (drop l.number-index l.groups) ≡ (repeated (length l.groups) group).written l.fn.to l.groups

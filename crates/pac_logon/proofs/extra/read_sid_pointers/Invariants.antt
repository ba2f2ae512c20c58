use Rattle.std.proofs.Common.{◌≡◌, length, take}
use Rattle.ndr_core.specs.Arrays.{repeated}
use Rattle.ndr_core.proofs.Loops.{with_front, left}
use Rattle.pac_logon.specs.Referents.{sid_pointer}
use Rattle.pac_logon.proofs.extra.read_sid_pointers.Given as goal

abbrev pub invariant-loop-there : goal.invariant-loop-there
invariant-loop-there l = with_front (take l.there-index l.pointers) (left sid_pointer (length l.fn.pointers) l.there-index l.from) ≡ (repeated (length l.fn.pointers) sid_pointer).reading l.fn.from

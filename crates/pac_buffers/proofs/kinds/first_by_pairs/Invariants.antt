use Rattle.std.proofs.Common.{◌≡◌, [], take, drop}
use Rattle.pac_buffers.specs.Container.{first_twice}
use Rattle.pac_buffers.proofs.kinds.first_by_pairs.Given as goal

abbrev pub invariant-loop-i : goal.invariant-loop-i
invariant-loop-i l = first_twice (take l.i l.list) (drop l.i l.list) ≡ first_twice [] l.list

use Rattle.std.proofs.Common.{◌≡◌, [], take, drop}
use Rattle.pac_buffers.specs.Container.{overlap}
use Rattle.pac_buffers.proofs.overlap.any_pair_shares_byte.Given as goal

abbrev pub invariant-loop-i : goal.invariant-loop-i
invariant-loop-i l = overlap (take l.i l.list) (drop l.i l.list) ≡ overlap [] l.list

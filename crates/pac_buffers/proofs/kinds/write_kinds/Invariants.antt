use Rattle.std.proofs.Common.{◌≡◌, take}
use Rattle.pac_buffers.specs.Kinds.{numbered}
use Rattle.pac_buffers.proofs.kinds.write_kinds.Given as goal

abbrev pub invariant-loop-i : goal.invariant-loop-i
invariant-loop-i l = take l.i l.kinds ≡ numbered 0 (take l.i l.list)

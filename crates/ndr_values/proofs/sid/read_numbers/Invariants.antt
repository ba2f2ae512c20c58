use Rattle.std.proofs.Common.{◌≡◌, length, take}
use Rattle.std.specs.Int.{w32}
use Rattle.ndr_core.specs.Fields.{number}
use Rattle.ndr_core.specs.Arrays.{repeated}
use Rattle.ndr_core.proofs.Loops.{with_front, left}
use Rattle.ndr_values.proofs.sid.read_numbers.Given as goal

abbrev pub invariant-loop-number : goal.invariant-loop-number
invariant-loop-number l = with_front (take l.number-index l.numbers) (left (number w32) (length l.fn.numbers) l.number-index l.from) ≡ (repeated (length l.fn.numbers) (number w32)).reading l.fn.from

use Rattle.std.proofs.Common.{◌≡◌, ◌-◌, length, drop, replicate}
use Rattle.std.specs.Int.{w32}
use Rattle.ndr_core.specs.Fields.{number}
use Rattle.ndr_core.specs.Arrays.{repeated, put_each}
use Rattle.ndr_values.proofs.sid.put_numbers.Given as goal

abbrev pub invariant-loop-number : goal.invariant-loop-number
invariant-loop-number l = put_each (λ (_ : Unit {0}). number w32) (replicate (length l.numbers - l.number-index) tt) l.to (drop l.number-index l.numbers) ≡ (repeated (length l.numbers) (number w32)).written l.fn.to l.numbers

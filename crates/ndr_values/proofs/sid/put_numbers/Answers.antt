use Rattle.std.proofs.Common.{◌∙◌, sym, arith}
use Rattle.std.specs.Int.{w32}
use Rattle.ndr_core.specs.Fields.{number}
use Rattle.ndr_core.proofs.Loops.{puts_on}
use Rattle.ndr_values.proofs.SidLaws.{numbers_fit}
use Rattle.ndr_values.proofs.sid.put_numbers.Goals as goal

pub loop-number-preserved : goal.loop-number-preserved
loop-number-preserved c =
    rw c.in_ok-u32.ensures.ok (sym (puts_on (number w32) c.args.numbers.now c.loop-number.number-index 0 c.loop-number.to c.loop-number-test.true) ∙ c.loop-number.invariant)

pub returns-in_err-u32-clause-fits : goal.returns-in_err-u32-clause-fits
returns-in_err-u32-clause-fits c = numbers_fit c.args.numbers.now (λ k. omega (arith, c.type_inv.numbers k))

pub returns-clause-fits : goal.returns-clause-fits
returns-clause-fits c = numbers_fit c.args.numbers.now (λ k. omega (arith, c.type_inv.numbers k))

use Rattle.std.proofs.Common.{length, take, arith}
use Rattle.std.specs.Int.{w32}
use Rattle.std.proofs.lemmas.List.{take_more_set, take_all}
use Rattle.std.proofs.lemmas.Result.{err_from_is_err_and}
use Rattle.ndr_core.specs.declared.fault.LogonFault.TheVariants.{Ndr}
use Rattle.ndr_core.specs.Fields.{number}
use Rattle.ndr_core.specs.Arrays.{repeated}
use Rattle.ndr_core.proofs.Loops.{goes_on, ends, is_done}
use Rattle.ndr_values.proofs.sid.read_numbers.Goals as goal

pub returns-in_err-number : goal.returns-in_err-number
returns-in_err-number c =
    let p = err_from_is_err_and c.from_residual.result c.from_residual.ensures.1 in
    let count = length c.args.numbers.now in
    rw (p.1, p.2) (ends (number w32) (take c.loop-number.number-index c.loop-number.numbers) count c.loop-number.number-index c.loop-number.from (Ndr c.in_err-number.field-0.0) ((repeated count (number w32)).reading c.args.from.now)
    c.loop-number-test.true c.in_err-number.ensures.exact.0 c.loop-number.invariant)

pub loop-number-preserved : goal.loop-number-preserved
loop-number-preserved c =
    let count = length c.args.numbers.now in
    rw (take_more_set c.loop-number.numbers c.loop-number.number-index c.in_ok-number.field-0 (omega arith)) (goes_on (number w32) (take c.loop-number.number-index c.loop-number.numbers) count c.loop-number.number-index c.loop-number.from c.u32.new.self c.in_ok-number.field-0 ((repeated count (number w32)).reading c.args.from.now)
    c.loop-number-test.true c.in_ok-number.ensures.exact c.loop-number.invariant)

pub returns : goal.returns
returns c =
    let count = length c.args.numbers.now in
    rw (← take_all c.loop-number.number-index c.loop-number.numbers (omega arith)) (is_done (number w32) (take c.loop-number.number-index c.loop-number.numbers) count c.loop-number.number-index c.loop-number.from ((repeated count (number w32)).reading c.args.from.now) (omega arith) c.loop-number.invariant)

use Rattle.std.proofs.Common.{length, take, arith}
use Rattle.std.proofs.lemmas.List.{take_more_set, take_all}
use Rattle.std.proofs.lemmas.Result.{err_from_is_err_and}
use Rattle.ndr_core.specs.declared.fault.LogonFault.TheVariants.{Ndr}
use Rattle.ndr_core.specs.Arrays.{repeated}
use Rattle.ndr_core.proofs.Loops.{goes_on, ends, is_done}
use Rattle.pac_logon.specs.Referents.{sid_pointer}
use Rattle.pac_logon.proofs.extra.read_sid_pointers.Goals as goal

pub returns-in_err-there : goal.returns-in_err-there
returns-in_err-there c =
    let p = err_from_is_err_and c.from_residual.result c.from_residual.ensures.1 in
    let count = length c.args.pointers.now in
    rw (p.1, p.2) (ends sid_pointer (take c.loop-there.there-index c.loop-there.pointers) count c.loop-there.there-index c.loop-there.from (Ndr c.in_err-there.field-0.0) ((repeated count sid_pointer).reading c.args.from.now)
    c.loop-there-test.true c.in_err-there.ensures c.loop-there.invariant)

pub loop-there-preserved : goal.loop-there-preserved
loop-there-preserved c =
    let count = length c.args.pointers.now in
    rw (take_more_set c.loop-there.pointers c.loop-there.there-index c.in_ok-there.field-0 (omega arith)) (goes_on sid_pointer (take c.loop-there.there-index c.loop-there.pointers) count c.loop-there.there-index c.loop-there.from c.read_sid_pointer.new.from c.in_ok-there.field-0 ((repeated count sid_pointer).reading c.args.from.now)
    c.loop-there-test.true c.in_ok-there.ensures c.loop-there.invariant)

pub returns : goal.returns
returns c =
    let count = length c.args.pointers.now in
    rw (← take_all c.loop-there.there-index c.loop-there.pointers (omega arith)) (is_done sid_pointer (take c.loop-there.there-index c.loop-there.pointers) count c.loop-there.there-index c.loop-there.from ((repeated count sid_pointer).reading c.args.from.now) (omega arith) c.loop-there.invariant)

use Rattle.std.proofs.lemmas.Result.{err_from_is_err_and}
use Rattle.ndr_core.specs.declared.fault.LogonFault.TheVariants.{Ndr}
use Rattle.ndr_core.specs.Arrays.{repeated}
use Rattle.ndr_core.proofs.Loops.{goes_on, ends, is_done}
use Rattle.pac_logon.specs.Referents.{group}
use Rattle.pac_logon.proofs.referents.read_groups.Goals as goal

pub returns-in_err-group : goal.returns-in_err-group
returns-in_err-group c =
    let p = err_from_is_err_and c.from_residual.result c.from_residual.ensures.1 in
    rw (p.1, p.2) (ends group c.loop.groups c.args.count c.loop.counter c.loop.from (Ndr c.in_err-group.field-0.0) ((repeated c.args.count group).reading c.args.from.now) c.loop-test.true c.in_err-group.ensures c.loop.invariant)

pub loop-preserved : goal.loop-preserved
loop-preserved c =
    rw c.in_ok-push.ensures.ok (goes_on group c.loop.groups c.args.count c.loop.counter c.loop.from c.read_group.new.from c.in_ok-group.group ((repeated c.args.count group).reading c.args.from.now) c.loop-test.true c.in_ok-group.ensures c.loop.invariant)

pub returns : goal.returns
returns c = is_done group c.loop.groups c.args.count c.loop.counter c.loop.from ((repeated c.args.count group).reading c.args.from.now) c.loop-test.false c.loop.invariant

use Rattle.std.proofs.lemmas.Result.{err_from_is_err_and}
use Rattle.ndr_core.specs.declared.fault.LogonFault.TheVariants.{Ndr}
use Rattle.ndr_core.specs.Arrays.{repeated}
use Rattle.pac_logon.specs.Referents.{group}
use Rattle.pac_logon.proofs.Loops.{gone, gone_on, gone_ends, all_gone}
use Rattle.pac_logon.proofs.extra.skip_groups.Goals as goal

pub returns-in_err-read_group : goal.returns-in_err-read_group
returns-in_err-read_group c =
    let p = err_from_is_err_and c.from_residual.result c.from_residual.ensures.1 in
    rw (p.1, p.2) (gone_ends group c.args.count c.loop.counter c.loop.from (Ndr c.in_err-read_group.field-0.0) (gone ((repeated c.args.count group).reading c.args.from.now)) c.loop-test.true c.in_err-read_group.ensures c.loop.invariant)

pub loop-preserved : goal.loop-preserved
loop-preserved c =
    gone_on group c.args.count c.loop.counter c.loop.from c.read_group.new.from c.in_ok-read_group.field-0 (gone ((repeated c.args.count group).reading c.args.from.now)) c.loop-test.true c.in_ok-read_group.ensures c.loop.invariant

pub returns : goal.returns
returns c = all_gone group c.args.count c.loop.counter c.loop.from (gone ((repeated c.args.count group).reading c.args.from.now)) c.loop-test.false c.loop.invariant

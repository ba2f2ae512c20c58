use Rattle.std.proofs.lemmas.Result.{err_from_is_err_and}
use Rattle.ndr_core.specs.declared.fault.LogonFault.TheVariants.{Ndr}
use Rattle.ndr_core.specs.Arrays.{repeated}
use Rattle.ndr_core.proofs.Loops.{goes_on, ends, is_done}
use Rattle.ndr_values.specs.Texts.{string_head}
use Rattle.pac_buffers.proofs.delegation_info.read_heads.Goals as goal

pub returns-in_err-head : goal.returns-in_err-head
returns-in_err-head c =
    let p = err_from_is_err_and c.from_residual.result c.from_residual.ensures.1 in
    rw (p.1, p.2) (ends string_head c.loop.heads.items c.args.count c.loop.counter c.loop.from (Ndr c.in_err-head.field-0.0) ((repeated c.args.count string_head).reading c.args.from.now) c.loop-test.true c.in_err-head.ensures.exact c.loop.invariant)

pub loop-preserved : goal.loop-preserved
loop-preserved c =
    rw c.in_ok-push.ensures.items (goes_on string_head c.loop.heads.items c.args.count c.loop.counter c.loop.from c.read_head.new.from c.in_ok-head.head ((repeated c.args.count string_head).reading c.args.from.now) c.loop-test.true c.in_ok-head.ensures.exact c.loop.invariant)

pub returns : goal.returns
returns c = is_done string_head c.loop.heads.items c.args.count c.loop.counter c.loop.from ((repeated c.args.count string_head).reading c.args.from.now) c.loop-test.false c.loop.invariant

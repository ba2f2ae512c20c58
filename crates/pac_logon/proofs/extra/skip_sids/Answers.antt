use Rattle.std.proofs.lemmas.Result.{err_from_is_err_and}
use Rattle.ndr_core.specs.declared.fault.LogonFault.TheVariants.{Ndr}
use Rattle.ndr_core.specs.Arrays.{each_at}
use Rattle.pac_logon.specs.Referents.{sid_past}
use Rattle.pac_logon.proofs.Loops.{gone, sid_gone_on, sid_gone_ends, sids_gone}
use Rattle.pac_logon.proofs.extra.skip_sids.Goals as goal

pub returns-in_err-skip_sid : goal.returns-in_err-skip_sid
returns-in_err-skip_sid c =
    let p = err_from_is_err_and c.from_residual.result c.from_residual.ensures.1 in
    rw (p.1, p.2) (sid_gone_ends c.args.pointers.now c.loop-there.there-index _ c.loop-there.from (Ndr c.in_err-skip_sid.field-0.0) (gone (each_at sid_past c.args.pointers.now c.args.from.now)) c.loop-there-test.true c.in_err-skip_sid.ensures c.loop-there.invariant)

pub loop-there-preserved : goal.loop-there-preserved
loop-there-preserved c =
    sid_gone_on c.args.pointers.now c.loop-there.there-index _ c.loop-there.from c.skip_sid.new.from c.in_ok-skip_sid.field-0 (gone (each_at sid_past c.args.pointers.now c.args.from.now)) c.loop-there-test.true c.in_ok-skip_sid.ensures c.loop-there.invariant

pub returns : goal.returns
returns c = sids_gone c.args.pointers.now c.loop-there.there-index c.loop-there.from (gone (each_at sid_past c.args.pointers.now c.args.from.now)) c.loop-there-test.false c.loop-there.invariant

use Rattle.std.proofs.Common.{◌∙◌, sym}
use Rattle.ndr_core.proofs.Loops.{puts_on}
use Rattle.pac_logon.specs.Referents.{group}
use Rattle.pac_logon.proofs.referents.put_groups.Goals as goal

pub loop-number-preserved : goal.loop-number-preserved
loop-number-preserved c =
    rw c.in_ok-put_group.ensures (sym (puts_on group c.args.groups.now c.loop-number.number-index 0 c.loop-number.to c.loop-number-test.true) ∙ c.loop-number.invariant)

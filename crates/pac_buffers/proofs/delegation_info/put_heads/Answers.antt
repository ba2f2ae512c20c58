use Rattle.std.proofs.Common.{◌∙◌, sym}
use Rattle.pac_buffers.proofs.Loops.{head_puts_on}
use Rattle.pac_buffers.proofs.delegation_info.put_heads.Goals as goal

pub loop-text-preserved : goal.loop-text-preserved
loop-text-preserved c =
    rw (c.in_ok-put_head.ensures.ok, c.as_str.ensures) (sym (head_puts_on c.args.texts.now c.loop-text.text-index c.text-item.result c.loop-text.to c.loop-text-test.true c.text-item.is) ∙ c.loop-text.invariant)

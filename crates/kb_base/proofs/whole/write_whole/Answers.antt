use Rattle.std.proofs.Common.{◌∙◌, arith}
use Rattle.kb_base.proofs.Known.{appends_more}
use Rattle.kb_base.proofs.whole.write_whole.Goals as goal

pub loop-at-preserved : goal.loop-at-preserved
loop-at-preserved g c =
    record {
      within = omega (arith, c.in_ok-at.ensures.bound);
      written = appends_more _ _ _ c.args.piece.now c.loop-at.at c.in_ok-at.field-0 c.loop-at.invariant.written c.in_ok-at.ensures.bytes;
      kept = c.in_ok-at.ensures.cause.failed ∙ c.loop-at.invariant.kept;
    }

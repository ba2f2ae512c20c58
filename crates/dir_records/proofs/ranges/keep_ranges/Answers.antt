use Rattle.std.proofs.Common.{arith}
use Rattle.dir_records.proofs.Tables.{below_next, from_below}
use Rattle.dir_records.proofs.ranges.keep_ranges.Goals as goal

pub loop-item-init : goal.loop-item-init
loop-item-init g c = λ k lt x e. absurd (omega (arith, lt))

pub loop-item-preserved : goal.loop-item-preserved
loop-item-preserved g c =
    below_next g.T.InRange.in_range c.args.items.now c.loop-item.item-index c.item-item.result c.loop-item-test.true c.item-item.is c.keeps_range.ensures c.loop-item.invariant

pub returns : goal.returns
returns g c = from_below g.T.InRange.in_range c.args.items.now c.loop-item.item-index c.loop-item-test.false c.loop-item.invariant

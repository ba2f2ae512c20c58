use Rattle.dir_records.proofs.Tables.{AllBelow}
use Rattle.dir_records.proofs.ranges.keep_ranges.Given as goal

abbrev pub invariant-loop-item : goal.invariant-loop-item
invariant-loop-item g l = AllBelow g.T.InRange.in_range l.items l.item-index

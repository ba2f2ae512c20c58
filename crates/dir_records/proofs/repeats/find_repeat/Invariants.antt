use Rattle.std.proofs.Common.{◌≡◌, drop}
use Rattle.std.specs.Ordering.{eq_by_cmp}
use Rattle.dir_records.specs.Repeats.{first_repeat, repeat_after}
use Rattle.dir_records.proofs.repeats.find_repeat.Given as goal

abbrev pub invariant-loop-mark : goal.invariant-loop-mark
invariant-loop-mark g l =
    repeat_after (eq_by_cmp g.K.Ord.cmp) l.seen.keys (drop l.mark-index l.marks) ≡ first_repeat (eq_by_cmp g.K.Ord.cmp) l.marks

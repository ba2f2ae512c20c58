use Rattle.std.proofs.Common.{◌≡◌, drop}
use Rattle.kdc_prelude.specs.Distinct.{all_distinct}
use Rattle.dir_records.proofs.entry.are_distinct.Given as goal

abbrev pub invariant-loop-i : goal.invariant-loop-i
invariant-loop-i g l = all_distinct g.T.Entry.same (drop l.i l.entries) ≡ all_distinct g.T.Entry.same l.entries

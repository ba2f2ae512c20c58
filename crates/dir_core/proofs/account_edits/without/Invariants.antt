use Rattle.std.proofs.Common.{◌≡◌, ◌++◌, drop}
use Rattle.dir_core.specs.Edits.{without}
use Rattle.dir_core.proofs.account_edits.without.Given as goal

abbrev pub invariant-loop-other : goal.invariant-loop-other
invariant-loop-other g l =
    l.kept ++ without g.T.Entry.same l.entry (drop l.other-index l.entries) ≡ without g.T.Entry.same l.entry l.entries

use Rattle.std.proofs.Common.{◌≡◌, ◌+◌, drop, map}
use Rattle.change_lines.specs.Batches.{lines_after}
use Rattle.change_lines.proofs.batch.apply_lines.Given as goal

abbrev pub invariant-loop-line : goal.invariant-loop-line
invariant-loop-line l =
    record {
      number : l.n ≡ l.line-index;
      applied : lines_after (l.n + 1) (map (λ line. line.now) (drop l.line-index l.lines)) l.dir ≡ lines_after 1 (map (λ line. line.now) l.lines) l.initial.dir;
    }

use Rattle.std.proofs.Common.{arith, ap, length}
use Rattle.change_lines.proofs.LineCounts.{few_lines}
use Rattle.change_lines.proofs.batch.apply_changes.Goals as goal

pub apply_lines-requires : goal.apply_lines-requires
apply_lines-requires c =
    omega (arith, ap length c.as_slice.ensures.value, few_lines c.args.lines.now c.in_ok-lines.lines.items c.in_ok-lines.ensures, c.requires)

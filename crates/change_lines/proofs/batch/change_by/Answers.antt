use Rattle.std.proofs.Common.{subst, sym}
use Rattle.std.specs.Prelude.{Result}
use Rattle.dir_records.specs.DirectoryValue.{DirectoryValue}
use Rattle.dir_records.specs.declared.refusal.DirCause.{DirCause}
use Rattle.dir_records.specs.declared.refusal.DirCause.TheVariants.{NoMemory}
use Rattle.change_lines.specs.Batches.{Becomes}
use Rattle.change_lines.proofs.Outcomes.{becomes, line_made}
use Rattle.change_lines.proofs.batch.change_by.Goals as goal

pub returns : goal.returns
returns c =
    let made = line_made c.args.dir.now c.args.line.now c.in_ok-change.change c.if-is_empty.ensures c.in_ok-change.ensures in
    let P : Result DirectoryValue DirCause → Type 0 = λ outcome. Becomes NoMemory c.change.result c.change.new.self outcome in
    subst P (sym made) (becomes NoMemory c.change.result c.change.new.self _ c.change.ensures.ok c.change.ensures.cause)

use Rattle.std.proofs.Common.{sym, ap, ◌∙◌}
use Rattle.std.specs.Prelude.{Some}
use Rattle.kdc_commands.proofs.Readable.{not_readable, is_readable}
use Rattle.kdc_commands.proofs.question.text_of.Goals as goal

pub returns-in-Err : goal.returns-in-Err
returns-in-Err c = sym (not_readable c.args.line.now c.in-Err.ensures.cases.0)

pub returns-in-Ok : goal.returns-in-Ok
returns-in-Ok c = ap Some c.in-Ok.ensures.cases.0 ∙ sym (is_readable c.args.line.now c.if-line-gt-MAX_LINE.false c.in-Ok.ensures.cases.1)

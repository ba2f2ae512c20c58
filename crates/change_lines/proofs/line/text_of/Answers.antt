use Rattle.std.proofs.Common.{ap, sym}
use Rattle.std.specs.Prelude.{Ok}
use Rattle.std.proofs.lemmas.Str.{is_utf8-from_IsUtf8}
use Rattle.kdc_prelude.proofs.Texts.{is_utf8-false}
use Rattle.change_lines.specs.ChangeLines.{text_of}
use Rattle.change_lines.proofs.line.text_of.Goals as goal

pub returns-in-Ok : goal.returns-in-Ok
unfolding text_of
returns-in-Ok c = rw (is_utf8-from_IsUtf8 c.args.line.now c.in-Ok.ensures.cases.1) (ap Ok (sym c.in-Ok.ensures.cases.0))

pub returns-in-Err : goal.returns-in-Err
unfolding text_of
returns-in-Err c = rw (is_utf8-false c.args.line.now c.in-Err.ensures.cases.0)

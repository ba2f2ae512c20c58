use Rattle.std.proofs.Common.{sym, ap, ◌∙◌}
use Rattle.serde_json.specs.Read.{read}
use Rattle.dir_text.specs.DirectoryText.{or_not_json}
use Rattle.dir_text.proofs.JsonTexts.{json_yes, json_no}
use Rattle.dir_text.proofs.read.parse_json.Goals as goal

pub returns-in-Ok-from_str : goal.returns-in-Ok-from_str
returns-in-Ok-from_str c = ap or_not_json (json_yes c.args.text.now c.in-Ok.ensures.cases.1 ∙ ap read (sym c.in-Ok.ensures.cases.0) ∙ c.in-Ok-from_str.ensures.ok)

pub returns-in-Err : goal.returns-in-Err
returns-in-Err c = λ known. rw c.not_json-in-Err.ensures (ap or_not_json (json_no c.args.text.now c.in-Err.ensures.cases.0))

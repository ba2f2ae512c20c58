use Rattle.std.proofs.Common.{rules}
use Rattle.change_lines.proofs.Services.{service_read}
use Rattle.change_lines.proofs.fields.service_of.Goals as goal

pub returns-in-Ok : goal.returns-in-Ok
returns-in-Ok c = service_read c.args.text.now c.in-Ok.spn c.in-Ok.ensures (search rules)

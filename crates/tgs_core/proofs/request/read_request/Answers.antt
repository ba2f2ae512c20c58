use Rattle.std.proofs.Common.{◌∙◌, sym}
use Rattle.tgs_core.proofs.Openings.{not_read}
use Rattle.tgs_core.proofs.request.read_request.Goals as goal

pub returns-else-is_within_limit-clause-value : goal.returns-else-is_within_limit-clause-value
returns-else-is_within_limit-clause-value c = not_read c.args.bytes.now (sym c.is_within_limit.ensures ∙ c.if-is_within_limit.false)

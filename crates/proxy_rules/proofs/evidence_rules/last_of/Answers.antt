use Rattle.std.proofs.Common.{◌∙◌}
use Rattle.proxy_rules.proofs.Lasts.{last_is}
use Rattle.proxy_rules.proofs.evidence_rules.last_of.Goals as goal

pub returns : goal.returns
returns c = c.last.ensures.value ∙ last_is c.args.texts.now

use Rattle.std.proofs.Common.{subst}
use Rattle.std.specs.Str.{IsUtf8}
use Rattle.route_rules.proofs.Joined.{joined_text_if}
use Rattle.route_rules.proofs.services.+put_joined.Goals as goal

pub returns-in_ok-behind_slash-in-len1-up-clause-text : goal.returns-in_ok-behind_slash-in-len1-up-clause-text
returns-in_ok-behind_slash-in-len1-up-clause-text t c =
    joined_text_if c.put_joined.result c.args.parts.now c.part-item-2.result c.in-len1-up.len_at_least c.part-item-2.is
    (subst IsUtf8 c.as_str-in-len1-up.ensures c.put-in-len1-up.ensures.text) c.put-in-len1-up-2.ensures.text c.put_joined.ensures.text

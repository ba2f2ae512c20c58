use Rattle.std.proofs.Common.{sym, ◌∙◌}
use Rattle.std.specs.List.{join_with_byte}
use Rattle.s4u_rules.proofs.Stripped.{front_alone, no_front}
use Rattle.s4u_rules.proofs.texts.is_joined.Goals as goal

pub returns-in-Some : goal.returns-in-Some
returns-in-Some c =
    front_alone c.args.text.now (join_with_byte 47 c.args.parts.now) c.in-Some.rest.now c.is_empty.result (sym c.as_bytes.ensures.value ∙ c.in-Some.ensures) c.is_empty.ensures

pub returns-in-None : goal.returns-in-None
returns-in-None c = no_front c.args.text.now (join_with_byte 47 c.args.parts.now) (λ rest whole. c.in-None.ensures rest (c.as_bytes.ensures.value ∙ whole))

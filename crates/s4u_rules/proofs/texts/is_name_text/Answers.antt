use Rattle.std.proofs.Common.{◌++◌, ◌∙◌, ℕ, List, ap, sym}
use Rattle.std.specs.List.{join_with_byte}
use Rattle.kdc_prelude.specs.Texts.{same_text}
use Rattle.s4u_rules.proofs.Stripped.{at_is, no_at}
use Rattle.s4u_rules.proofs.texts.is_name_text.Goals as goal

pub returns-in-Some-strip : goal.returns-in-Some-strip
returns-in-Some-strip c =
    let name = c.args.name.now in
    let behind = c.in-Some.behind_name.now in
    let realm = c.in-Some-strip.realm.now in
    at_is c.args.text.now (join_with_byte 47 name.parts) behind realm name.realm c.eq.result
    (sym c.as_bytes.ensures.value ∙ c.in-Some.ensures ∙ ap (λ (parts : List (List ℕ)). join_with_byte 47 parts ++ behind) c.as_slice.ensures)
    c.in-Some-strip.ensures
    (c.eq.ensures ∙ ap (same_text realm) (c.as_bytes-in-Some-strip.ensures.value ∙ c.as_str.ensures))

pub returns-in-None : goal.returns-in-None
returns-in-None c =
    let name = c.args.name.now in
    let behind = c.in-Some.behind_name.now in
    no_at c.args.text.now (join_with_byte 47 name.parts) behind name.realm
    (sym c.as_bytes.ensures.value ∙ c.in-Some.ensures ∙ ap (λ (parts : List (List ℕ)). join_with_byte 47 parts ++ behind) c.as_slice.ensures)
    c.in-None.ensures

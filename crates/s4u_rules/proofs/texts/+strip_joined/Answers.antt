use Rattle.std.proofs.Common.{◌++◌, ◌∙◌, ℕ, List, ap}
use Rattle.s4u_rules.proofs.Stripped.{no_slash, stripped_more}
use Rattle.s4u_rules.proofs.texts.+strip_joined.Goals as goal

pub returns-in_err-behind_slash-in-len1-up : goal.returns-in_err-behind_slash-in-len1-up
returns-in_err-behind_slash-in-len1-up t c =
    let behind = c.in_ok-behind_part-in-len1-up.behind_part.now in
    rw c.from_residual-in_err-behind_slash-in-len1-up.ensures
    (no_slash c.args.text.now c.part-item-2.result behind c.args.parts.now c.in-len1-up.len_at_least c.part-item-2.is
    (c.in_ok-behind_part-in-len1-up.ensures ∙ ap (λ (v : List ℕ). v ++ behind) c.as_str-in-len1-up.ensures)
    c.in_err-behind_slash-in-len1-up.ensures)

pub returns-in_ok-behind_slash-in-len1-up : goal.returns-in_ok-behind_slash-in-len1-up
returns-in_ok-behind_slash-in-len1-up t c =
    let behind = c.in_ok-behind_part-in-len1-up.behind_part.now in
    stripped_more c.strip_joined.result c.args.text.now c.part-item-2.result behind c.in_ok-behind_slash-in-len1-up.behind_slash.now c.args.parts.now
    c.in-len1-up.len_at_least c.part-item-2.is
    (c.in_ok-behind_part-in-len1-up.ensures ∙ ap (λ (v : List ℕ). v ++ behind) c.as_str-in-len1-up.ensures)
    c.in_ok-behind_slash-in-len1-up.ensures c.strip_joined.ensures

use Rattle.std.proofs.Common.{ℕ, ◌-◌, List, ◌∷◌, ◌++◌, length, take, drop, string_bytes, sym, ap, ◌∙◌, append_assoc}
use Rattle.std.specs.List.{flat_map}
use Rattle.std.proofs.lemmas.List.{take_all}
use Rattle.krb_names.proofs.Joined.{joined_names}
use Rattle.krb_names.proofs.name_text.push_joined.Goals as goal

pub returns : goal.returns
returns c =
    let separator = c.args.separator in
    let texts = c.args.texts.now in
    let others : List (List ℕ) = take (length texts - 1) (drop 1 texts) in
    let first = c.first-item.result in
    let old = string_bytes c.args.text.now in
    c.loop-other.invariant
    ∙ ap (λ (v : List (List ℕ)). string_bytes c.push_str.new.self ++ flat_map (λ (y : List ℕ). separator ∷ y) v) (take_all c.loop-other.other-index others c.loop-other-test.false)
    ∙ ap (λ (v : List ℕ). v ++ flat_map (λ (y : List ℕ). separator ∷ y) others) (c.in_ok-push_str.ensures.bytes ∙ ap (λ (b : List ℕ). old ++ b) c.as_str.ensures)
    ∙ append_assoc old first (flat_map (λ (y : List ℕ). separator ∷ y) others)
    ∙ ap (λ (v : List ℕ). old ++ v) (sym (joined_names separator texts first c.in-len1-up.len_at_least c.first-item.is))

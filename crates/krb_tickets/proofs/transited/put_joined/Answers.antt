use Rattle.std.proofs.Common.{ℕ, ◌-◌, List, ◌∷◌, ◌++◌, length, take, drop, sym, ap, ◌∙◌, append_assoc}
use Rattle.std.specs.List.{flat_map}
use Rattle.std.proofs.lemmas.List.{take_all}
use Rattle.krb_names.proofs.Joined.{joined_names}
use Rattle.krb_tickets.proofs.transited.put_joined.Goals as goal

pub returns : goal.returns
returns c =
    let names = c.args.names.now in
    let others : List (List ℕ) = take (length names - 1) (drop 1 names) in
    let first = c.first-item.result in
    let old = c.args.to.now in
    record {
      ok = c.loop-name.invariant
          ∙ ap (λ (v : List (List ℕ)). c.raw.new.self ++ flat_map (λ (y : List ℕ). 44 ∷ y) v) (take_all c.loop-name.name-index others c.loop-name-test.false)
          ∙ ap (λ (v : List ℕ). v ++ flat_map (λ (y : List ℕ). 44 ∷ y) others) (c.in_ok-raw.ensures.ok ∙ ap (λ (b : List ℕ). old ++ b) (c.as_bytes.ensures.value ∙ c.as_str.ensures))
          ∙ append_assoc old first (flat_map (λ (y : List ℕ). 44 ∷ y) others)
          ∙ ap (λ (v : List ℕ). old ++ v) (sym (joined_names 44 names first c.in-len1-up.len_at_least c.first-item.is));
    }

use Rattle.std.proofs.Common.{◌≡◌, ◌≢◌, ◌++◌, ℕ, List, subst}
use Rattle.std.specs.Prelude.{MatchOption}
use Rattle.std.proofs.lemmas.Bool.Decides.{Decides-eqb}
use Rattle.std.proofs.lemmas.Slice.Eq.{strip_prefix_is}
use Rattle.s4u_rules.proofs.texts.strip.Goals as goal

pub returns : goal.returns
returns c =
    let text = c.args.text.now in
    let r = c.strip_prefix.result in
    subst (λ (front : List ℕ). MatchOption r ((rest : List ℕ) → text ≢ front ++ rest) (λ rest. text ≡ front ++ rest.now)) c.as_bytes.ensures.value
    (strip_prefix_is Decides-eqb text c.as_bytes.result.now r c.strip_prefix.ensures.cases)

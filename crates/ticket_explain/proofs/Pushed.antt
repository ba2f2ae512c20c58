-- A text that was added to in three steps.
use Rattle.std.proofs.Common.{◌≡◌, List, ℕ, ◌++◌, Result, Ok, Err, is_ok, OnOk, ap, ◌∙◌, append_assoc}
use Rattle.std.specs.Prelude.{if◌then◌else◌}

pub in_three : {E : Type 0} (r : Result (Unit {0}) E) (old first second third a b new : List ℕ) → a ≡ old ++ first → b ≡ a ++ second
    → new ≡ (if is_ok r then b ++ third else b) → OnOk r (new ≡ old ++ (first ++ second ++ third))
in_three (Ok x) old first second third a b new e f g =
    g ∙ ap (λ (v : List ℕ). v ++ third) (f ∙ ap (λ (v : List ℕ). v ++ second) e ∙ append_assoc old first second) ∙ append_assoc old (first ++ second) third
in_three (Err fault) old first second third a b new e f g = tt

-- The last of a list.
use Rattle.std.proofs.Common.{◌≡◌, ◌-◌, List, [], ◌∷◌, ◌∙◌, ℕ, suc, length, arith, refl, ap}
use Rattle.std.specs.Prelude.{slice_get}
use Rattle.proxy_rules.specs.ProxyRules.{last_of}

pub last_is : (texts : List (List ℕ)) → slice_get texts (length texts - 1) ≡ last_of texts
last_is [] = refl
last_is (text ∷ []) = refl
last_is (text ∷ next ∷ texts) =
    let place : length (text ∷ next ∷ texts) - 1 ≡ suc (length (next ∷ texts) - 1) = omega arith in
    ap (slice_get (text ∷ next ∷ texts)) place ∙ last_is (next ∷ texts)

-- Pieces that are tested one after the other.
use Rattle.std.proofs.Common.{◌≡◌, ℕ, ◌+◌, ◌<◌, true, false, List, [], ◌∷◌, ◌++◌, length, get_or, take, map, sym, ap, ◌∙◌, arith}
use Rattle.std.proofs.Math.ListN.{get_or-map}
use Rattle.std.proofs.lemmas.List.{length-map, take_more}
use Rattle.std.proofs.lemmas.List.Folds.{list_all_at, list_all_more}
use Rattle.std.specs.List.{list_all}
use Rattle.krb_tickets.specs.Transited.{is_realm}

pub one_fails : {A : Type 0} (f : A → List ℕ) (xs : List A) (i : ℕ) (d : A) → i < length xs → is_realm (f (get_or xs i d)) ≡ false → list_all is_realm (map f xs) ≡ false
one_fails f xs i d lt h = list_all_at is_realm (map f xs) i (f d) (omega (arith, length-map xs f)) (ap is_realm (get_or-map f xs i d) ∙ h)

pub one_passes : {A : Type 0} (f : A → List ℕ) (xs : List A) (i : ℕ) (d : A) → i < length xs → is_realm (f (get_or xs i d)) ≡ true → list_all is_realm (take i (map f xs)) ≡ true
    → list_all is_realm (take (i + 1) (map f xs)) ≡ true
one_passes f xs i d lt h so_far =
    list_all_more is_realm (map f xs) i (f d) (omega (arith, length-map xs f)) ∙ rw (so_far, get_or-map f xs i d) h

pub one_more : {A : Type 0} (f : A → List ℕ) (xs : List A) (i : ℕ) (d : A) (x : List ℕ) → i < length xs → x ≡ f (get_or xs i d) → take i (map f xs) ++ x ∷ [] ≡ take (i + 1) (map f xs)
one_more f xs i d x lt e =
    ap (λ (v : List ℕ). take i (map f xs) ++ v ∷ []) (e ∙ sym (get_or-map f xs i d)) ∙ sym (take_more (map f xs) i (f d) (omega (arith, length-map xs f)))

-- Lemmas on steps with a fault, and on tests of lists.
use Rattle.std.proofs.Common.{◌≡◌, ◌||◌, Bool, true, false, List, [], ◌∷◌, Option, None, Some, Result, Ok, Err, refl}
use Rattle.std.specs.Prelude.{if◌then◌else◌}
use Rattle.std.specs.List.{find, list_any}
use Rattle.kdc_prelude.specs.Results.{◌>>=◌}

-- what a step gave, where all steps gave something
pub record Gave {A B E : Type 0} (r : Result A E) (f : A → Result B E) (b : B) : Type 0 where
  pub value : A
  pub first : r ≡ Ok value
  pub rest : f value ≡ Ok b

pub gave : {A B E : Type 0} (r : Result A E) (f : A → Result B E) (b : B) → (r >>= f) ≡ Ok b → Gave r f b
gave (Ok a) f b h = record { value = a; first = refl; rest = h }
gave (Err fault) f b h = absurd (cc)

either : (a b : Bool) → b ≡ true → (a || b) ≡ true
either true b h = refl
either false b h = h

-- a test that passes more passes in more lists
pub any_more : {X : Type 0} (p q : X → Bool) → ((x : X) → p x ≡ true → q x ≡ true) → (xs : List X) → list_any p xs ≡ true → list_any q xs ≡ true
any_more p q more [] h = absurd (cc)
any_more p q more (x ∷ xs) h = by_test (p x) (q x) (list_any p xs) (list_any q xs) (more x) (any_more p q more xs) h
  where
    by_test : (a b c d : Bool) → (a ≡ true → b ≡ true) → (c ≡ true → d ≡ true) → (a || c) ≡ true → (b || d) ≡ true
    by_test true b c d here there e = let own = here refl in cc
    by_test false b c d here there e = either b d (there e)

none_by : (t u : Bool) {X : Type 0} (x : X) (found : Option X) → (found ≡ None → u ≡ false) → (if t then Some x else found) ≡ None → (t || u) ≡ false
none_by true u x found rest h = absurd (cc)
none_by false u x found rest h = rest h

-- what is not found is not there
pub none_found : {X : Type 0} (p : X → Bool) (xs : List X) → find p xs ≡ None → list_any p xs ≡ false
none_found p [] h = refl
none_found p (x ∷ xs) h = none_by (p x) (list_any p xs) x (find p xs) (none_found p xs) h

pub neither : (a b : Bool) → a ≡ false → b ≡ false → (a || b) ≡ false
neither true b h k = absurd (cc)
neither false b h k = k

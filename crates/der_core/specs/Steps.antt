-- Lemmas on steps that did not fail, and on what was read.
use Rattle.std.proofs.Common.{◌≡◌, ℕ, zero, suc, ◌<◌, Bool, true, false, cond, eqb, ◌||◌, List, [], ◌∷◌, ◌++◌, length, get_or, replicate, Result, Ok, Err, refl, ap, subst, ◌∙◌, append-nil, arith, inl, inr, ◌⊎◌}
use Rattle.std.proofs.lemmas.Bool.{eqb-true}
use Rattle.std.proofs.lemmas.List.{nil_from_length}
use Rattle.der_core.specs.declared.refusal.DerRefusal.{DerRefusal}
use Rattle.der_core.specs.declared.refusal.DerCause.TheVariants.{Trailing}
use Rattle.der_core.specs.Place.{At, ◌>>=◌}
use Rattle.der_core.specs.Elements.{done_at}
use Rattle.der_core.specs.Laws.{IsBytes, Passes}

-- the value of a step that did not fail
pub bind_ok : {A B E : Type 0} (r : Result A E) (f : A → Result B E) (y : B) → (r >>= f) ≡ Ok y → (x : A) × (r ≡ Ok x) × (f x ≡ Ok y)
bind_ok (Ok x) f y e = (x, refl, e)
bind_ok (Err d) f y e = absurd cc

abbrev pub good : {A : Type 0} → A → Result A DerRefusal
good x = Ok x

pub ok_is : {A : Type 0} (x y : A) → good x ≡ good y → x ≡ y
ok_is x y e = cc

-- the other branch of a test that did not fail
pub guard_ok : {A : Type 0} (b : Bool) (d : DerRefusal) (r : Result A DerRefusal) (y : A) → cond b (Err d) r ≡ Ok y → (b ≡ false) × (r ≡ Ok y)
guard_ok true d r y e = absurd cc
guard_ok false d r y e = (refl, e)

guard_ended : (b : Bool) (d : DerRefusal) (y : Unit {0}) → cond b (good tt) (Err d) ≡ Ok y → b ≡ true
guard_ended true d y e = refl
guard_ended false d y e = absurd cc

pub done_is : (here : At) (y : Unit {0}) → done_at here ≡ Ok y → here.bytes ≡ []
done_is here y e = nil_from_length here.bytes (eqb-true _ _ (guard_ended (eqb (length here.bytes) 0) (record { cause = Trailing; place = here.place }) y e))

-- bytes behind bytes
pub IsBytes-rest : (front rest : List ℕ) → IsBytes (front ++ rest) → IsBytes rest
IsBytes-rest [] rest h i = h i
IsBytes-rest (b ∷ front) rest h i = IsBytes-rest front rest (λ k. let e : get_or (b ∷ (front ++ rest)) (suc k) 0 < 256 = h (suc k) in e) i

pub IsBytes-front : (front rest : List ℕ) → IsBytes (front ++ rest) → IsBytes front
IsBytes-front [] rest h i = omega arith
IsBytes-front (b ∷ front) rest h zero = h 0
IsBytes-front (b ∷ front) rest h (suc i) = IsBytes-front front rest (λ k. let e : get_or (b ∷ (front ++ rest)) (suc k) 0 < 256 = h (suc k) in e) i

-- bytes behind some of one byte
pub IsBytes-behind : (k s : ℕ) (bytes : List ℕ) → s < 256 → IsBytes bytes → IsBytes (replicate k s ++ bytes)
IsBytes-behind zero s bytes small fits i = fits i
IsBytes-behind (suc k) s bytes small fits zero = small
IsBytes-behind (suc k) s bytes small fits (suc i) = IsBytes-behind k s bytes small fits i

pub IsBytes-append : (front rest : List ℕ) → IsBytes front → IsBytes rest → IsBytes (front ++ rest)
IsBytes-append [] rest h fits i = fits i
IsBytes-append (b ∷ front) rest h fits zero = h 0
IsBytes-append (b ∷ front) rest h fits (suc i) = IsBytes-append front rest (λ k. let e : get_or (b ∷ front) (suc k) 0 < 256 = h (suc k) in e) fits i

pub IsBytes-past : (old : At) (front : List ℕ) (new : At) → Passes old front new → IsBytes old.bytes → IsBytes new.bytes
IsBytes-past old front new p h = IsBytes-rest front new.bytes (subst IsBytes p.bytes h)

pub Passes-all : (old : At) (front : List ℕ) (new : At) → Passes old front new → new.bytes ≡ [] → old.bytes ≡ front
Passes-all old front new p e = p.bytes ∙ ap (λ (r : List ℕ). front ++ r) e ∙ append-nil front

-- which branch was taken
pub chosen : {A : Type 0} (b : Bool) (x y z : A) → cond b x y ≡ z → ((b ≡ true) × (x ≡ z)) ⊎ ((b ≡ false) × (y ≡ z))
chosen true x y z e = inl (refl, e)
chosen false x y z e = inr (refl, e)

pub neither : (a b : Bool) → (a || b) ≡ false → (a ≡ false) × (b ≡ false)
neither true b e = absurd cc
neither false b e = (refl, e)

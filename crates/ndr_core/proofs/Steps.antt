-- Lemmas on steps that did not fail, and on what was read.
use Rattle.std.proofs.Common.{◌≡◌, ℕ, zero, suc, ◌<◌, Bool, true, false, cond, ◌||◌, List, [], ◌∷◌, ◌++◌, get_or, take, drop, Result, Ok, Err, refl, sym, ap, subst, ◌∙◌, append_assoc, append-nil, length-append, arith, inl, inr, ◌⊎◌}
use Rattle.std.proofs.lemmas.List.{take-append-drop}
use Rattle.ndr_core.specs.declared.fault.LogonFault.{LogonFault}
use Rattle.ndr_core.specs.Place.{At, ◌>>=◌}
use Rattle.ndr_core.specs.Laws.{IsBytes, Passes}

-- the value of a step that did not fail
pub bind_ok : {A B E : Type 0} (r : Result A E) (f : A → Result B E) (y : B) → (r >>= f) ≡ Ok y → (x : A) × (r ≡ Ok x) × (f x ≡ Ok y)
bind_ok (Ok x) f y e = (x, refl, e)
bind_ok (Err d) f y e = absurd cc

abbrev pub good : {A : Type 0} → A → Result A LogonFault
good x = Ok x

pub ok_is : {A : Type 0} (x y : A) → good x ≡ good y → x ≡ y
ok_is x y e = cc

-- the other branch of a test that did not fail
pub guard_ok : {A : Type 0} (b : Bool) (d : LogonFault) (r : Result A LogonFault) (y : A) → cond b (Err d) r ≡ Ok y → (b ≡ false) × (r ≡ Ok y)
guard_ok true d r y e = absurd cc
guard_ok false d r y e = (refl, e)

-- a test that a value passed
pub passed : {A : Type 0} (b : Bool) (d : LogonFault) (r : Result A LogonFault) (y : A) → cond b r (Err d) ≡ Ok y → (b ≡ true) × (r ≡ Ok y)
passed true d r y e = (refl, e)
passed false d r y e = absurd cc

-- which branch was taken
pub chosen : {A : Type 0} (b : Bool) (x y z : A) → cond b x y ≡ z → ((b ≡ true) × (x ≡ z)) ⊎ ((b ≡ false) × (y ≡ z))
chosen true x y z e = inl (refl, e)
chosen false x y z e = inr (refl, e)

pub neither : (a b : Bool) → (a || b) ≡ false → (a ≡ false) × (b ≡ false)
neither true b e = absurd cc
neither false b e = (refl, e)

-- bytes behind bytes
pub IsBytes-rest : (front rest : List ℕ) → IsBytes (front ++ rest) → IsBytes rest
IsBytes-rest [] rest h i = h i
IsBytes-rest (b ∷ front) rest h i = IsBytes-rest front rest (λ k. let e : get_or (b ∷ (front ++ rest)) (suc k) 0 < 256 = h (suc k) in e) i

pub IsBytes-front : (front rest : List ℕ) → IsBytes (front ++ rest) → IsBytes front
IsBytes-front [] rest h i = omega arith
IsBytes-front (b ∷ front) rest h zero = h 0
IsBytes-front (b ∷ front) rest h (suc i) = IsBytes-front front rest (λ k. let e : get_or (b ∷ (front ++ rest)) (suc k) 0 < 256 = h (suc k) in e) i

pub IsBytes-take : (n : ℕ) (bytes : List ℕ) → IsBytes bytes → IsBytes (take n bytes)
IsBytes-take n bytes h = IsBytes-front (take n bytes) (drop n bytes) (subst IsBytes (sym (take-append-drop n bytes)) h)

pub IsBytes-past : (old : At) (front : List ℕ) (new : At) → Passes old front new → IsBytes old.bytes → IsBytes new.bytes
IsBytes-past old front new p h = IsBytes-rest front new.bytes (subst IsBytes p.bytes h)

pub IsBytes-passed : (old : At) (front : List ℕ) (new : At) → Passes old front new → IsBytes old.bytes → IsBytes front
IsBytes-passed old front new p h = IsBytes-front front new.bytes (subst IsBytes p.bytes h)

pub Passes-all : (old : At) (front : List ℕ) (new : At) → Passes old front new → new.bytes ≡ [] → old.bytes ≡ front
Passes-all old front new p e = p.bytes ∙ ap (λ (r : List ℕ). front ++ r) e ∙ append-nil front

pub Passes-then : (a : At) (x : List ℕ) (b : At) (y : List ℕ) (c : At) → Passes a x b → Passes b y c → Passes a (x ++ y) c
Passes-then a x b y c p q = record {
  bytes = p.bytes ∙ ap (λ (t : List ℕ). x ++ t) q.bytes ∙ sym (append_assoc x y c.bytes);
  place = omega (arith, q.place, p.place, length-append x y);
  behind = q.behind ∙ p.behind;
}

pub Passes-none : (here : At) → Passes here [] here
Passes-none here = record { bytes = refl; place = omega arith; behind = refl }

-- What steps of look-ups found.
use Rattle.std.proofs.Common.{◌≡◌, ◌∙◌, Bool, true, false, Option, None, Some, refl, sym, ap, subst}
use Rattle.std.specs.Prelude.{◌||◌, cond, is_none, not, option_and_then, option_map}
use Rattle.kdc_prelude.specs.Options.{holds_of}
use Rattle.kdc_prelude.specs.Steps.{◌>>=◌}

pub one_of : {A : Type 0} (x y : A) → Some x ≡ Some y → x ≡ y
one_of x y e = cc

pub moved : {X : Type 0} (P : X → Type 0) (x y : X) → x ≡ y → P x → P y
moved P x y e p = subst P e p

pub stepped : {A B : Type 0} (a : Option A) (f : A → Option B) (b : B) → (a >>= f) ≡ Some b → (x : A) × (a ≡ Some x) × (f x ≡ Some b)
stepped None f b h = absurd (cc)
stepped (Some x) f b h = (x, refl, h)

pub thened : {A B : Type 0} (a : Option A) (f : A → Option B) (b : B) → option_and_then f a ≡ Some b → (x : A) × (a ≡ Some x) × (f x ≡ Some b)
thened None f b h = absurd (cc)
thened (Some x) f b h = (x, refl, h)

pub mapped : {A B : Type 0} (f : A → B) (a : Option A) (b : B) → option_map f a ≡ Some b → (x : A) × (a ≡ Some x) × (f x ≡ b)
mapped f None b h = absurd (cc)
mapped f (Some x) b h = (x, refl, one_of (f x) b h)

pub chosen : {A : Type 0} (test : Bool) (a : Option A) (x : A) → (let found : Option A = cond test a None in found) ≡ Some x → (test ≡ true) × (a ≡ Some x)
chosen true a x h = (refl, h)
chosen false a x h = absurd (cc)

-- what is there passes the test
pub passes : {A : Type 0} (test : A → Bool) (a : Option A) (x : A) → a ≡ Some x → holds_of test a ≡ true → test x ≡ true
passes test a x e h = sym (ap (holds_of test) e) ∙ h

pub none_is : {A : Type 0} (a : Option A) → is_none a ≡ true → a ≡ None
none_is None h = refl
none_is (Some x) h = absurd (cc)

-- a condition that holds, or another one
pub or_second : (a b : Bool) → a ≡ false → (a || b) ≡ true → b ≡ true
or_second true b e h = absurd (cc)
or_second false b e h = h

pub asked_second : (a b : Bool) → a ≡ true → (not a || b) ≡ true → b ≡ true
asked_second true b e h = h
asked_second false b e h = absurd (cc)

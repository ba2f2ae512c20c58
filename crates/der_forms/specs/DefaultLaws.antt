-- A field whose absence is a value is lawful.
use Rattle.std.proofs.Common.{◌≡◌, ℕ, ◌<◌, Bool, true, false, Option, Some, None, refl, sym, ap, length-append, arith, inl, inr, ◌⊎◌}
use Rattle.der_core.specs.Codec.{Codec}
use Rattle.der_core.specs.Laws.{IsCodec}
use Rattle.der_forms.specs.Fields.{Fields, optional, optional_spelling, tag_of}
use Rattle.der_forms.specs.Laws.{AreFields}
use Rattle.der_forms.specs.FieldLaws.{Remakes, remade_lawful, optional_lawful}
use Rattle.der_forms.specs.Defaults.{or_usual, unless, defaulted}

-- the test is met by the usual value alone
pub record Tests {X : Type 0} (usual : X) (is_usual : X → Bool) : Type 0 where
  pub met : is_usual usual ≡ true
  pub alone : (x : X) → is_usual x ≡ true → x ≡ usual

decided : (b : Bool) → (b ≡ true) ⊎ (b ≡ false)
decided true = inl refl
decided false = inr refl

pub defaulted_lawful : {X Y : Type 0} (n : ℕ) (c : Codec X) (usual : X) (is_usual : X → Bool) (more : Fields Y) → Tests usual is_usual → tag_of n < more.low
    → IsCodec c → AreFields more → AreFields (defaulted n c usual is_usual more)
defaulted_lawful {X} {Y} n c usual is_usual more tests above one others =
    remade_lawful (optional n c more) _ _ (λ x fits. by_value x.0 x.1 fits) (optional_lawful n c more above one others)
  where
    by_value : (x : Option X) (y : Y) → (optional n c more).content.Fits (x, y)
        → Remakes (optional n c more) (λ (x : Option X × Y). (or_usual usual x.0, x.1)) (λ (x : X × Y). (unless is_usual x.0, x.1)) (x, y)
    by_value None y fits = (record { same = rw tests.met refl; fits = rw tests.met fits; no_longer = rw tests.met (omega arith) })
    by_value (Some x) y fits = elim (decided (is_usual x)) [
      | inl p ↦ record {
        same = rw p (ap (λ (v : X). (v, y)) (sym (tests.alone x p)));
        fits = rw p (tt, fits.1);
        no_longer = rw p (omega (arith, length-append (optional_spelling n c (Some x)) (more.content.spelling y)));
      }
      | inr p ↦ record { same = rw p refl; fits = rw p fits; no_longer = rw p (omega arith) }
    ]

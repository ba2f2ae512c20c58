-- A value that keeps its bytes is lawful, and the one spelling may be what is kept.
use Rattle.std.proofs.Common.{◌≡◌, ℕ, ◌-◌, ◌<◌, ◌^◌, List, ◌++◌, length, take, Ok, refl, sym, ap, subst, ◌∙◌, length-append, append-nil, arith}
use Rattle.std.proofs.lemmas.List.{take_at, nil_from_length}
use Rattle.der_core.specs.Place.{At}
use Rattle.der_core.specs.Codec.{Codec}
use Rattle.der_core.specs.Laws.{Finds, IsCodec}
use Rattle.der_core.specs.Steps.{bind_ok, ok_is}
use Rattle.der_forms.specs.Kept.{between, kept}

taken : (bytes front rest : List ℕ) → bytes ≡ front ++ rest → take (length bytes - length rest) bytes ≡ front
taken bytes front rest e =
    let n : length bytes - length rest ≡ length front = omega (arith, ap length e, length-append front rest) in
    ap (λ (b : List ℕ). take (length bytes - length rest) b) e ∙ take_at front rest (length bytes - length rest) (sym n)

pub kept_lawful : {X : Type 0} (c : Codec X) → IsCodec c → IsCodec (kept c)
kept_lawful {X} c lawful =
    let form : Codec (X × List ℕ) = kept c in
    record {
      found = λ old new x fits e.
          let a = bind_ok (c.reading old) (λ x. Ok ((x.0, between old x.1), x.1)) (x, new) e in
          let f = lawful.found old a.0.1 a.0.0 fits a.1 in
          let made : Finds form old (a.0.0, between old a.0.1) a.0.1 = record { front = f.front; passes = f.passes; is_der = (f.is_der, taken old.bytes f.front a.0.1.bytes f.passes.bytes) } in
          subst (λ (p : (X × List ℕ) × At). Finds form old p.0 p.1) (ok_is ((a.0.0, between old a.0.1), a.0.1) (x, new) a.2) made;
      only = λ place front rest x d. rw (lawful.only place front rest x.0 d.0, taken (front ++ rest) front rest refl, d.1) refl;
      spelt = λ x fits short. (fits, refl);
      fits = λ bytes x are_bytes d. subst (λ (b : List ℕ). c.IsDer b x.0) (sym d.1) d.0;
      no_longer = λ bytes x are_bytes d. omega (arith, ap length d.1);
      some = λ bytes x d. lawful.some bytes x.0 d.0;
    }

-- the one spelling of a value reads as it
pub spelt_fits : {X : Type 0} (c : Codec X) → IsCodec c → (x : X) → c.Fits x → length (c.spelling x) < 2 ^ 32 → (kept c).Fits (x, c.spelling x)
spelt_fits c lawful x fits short = lawful.spelt x fits short

-- all that is left was read
pub all_between : (old new : At) → length new.bytes ≡ 0 → between old new ≡ old.bytes
all_between old new none = taken old.bytes old.bytes new.bytes (sym (append-nil old.bytes) ∙ ap (λ (b : List ℕ). old.bytes ++ b) (sym (nil_from_length new.bytes none)))

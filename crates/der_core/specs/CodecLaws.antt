-- What is made of lawful forms is lawful.
use Rattle.std.proofs.Common.{◌≡◌, ℕ, ◌+◌, ◌*◌, ◌≤◌, Bool, true, false, cond, List, [], ◌∷◌, ◌++◌, length, Ok, Err, refl, sym, ap, subst, append-nil, length-append, arith}
use Rattle.der_core.specs.declared.refusal.DerCause.{DerCause}
use Rattle.der_core.specs.declared.refusal.DerRefusal.{DerRefusal}
use Rattle.der_core.specs.Place.{At, ◌>>=◌}
use Rattle.der_core.specs.Sizes.{size}
use Rattle.der_core.specs.Elements.{IsElement, element, element_at, done_at}
use Rattle.der_core.specs.Codec.{Codec, Content, element_of, alone, explicit, such, mapped}
use Rattle.der_core.specs.SizeLaws.{size_no_longer}
use Rattle.der_core.specs.Laws.{IsBytes, Finds, IsCodec, IsContent}
use Rattle.der_core.specs.Steps.{bind_ok, ok_is, good, done_is, IsBytes-rest, Passes-all}
use Rattle.der_core.specs.ElementLaws.{element_found, element_only, element_longer, element_some}

-- the content of an element is bytes
pub IsBytes-content : (tag : ℕ) (bytes content : List ℕ) → IsBytes bytes → IsElement tag bytes content → IsBytes content
IsBytes-content tag bytes content fits d =
    IsBytes-rest (size (length content)) content (IsBytes-rest (tag ∷ []) (size (length content) ++ content) (subst IsBytes d.spelt fits))

pub element_no_longer : (tag : ℕ) (bytes content spelling : List ℕ) → IsElement tag bytes content → length spelling ≤ 3 * length content + 2
    → length (element tag spelling) ≤ 3 * length bytes
element_no_longer tag bytes content spelling d le =
    omega (arith, ap length d.spelt, length-append (size (length content)) content, length-append (size (length spelling)) spelling, size_no_longer (length content) (length spelling) le, element_some tag (element tag content) content (record { spelt = refl; short = d.short }))

pub element_of_lawful : {X : Type 0} (tag : ℕ) (c : Content X) → IsContent c → IsCodec (element_of tag c)
element_of_lawful {X} tag c lawful =
    let form : Codec X = element_of tag c in
    record {
      found = λ old new x fits e.
          let a = bind_ok (element_at tag old) (λ e. c.reading e.0 >>= λ x. Ok (x, e.1)) (x, new) e in
          let b = bind_ok (c.reading a.0.0) (λ x. Ok (x, a.0.1)) (x, new) a.2 in
          let outside = element_found tag old a.0.0 a.0.1 fits a.1 in
          let made : Finds form old b.0 a.0.1 = record {
            front = outside.front;
            passes = outside.passes;
            is_der = record { content = a.0.0.bytes; outside = outside.is_element; inside = lawful.found a.0.0 b.0 outside.are_bytes b.1 };
          } in
          subst (λ (p : X × At). Finds form old p.0 p.1) (ok_is (b.0, a.0.1) (x, new) b.2) made;
      only = λ place front rest x d.
          rw (element_only tag place front d.content rest d.outside, lawful.only (record { place = place + 1 + length (size (length d.content)); bytes = d.content }) x d.inside) refl;
      spelt = λ x fits short. record {
        content = c.spelling x;
        outside = record { spelt = refl; short = omega (arith, element_longer tag (c.spelling x)) };
        inside = lawful.spelt x fits (omega (arith, element_longer tag (c.spelling x)));
      };
      fits = λ bytes x fits d. lawful.fits d.content x (IsBytes-content tag bytes d.content fits d.outside) d.inside;
      no_longer = λ bytes x fits d.
          element_no_longer tag bytes d.content (c.spelling x) d.outside (lawful.no_longer d.content x (IsBytes-content tag bytes d.content fits d.outside) d.inside);
      some = λ bytes x d. element_some tag bytes d.content d.outside;
    }

pub alone_lawful : {X : Type 0} (c : Codec X) → IsCodec c → IsContent (alone c)
alone_lawful {X} c lawful = record {
  found = λ here x fits e.
      let a = bind_ok (c.reading here) (λ x. done_at x.1 >>= λ _. Ok x.0) x e in
      let b = bind_ok (done_at a.0.1) (λ _. Ok a.0.0) x a.2 in
      let f = lawful.found here a.0.1 a.0.0 fits a.1 in
      let all : here.bytes ≡ f.front = Passes-all here f.front a.0.1 f.passes (done_is a.0.1 b.0 b.1) in
      subst (λ (y : X). c.IsDer here.bytes y) (ok_is a.0.0 x b.2) (subst (λ (b : List ℕ). c.IsDer b a.0.0) (sym all) f.is_der);
  only = λ here x d.
      let one = subst (λ (b : List ℕ). c.reading (record { place = here.place; bytes = b }) ≡ Ok (x, record { place = here.place + length here.bytes; bytes = [] })) (append-nil here.bytes) (lawful.only here.place here.bytes [] x d) in
      rw one refl;
  spelt = lawful.spelt;
  fits = lawful.fits;
  no_longer = λ bytes x fits d. omega (arith, lawful.no_longer bytes x fits d);
}

pub explicit_lawful : {X : Type 0} (tag : ℕ) (c : Codec X) → IsCodec c → IsCodec (explicit tag c)
explicit_lawful tag c lawful = element_of_lawful tag (alone c) (alone_lawful c lawful)

passed : {X : Type 0} (t : Bool) (d : DerRefusal) (x y : X) → cond t (good x) (Err d) ≡ Ok y → (t ≡ true) × (x ≡ y)
passed true d x y e = (refl, cc)
passed false d x y e = absurd cc

pub such_lawful : {X : Type 0} (passes : X → Bool) (cause : DerCause) (c : Content X) → IsContent c → IsContent (such passes cause c)
such_lawful {X} passes cause c lawful = record {
  found = λ here x fits e.
      let a = bind_ok (c.reading here) (λ x. cond (passes x) (good x) (Err (record { cause = cause; place = here.place }))) x e in
      let g = passed (passes a.0) (record { cause = cause; place = here.place }) a.0 x a.2 in
      subst (λ (y : X). c.IsDer here.bytes y × (passes y ≡ true)) g.1 (lawful.found here a.0 fits a.1, g.0);
  only = λ here x d. rw (lawful.only here x d.0, d.1) refl;
  spelt = λ x fits short. (lawful.spelt x fits.0 short, fits.1);
  fits = λ bytes x fits d. (lawful.fits bytes x fits d.0, d.1);
  no_longer = λ bytes x fits d. lawful.no_longer bytes x fits d.0;
}

pub mapped_lawful : {X Y : Type 0} (c : Codec X) (make : X → Y) (part_of : Y → X) → ((x : X) → c.Fits x → part_of (make x) ≡ x) → IsCodec c → IsCodec (mapped c make part_of)
mapped_lawful {X} {Y} c make part_of back lawful =
    let form : Codec Y = mapped c make part_of in
    record {
      found = λ old new y fits e.
          let a = bind_ok (c.reading old) (λ x. Ok (make x.0, x.1)) (y, new) e in
          let f = lawful.found old a.0.1 a.0.0 fits a.1 in
          let made : Finds form old (make a.0.0) a.0.1 = record { front = f.front; passes = f.passes; is_der = record { parts = a.0.0; spelt = f.is_der; made = refl } } in
          subst (λ (p : Y × At). Finds form old p.0 p.1) (ok_is (make a.0.0, a.0.1) (y, new) a.2) made;
      only = λ place front rest y d. rw (lawful.only place front rest d.parts d.spelt, ← d.made) refl;
      spelt = λ y fits short. record { parts = part_of y; spelt = lawful.spelt (part_of y) fits.1 short; made = fits.0 };
      fits = λ bytes y fits d.
          let own = lawful.fits bytes d.parts fits d.spelt in
          let same = back d.parts own in
          subst (λ (v : Y). (make (part_of v) ≡ v) × c.Fits (part_of v)) d.made (ap make same, subst c.Fits (sym same) own);
      no_longer = λ bytes y fits d.
          let same = back d.parts (lawful.fits bytes d.parts fits d.spelt) in
          let le = lawful.no_longer bytes d.parts fits d.spelt in
          subst (λ (v : Y). length (c.spelling (part_of v)) ≤ 3 * length bytes) d.made (subst (λ (x : X). length (c.spelling x) ≤ 3 * length bytes) (sym same) le);
      some = λ bytes y d. lawful.some bytes d.parts d.spelt;
    }

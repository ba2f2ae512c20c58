-- What is put together of lawful layouts is lawful.
use Rattle.std.proofs.Common.{◌≡◌, ℕ, ◌+◌, ◌-◌, Bool, true, false, cond, List, [], ◌++◌, length, Option, Some, None, Ok, Err, refl, sym, ap, subst, ◌∙◌, append-nil, append_assoc, length-append, arith}
use Rattle.std.specs.Int.{Width, byte_len}
use Rattle.ndr_core.specs.declared.refusal.NdrCause.{NdrCause}
use Rattle.ndr_core.specs.Place.{At, refusal, ◌>>=◌}
use Rattle.ndr_core.specs.Layout.{Layout, followed, field, nothing, mapped, decoded, or_bad_text, such, pointed}
use Rattle.ndr_core.specs.Laws.{Finds, IsLayout}
use Rattle.ndr_core.proofs.Steps.{bind_ok, good, ok_is, passed, IsBytes-past, Passes-then, Passes-none}

abbrev at : ℕ → List ℕ → ℕ → At
at place bytes behind = record { place = place; bytes = bytes; behind = behind }

pub followed_lawful : {X Y : Type 0} (c : Layout X) (more : X → Layout Y) → IsLayout c → ((x : X) → IsLayout (more x)) → IsLayout (followed c more)
followed_lawful {X} {Y} c more one others =
    let form : Layout (X × Y) = followed c more in
    record {
      found = λ old new x fits e.
          let a = bind_ok (c.reading old) (λ x. (more x.0).reading x.1 >>= λ y. Ok ((x.0, y.0), y.1)) (x, new) e in
          let b = bind_ok ((more a.0.0).reading a.0.1) (λ y. Ok ((a.0.0, y.0), y.1)) (x, new) a.2 in
          let first = one.found old a.0.1 a.0.0 fits a.1 in
          let second = (others a.0.0).found a.0.1 b.0.1 b.0.0 (IsBytes-past old first.front a.0.1 first.passes fits) b.1 in
          let made : Finds form old (a.0.0, b.0.0) b.0.1 = record {
            front = first.front ++ second.front;
            passes = Passes-then old first.front a.0.1 second.front b.0.1 first.passes second.passes;
            is_ndr = record {
              front = first.front;
              rest = second.front;
              whole = refl;
              first = first.is_ndr;
              second = subst (λ (p : ℕ). (more a.0.0).IsNdr p second.front b.0.0) first.passes.place second.is_ndr;
            };
          } in
          subst (λ (p : (X × Y) × At). Finds form old p.0 p.1) (ok_is ((a.0.0, b.0.0), b.0.1) (x, new) b.2) made;
      only = λ place behind front rest x d.
          let first = one.only place behind d.front (d.rest ++ rest) x.0 d.first in
          let second = (others x.0).only (place + length d.front) behind d.rest rest x.1 d.second in
          let both : form.reading (at place (d.front ++ (d.rest ++ rest)) behind) ≡ good (x, at (place + length d.front + length d.rest) rest behind) = rw (first, second) refl in
          let bytes : front ++ rest ≡ d.front ++ (d.rest ++ rest) = ap (λ (f : List ℕ). f ++ rest) d.whole ∙ append_assoc d.front d.rest rest in
          let end : place + length d.front + length d.rest ≡ place + length front = omega (arith, ap length d.whole, length-append d.front d.rest) in
          ap (λ (b : List ℕ). form.reading (at place b behind)) bytes ∙ both ∙ ap (λ (p : ℕ). good (x, at p rest behind)) end;
      spelt = λ old x fits sound short.
          let grows = (others x.0).grows (c.written old x.0) x.1 in
          let first = one.spelt old x.0 fits.0 sound (omega arith) in
          let second = (others x.0).spelt (c.written old x.0) x.1 fits.1 first.sound short in
          record {
            front = first.front ++ second.front;
            bytes = second.bytes ∙ ap (λ (b : List ℕ). b ++ second.front) first.bytes ∙ append_assoc old.bytes first.front second.front;
            is_ndr = record {
              front = first.front;
              rest = second.front;
              whole = refl;
              first = first.is_ndr;
              second = subst (λ (p : ℕ). (more x.0).IsNdr p second.front x.1) (ap length first.bytes ∙ length-append old.bytes first.front) second.is_ndr;
            };
            sound = second.sound;
          };
      grows = λ old x.
          let first = one.grows old x.0 in
          let second = (others x.0).grows (c.written old x.0) x.1 in
          omega arith;
    }

pub field_lawful : {X Y : Type 0} (c : Layout X) (more : Layout Y) → IsLayout c → IsLayout more → IsLayout (field c more)
field_lawful c more one other = followed_lawful c (λ _. more) one (λ _. other)

pub nothing_lawful : IsLayout nothing
nothing_lawful = record {
  found = λ old new x fits e. subst (λ (p : Unit {0} × At). Finds nothing old p.0 p.1) (ok_is (tt, old) (x, new) e) (record { front = []; passes = Passes-none old; is_ndr = refl });
  only = λ place behind front rest x d.
      let bytes : front ++ rest ≡ rest = ap (λ (f : List ℕ). f ++ rest) d in
      let end : place ≡ place + length front = omega (arith, ap length d) in
      ap (λ (b : List ℕ). good (tt, at place b behind)) bytes ∙ ap (λ (p : ℕ). good (tt, at p rest behind)) end;
  spelt = λ old x fits sound short. record { front = []; bytes = sym (append-nil old.bytes); is_ndr = refl; sound = sound };
  grows = λ old x. omega arith;
}

pub mapped_lawful : {X Y : Type 0} (c : Layout X) (make : X → Y) (parts_of : Y → X) → IsLayout c → IsLayout (mapped c make parts_of)
mapped_lawful {X} {Y} c make parts_of lawful =
    let form : Layout Y = mapped c make parts_of in
    record {
      found = λ old new y fits e.
          let a = bind_ok (c.reading old) (λ x. Ok (make x.0, x.1)) (y, new) e in
          let f = lawful.found old a.0.1 a.0.0 fits a.1 in
          let made : Finds form old (make a.0.0) a.0.1 = record { front = f.front; passes = f.passes; is_ndr = record { parts = a.0.0; spelt = f.is_ndr; made = refl } } in
          subst (λ (p : Y × At). Finds form old p.0 p.1) (ok_is (make a.0.0, a.0.1) (y, new) a.2) made;
      only = λ place behind front rest y d. rw (lawful.only place behind front rest d.parts d.spelt, ← d.made) refl;
      spelt = λ old y fits sound short.
          let w = lawful.spelt old (parts_of y) fits.1 sound short in
          record { front = w.front; bytes = w.bytes; is_ndr = record { parts = parts_of y; spelt = w.is_ndr; made = fits.0 }; sound = w.sound };
      grows = λ old y. lawful.grows old (parts_of y);
    }

text_is : {Y : Type 0} (o : Option Y) (after : At) (y : Y) (new : At) → or_bad_text o after ≡ Ok (y, new) → (o ≡ Some y) × (after ≡ new)
text_is None after y new e = absurd cc
text_is {Y} (Some z) after y new e =
    let p = ok_is (z, after) (y, new) e in
    (ap (λ (q : Y × At). Some q.0) p, ap (λ (q : Y × At). q.1) p)

pub decoded_lawful : {X Y : Type 0} (c : Layout X) (decode : X → Option Y) (encode : Y → X) → IsLayout c → IsLayout (decoded c decode encode)
decoded_lawful {X} {Y} c decode encode lawful =
    let form : Layout Y = decoded c decode encode in
    record {
      found = λ old new y fits e.
          let a = bind_ok (c.reading old) (λ x. or_bad_text (decode x.0) x.1) (y, new) e in
          let f = lawful.found old a.0.1 a.0.0 fits a.1 in
          let t = text_is (decode a.0.0) a.0.1 y new a.2 in
          let made : Finds form old y a.0.1 = record { front = f.front; passes = f.passes; is_ndr = record { parts = a.0.0; spelt = f.is_ndr; decoded = t.0 } } in
          subst (λ (n : At). Finds form old y n) t.1 made;
      only = λ place behind front rest y d. rw (lawful.only place behind front rest d.parts d.spelt, d.decoded) refl;
      spelt = λ old y fits sound short.
          let w = lawful.spelt old (encode y) fits.1 sound short in
          record { front = w.front; bytes = w.bytes; is_ndr = record { parts = encode y; spelt = w.is_ndr; decoded = fits.0 }; sound = w.sound };
      grows = λ old y. lawful.grows old (encode y);
    }

pub such_lawful : {X : Type 0} (width : Width) (passes : X → Bool) (cause : NdrCause) (c : Layout X) → IsLayout c → IsLayout (such width passes cause c)
such_lawful {X} width passes cause c lawful =
    let form : Layout X = such width passes cause c in
    record {
      found = λ old new x fits e.
          let a = bind_ok (c.reading old) (λ x. cond (passes x.0) (good x) (Err (refusal cause (x.1.place - byte_len width)))) (x, new) e in
          let g = passed (passes a.0.0) (refusal cause (a.0.1.place - byte_len width)) (good a.0) (x, new) a.2 in
          let f = lawful.found old a.0.1 a.0.0 fits a.1 in
          let made : Finds form old a.0.0 a.0.1 = record { front = f.front; passes = f.passes; is_ndr = (f.is_ndr, g.0) } in
          subst (λ (p : X × At). Finds form old p.0 p.1) (ok_is a.0 (x, new) g.1) made;
      only = λ place behind front rest x d. rw (lawful.only place behind front rest x d.0, d.1) refl;
      spelt = λ old x fits sound short.
          let w = lawful.spelt old x fits.0 sound short in
          record { front = w.front; bytes = w.bytes; is_ndr = (w.is_ndr, fits.1); sound = w.sound };
      grows = lawful.grows;
    }

pub pointed_lawful : {X : Type 0} (there : Bool) (c : Layout X) (other : X) → IsLayout c → IsLayout (pointed there c other)
pointed_lawful true c other lawful = record {
  found = λ old new x fits e. let f = lawful.found old new x fits e in record { front = f.front; passes = f.passes; is_ndr = f.is_ndr };
  only = lawful.only;
  spelt = λ old x fits sound short. let w = lawful.spelt old x fits sound short in record { front = w.front; bytes = w.bytes; is_ndr = w.is_ndr; sound = w.sound };
  grows = lawful.grows;
}
pointed_lawful {X} false c other lawful =
    let form : Layout X = pointed false c other in
    record {
      found = λ old new x fits e. subst (λ (p : X × At). Finds form old p.0 p.1) (ok_is (other, old) (x, new) e) (record { front = []; passes = Passes-none old; is_ndr = (refl, refl) });
      only = λ place behind front rest x d.
          let bytes : front ++ rest ≡ rest = ap (λ (f : List ℕ). f ++ rest) d.0 in
          let end : place ≡ place + length front = omega (arith, ap length d.0) in
          ap (λ (b : List ℕ). good (other, at place b behind)) bytes ∙ ap (λ (p : ℕ). good (other, at p rest behind)) end ∙ ap (λ (y : X). good (y, at (place + length front) rest behind)) (sym d.1);
      spelt = λ old x fits sound short. record { front = []; bytes = sym (append-nil old.bytes); is_ndr = (refl, fits); sound = sound };
      grows = λ old x. omega arith;
    }

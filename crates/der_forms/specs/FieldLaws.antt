-- Fields of lawful forms are lawful.
use Rattle.std.proofs.Common.{◌≡◌, ℕ, ◌+◌, ◌*◌, ◌<◌, ◌≤◌, ◌^◌, true, false, List, [], ◌∷◌, ◌++◌, length, Ok, Option, Some, None, refl, sym, ap, subst, ◌∙◌, append-nil, append_assoc, length-append, arith, inl, inr}
use Rattle.std.specs.Prelude.{IfSome}
use Rattle.std.proofs.lemmas.Bool.{eq-eqb, ne_eqb}
use Rattle.der_core.specs.Place.{At, ◌>>=◌}
use Rattle.der_core.specs.Elements.{element}
use Rattle.der_core.specs.Codec.{Codec, explicit}
use Rattle.der_core.specs.Laws.{IsBytes, IsCodec}
use Rattle.der_core.specs.Steps.{bind_ok, ok_is, good, chosen, done_is, IsBytes-front, IsBytes-rest, IsBytes-past}
use Rattle.der_core.specs.CodecLaws.{element_of_lawful, explicit_lawful}
use Rattle.der_forms.specs.Fields.{Fields, end, depending, field, optional, made, dropped, listed, list_of, unless_empty, sequence, tag_of, begins, optional_at, optional_spelling, IsOptional}
use Rattle.der_forms.specs.Laws.{AreFields, IsFrom}

pub end_lawful : AreFields end
end_lawful = record {
  content = record {
    found = λ here x fits e. done_is here x e;
    only = λ here x d. rw d refl;
    spelt = λ x fits short. refl;
    fits = λ bytes x are_bytes d. tt;
    no_longer = λ bytes x are_bytes d. omega arith;
  };
  begins = λ bytes x d. subst (λ (b : List ℕ). IsFrom 256 b) (sym d) tt;
  appends = λ old x. sym (append-nil old);
}

-- an element begins with its tag
starts : (tag : ℕ) (content rest bytes : List ℕ) → bytes ≡ element tag content ++ rest → IsFrom tag bytes
starts tag content rest bytes e = subst (λ (b : List ℕ). IsFrom tag b) (sym e) (omega arith)

-- both parts of bytes are bytes
pub parts_are_bytes : (bytes front rest : List ℕ) → IsBytes bytes → bytes ≡ front ++ rest → IsBytes front × IsBytes rest
parts_are_bytes bytes front rest fits whole =
    let all : IsBytes (front ++ rest) = subst IsBytes whole fits in
    (IsBytes-front front rest all, IsBytes-rest front rest all)

sum_no_longer : (bytes front rest first second : List ℕ) → bytes ≡ front ++ rest → length first ≤ 3 * length front → length second ≤ 3 * length rest + 2
    → length (first ++ second) ≤ 3 * length bytes + 2
sum_no_longer bytes front rest first second whole le le2 = omega (arith, ap length whole, length-append front rest, length-append first second)

pub depending_lawful : {X Y : Type 0} (n : ℕ) (c : Codec X) (more : X → Fields Y) → IsCodec c → ((x : X) → AreFields (more x)) → AreFields (depending n c more)
depending_lawful {X} {Y} n c more one others =
    let own = explicit_lawful (tag_of n) c one in
    let form : Fields (X × Y) = depending n c more in
    record {
      content = record {
        found = λ here x fits e.
            let a = bind_ok ((explicit (tag_of n) c).reading here) (λ x. (more x.0).content.reading x.1 >>= λ y. Ok (x.0, y)) x e in
            let b = bind_ok ((more a.0.0).content.reading a.0.1) (λ y. Ok (a.0.0, y)) x a.2 in
            let first = own.found here a.0.1 a.0.0 fits a.1 in
            let second = (others a.0.0).content.found a.0.1 b.0 (IsBytes-past here first.front a.0.1 first.passes fits) b.1 in
            let made : form.content.IsDer here.bytes (a.0.0, b.0) = record { front = first.front; rest = a.0.1.bytes; whole = first.passes.bytes; first = first.is_der; second = second } in
            subst (λ (p : X × Y). form.content.IsDer here.bytes p) (ok_is (a.0.0, b.0) x b.2) made;
        only = λ here x d.
            let first = own.only here.place d.front d.rest x.0 d.first in
            let second = (others x.0).content.only (record { place = here.place + length d.front; bytes = d.rest }) x.1 d.second in
            let moved = subst (λ (bytes : List ℕ). (explicit (tag_of n) c).reading (record { place = here.place; bytes = bytes }) ≡ Ok (x.0, record { place = here.place + length d.front; bytes = d.rest })) (sym d.whole) first in
            rw (moved, second) refl;
        spelt = λ x fits short.
            let lengths = length-append (element (tag_of n) (c.spelling x.0)) ((more x.0).content.spelling x.1) in
            record {
              front = element (tag_of n) (c.spelling x.0);
              rest = (more x.0).content.spelling x.1;
              whole = refl;
              first = own.spelt x.0 fits.0 (omega (arith, lengths));
              second = (others x.0).content.spelt x.1 fits.1 (omega (arith, lengths));
            };
        fits = λ bytes x are_bytes d.
            let both = parts_are_bytes bytes d.front d.rest are_bytes d.whole in
            (own.fits d.front x.0 both.0 d.first, (others x.0).content.fits d.rest x.1 both.1 d.second);
        no_longer = λ bytes x are_bytes d.
            let both = parts_are_bytes bytes d.front d.rest are_bytes d.whole in
            sum_no_longer bytes d.front d.rest (element (tag_of n) (c.spelling x.0)) ((more x.0).content.spelling x.1) d.whole (own.no_longer d.front x.0 both.0 d.first) ((others x.0).content.no_longer d.rest x.1 both.1 d.second);
      };
      begins = λ bytes x d. starts (tag_of n) d.first.content d.rest bytes (d.whole ∙ ap (λ (f : List ℕ). f ++ d.rest) d.first.outside.spelt);
      appends = λ old x. (others x.0).appends (old ++ element (tag_of n) (c.spelling x.0)) x.1 ∙ append_assoc old (element (tag_of n) (c.spelling x.0)) ((more x.0).content.spelling x.1);
    }

pub field_lawful : {X Y : Type 0} (n : ℕ) (c : Codec X) (more : Fields Y) → IsCodec c → AreFields more → AreFields (field n c more)
field_lawful {X} n c more one others = depending_lawful n c (λ (_ : X). more) one (λ (_ : X). others)

from_lower : (low high : ℕ) (bytes : List ℕ) → low ≤ high → IsFrom high bytes → IsFrom low bytes
from_lower low high [] le h = tt
from_lower low high (b ∷ bytes) le h = omega arith

begins_not : (tag low : ℕ) (bytes : List ℕ) → tag < low → IsFrom low bytes → begins tag bytes ≡ false
begins_not tag low [] lt h = refl
begins_not tag low (b ∷ bytes) lt h = ne_eqb _ _ (λ e. omega arith)

pub optional_lawful : {X Y : Type 0} (n : ℕ) (c : Codec X) (more : Fields Y) → tag_of n < more.low → IsCodec c → AreFields more → AreFields (optional n c more)
optional_lawful {X} {Y} n c more above one others =
    let own = explicit_lawful (tag_of n) c one in
    let form : Fields (Option X × Y) = optional n c more in
    record {
      content = record {
        found = λ here x fits e.
            let a = bind_ok (optional_at n c here) (λ x. more.content.reading x.1 >>= λ y. Ok (x.0, y)) x e in
            let b = bind_ok (more.content.reading a.0.1) (λ y. Ok (a.0.0, y)) x a.2 in
            elim (chosen (begins (tag_of n) here.bytes) ((explicit (tag_of n) c).reading here >>= λ x. good (Some x.0, x.1)) (good (None, here)) (Ok a.0) a.1) [
              | inl p ↦
                  let f = bind_ok ((explicit (tag_of n) c).reading here) (λ x. Ok (Some x.0, x.1)) a.0 p.1 in
                  let first = own.found here f.0.1 f.0.0 fits f.1 in
                  let is : (Some f.0.0, f.0.1) ≡ a.0 = ok_is (Some f.0.0, f.0.1) a.0 f.2 in
                  let read : more.content.reading f.0.1 ≡ Ok b.0 = subst (λ (q : Option X × At). more.content.reading q.1 ≡ Ok b.0) (sym is) b.1 in
                  let second = others.content.found f.0.1 b.0 (IsBytes-past here first.front f.0.1 first.passes fits) read in
                  let made : form.content.IsDer here.bytes (Some f.0.0, b.0) = record { front = first.front; rest = f.0.1.bytes; whole = first.passes.bytes; first = first.is_der; second = second } in
                  let made2 : form.content.IsDer here.bytes (a.0.0, b.0) = subst (λ (q : Option X × At). form.content.IsDer here.bytes (q.0, b.0)) is made in
                  subst (λ (q : Option X × Y). form.content.IsDer here.bytes q) (ok_is (a.0.0, b.0) x b.2) made2
              | inr p ↦
                  let is : (let none : Option X × At = (None, here) in none) ≡ a.0 = ok_is (None, here) a.0 p.1 in
                  let read : more.content.reading here ≡ Ok b.0 = subst (λ (q : Option X × At). more.content.reading q.1 ≡ Ok b.0) (sym is) b.1 in
                  let made : form.content.IsDer here.bytes (None, b.0) = record { front = []; rest = here.bytes; whole = refl; first = refl; second = others.content.found here b.0 fits read } in
                  let made2 : form.content.IsDer here.bytes (a.0.0, b.0) = subst (λ (q : Option X × At). form.content.IsDer here.bytes (q.0, b.0)) is made in
                  subst (λ (q : Option X × Y). form.content.IsDer here.bytes q) (ok_is (a.0.0, b.0) x b.2) made2
            ];
        only = λ here x d. is_only here.place here.bytes x.0 x.1 d.front d.rest d.whole d.first d.second;
        spelt = λ x fits short.
            let lengths = length-append (optional_spelling n c x.0) (more.content.spelling x.1) in
            record {
              front = optional_spelling n c x.0;
              rest = more.content.spelling x.1;
              whole = refl;
              first = is_spelt x.0 fits.0 (omega (arith, lengths));
              second = others.content.spelt x.1 fits.1 (omega (arith, lengths));
            };
        fits = λ bytes x are_bytes d.
            let both = parts_are_bytes bytes d.front d.rest are_bytes d.whole in
            (can_be_written x.0 d.front both.0 d.first, others.content.fits d.rest x.1 both.1 d.second);
        no_longer = λ bytes x are_bytes d.
            let both = parts_are_bytes bytes d.front d.rest are_bytes d.whole in
            sum_no_longer bytes d.front d.rest (optional_spelling n c x.0) (more.content.spelling x.1) d.whole (is_no_longer x.0 d.front both.0 d.first) (others.content.no_longer d.rest x.1 both.1 d.second);
      };
      begins = λ bytes x d. is_first x.0 bytes d.front d.rest d.whole d.first (others.begins d.rest x.1 d.second);
      appends = λ old x. others.appends (old ++ optional_spelling n c x.0) x.1 ∙ append_assoc old (optional_spelling n c x.0) (more.content.spelling x.1);
    }
  where
    is_spelt : (x : Option X) → IfSome x c.Fits → length (optional_spelling n c x) < 2 ^ 32 → IsOptional n c (optional_spelling n c x) x
    is_spelt None fits short = refl
    is_spelt (Some x) fits short = (explicit_lawful (tag_of n) c one).spelt x fits short

    can_be_written : (x : Option X) (bytes : List ℕ) → IsBytes bytes → IsOptional n c bytes x → IfSome x c.Fits
    can_be_written None bytes are_bytes d = tt
    can_be_written (Some x) bytes are_bytes d = (explicit_lawful (tag_of n) c one).fits bytes x are_bytes d

    is_no_longer : (x : Option X) (bytes : List ℕ) → IsBytes bytes → IsOptional n c bytes x → length (optional_spelling n c x) ≤ 3 * length bytes
    is_no_longer None bytes are_bytes d = omega arith
    is_no_longer (Some x) bytes are_bytes d = (explicit_lawful (tag_of n) c one).no_longer bytes x are_bytes d

    is_first : (x : Option X) (bytes front rest : List ℕ) → bytes ≡ front ++ rest → IsOptional n c front x → IsFrom more.low rest → IsFrom (tag_of n) bytes
    is_first None bytes front rest e d low = subst (λ (b : List ℕ). IsFrom (tag_of n) b) (sym (e ∙ ap (λ (f : List ℕ). f ++ rest) d)) (from_lower (tag_of n) more.low rest (omega arith) low)
    is_first (Some x) bytes front rest e d low = starts (tag_of n) d.content rest bytes (e ∙ ap (λ (f : List ℕ). f ++ rest) d.outside.spelt)

    is_only : (place : ℕ) (bytes : List ℕ) (x : Option X) (y : Y) (front rest : List ℕ) → bytes ≡ front ++ rest → IsOptional n c front x → more.content.IsDer rest y
        → (optional n c more).content.reading (record { place = place; bytes = bytes }) ≡ Ok (x, y)
    is_only place bytes None y front rest e d second =
        let same : bytes ≡ rest = e ∙ ap (λ (f : List ℕ). f ++ rest) d in
        let read : more.content.reading (record { place = place; bytes = bytes }) ≡ Ok y = subst (λ (b : List ℕ). more.content.reading (record { place = place; bytes = b }) ≡ Ok y) (sym same) (others.content.only (record { place = place; bytes = rest }) y second) in
        let other : begins (tag_of n) bytes ≡ false = subst (λ (b : List ℕ). begins (tag_of n) b ≡ false) (sym same) (begins_not (tag_of n) more.low rest above (others.begins rest y second)) in
        rw (other, read) refl
    is_only place bytes (Some x) y front rest e d second =
        let first = (explicit_lawful (tag_of n) c one).only place front rest x d in
        let moved = subst (λ (b : List ℕ). (explicit (tag_of n) c).reading (record { place = place; bytes = b }) ≡ Ok (x, record { place = place + length front; bytes = rest })) (sym e) first in
        let here : begins (tag_of n) bytes ≡ true = subst (λ (b : List ℕ). begins (tag_of n) b ≡ true) (sym (e ∙ ap (λ (f : List ℕ). f ++ rest) d.outside.spelt)) (eq-eqb (tag_of n) (tag_of n) refl) in
        rw (here, moved, others.content.only (record { place = place + length front; bytes = rest }) y second) refl

-- what is written of a value is what it was made of, or no longer and makes the same value
pub record Remakes {X Y : Type 0} (fields : Fields X) (make : X → Y) (parts_of : Y → X) (x : X) : Type 0 where
  pub same : make (parts_of (make x)) ≡ make x
  pub fits : fields.content.Fits (parts_of (make x))
  pub no_longer : length (fields.content.spelling (parts_of (make x))) ≤ length (fields.content.spelling x)

pub remade_lawful : {X Y : Type 0} (fields : Fields X) (make : X → Y) (parts_of : Y → X) → ((x : X) → fields.content.Fits x → Remakes fields make parts_of x)
    → AreFields fields → AreFields (made fields make parts_of)
remade_lawful {X} {Y} fields make parts_of remakes lawful = record {
  content = record {
    found = λ here y fits e.
        let a = bind_ok (fields.content.reading here) (λ x. Ok (make x)) y e in
        record { parts = a.0; spelt = lawful.content.found here a.0 fits a.1; made = ok_is (make a.0) y a.2 };
    only = λ here y d. rw (lawful.content.only here d.parts d.spelt, ← d.made) refl;
    spelt = λ y fits short. record { parts = parts_of y; spelt = lawful.content.spelt (parts_of y) fits.1 short; made = fits.0 };
    fits = λ bytes y are_bytes d.
        let again = remakes d.parts (lawful.content.fits bytes d.parts are_bytes d.spelt) in
        subst (λ (v : Y). (make (parts_of v) ≡ v) × fields.content.Fits (parts_of v)) d.made (again.same, again.fits);
    no_longer = λ bytes y are_bytes d.
        let again = remakes d.parts (lawful.content.fits bytes d.parts are_bytes d.spelt) in
        let le = lawful.content.no_longer bytes d.parts are_bytes d.spelt in
        subst (λ (v : Y). length (fields.content.spelling (parts_of v)) ≤ 3 * length bytes + 2) d.made (le_le _ _ _ again.no_longer le);
  };
  begins = λ bytes y d. lawful.begins bytes d.parts d.spelt;
  appends = λ old y. lawful.appends old (parts_of y);
}
  where
    le_le : (a b c : ℕ) → a ≤ b → b ≤ c → a ≤ c
    le_le a b c h k = omega arith

-- where the parts of what is made are the parts again, `λ x fits. refl` for a struct
pub made_lawful : {X Y : Type 0} (fields : Fields X) (make : X → Y) (parts_of : Y → X) → ((x : X) → fields.content.Fits x → parts_of (make x) ≡ x)
    → AreFields fields → AreFields (made fields make parts_of)
made_lawful {X} fields make parts_of back lawful = remade_lawful fields make parts_of remakes lawful
  where
    remakes : (x : X) → fields.content.Fits x → Remakes fields make parts_of x
    remakes x fits =
        let same = back x fits in
        record {
          same = ap make same;
          fits = subst fields.content.Fits (sym same) fits;
          no_longer = subst (λ (v : X). length (fields.content.spelling v) ≤ length (fields.content.spelling x)) (sym same) (omega arith);
        }

pub dropped_lawful : {X Y : Type 0} (n : ℕ) (c : Codec X) (more : Fields Y) → tag_of n < more.low → IsCodec c → AreFields more → AreFields (dropped n c more)
dropped_lawful {X} {Y} n c more above one others =
    remade_lawful (optional n c more) (λ (x : Option X × Y). x.1) (λ (y : Y). (None, y)) (λ x fits. record {
      same = refl;
      fits = (tt, fits.1);
      no_longer = omega (arith, length-append (optional_spelling n c x.0) (more.content.spelling x.1));
    }) (optional_lawful n c more above one others)

pub listed_lawful : {X Y : Type 0} (n : ℕ) (c : Codec (List X)) (more : Fields Y) → tag_of n < more.low → IsCodec c → AreFields more → AreFields (listed n c more)
listed_lawful {X} {Y} n c more above one others =
    remade_lawful (optional n c more) _ _ (λ x fits. by_list x.0 x.1 fits) (optional_lawful n c more above one others)
  where
    by_list : (list : Option (List X)) (y : Y) → (optional n c more).content.Fits (list, y) → Remakes (optional n c more) (λ (x : Option (List X) × Y). (list_of x.0, x.1)) (λ (x : List X × Y). (unless_empty x.0, x.1)) (list, y)
    by_list None y fits = record { same = refl; fits = fits; no_longer = omega arith }
    by_list (Some []) y fits = record { same = refl; fits = (tt, fits.1); no_longer = omega (arith, length-append (optional_spelling n c (Some [])) (more.content.spelling y)) }
    by_list (Some (x ∷ xs)) y fits = record { same = refl; fits = fits; no_longer = omega arith }

pub sequence_lawful : {X : Type 0} (fields : Fields X) → AreFields fields → IsCodec (sequence fields)
sequence_lawful fields lawful = element_of_lawful 0x30 fields.content lawful.content

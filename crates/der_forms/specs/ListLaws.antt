-- SEQUENCE OF a lawful form is lawful.
use Rattle.std.proofs.Common.{◌≡◌, ℕ, zero, suc, ◌+◌, ◌*◌, ◌<◌, ◌≤◌, ◌^◌, false, eqb, List, [], ◌∷◌, ◌++◌, length, Ok, refl, sym, ap, subst, ◌∙◌, length-append, arith, inl, inr}
use Rattle.std.specs.List.{flat_map, AllByRecursion}
use Rattle.std.proofs.lemmas.Bool.{eqb-true, ne_eqb}
use Rattle.std.proofs.lemmas.List.{nil_from_length}
use Rattle.std.proofs.lemmas.List.Concat.{flat_map-cons}
use Rattle.der_core.specs.Place.{At, refused, ◌>>=◌}
use Rattle.der_core.specs.declared.refusal.DerCause.TheVariants.{LengthForm}
use Rattle.der_core.specs.Codec.{Codec}
use Rattle.der_core.specs.Laws.{IsBytes, IsCodec, IsContent}
use Rattle.der_core.specs.CodecLaws.{element_of_lawful, such_lawful}
use Rattle.der_core.specs.Steps.{bind_ok, chosen, good, ok_is, IsBytes-front, IsBytes-rest, IsBytes-past}
use Rattle.der_forms.specs.Lists.{items_at, AreItems, items, items_up_to, is_some, some_items, sequence_of}

items_found : {X : Type 0} (c : Codec X) → IsCodec c → (n start : ℕ) (here : At) (xs : List X) → IsBytes here.bytes → items_at n start c here ≡ Ok xs → AreItems c.IsDer here.bytes xs × (length xs ≤ n)
unfolding items_at
items_found {X} c lawful zero start here xs fits e =
    elim (chosen (eqb (length here.bytes) 0) (good []) (refused LengthForm start) (Ok xs) e) [
      | inl p ↦ subst (λ (v : List X). AreItems c.IsDer here.bytes v × (length v ≤ 0)) (ok_is [] xs p.1) (nil_from_length here.bytes (eqb-true _ _ p.0), omega arith)
      | inr p ↦ absurd cc
    ]
items_found {X} c lawful (suc n) start here xs fits e =
    elim (chosen (eqb (length here.bytes) 0) (good []) (c.reading here >>= λ x. items_at n start c x.1 >>= λ xs. good (x.0 ∷ xs)) (Ok xs) e) [
      | inl p ↦ subst (λ (v : List X). AreItems c.IsDer here.bytes v × (length v ≤ suc n)) (ok_is [] xs p.1) (nil_from_length here.bytes (eqb-true _ _ p.0), omega arith)
      | inr p ↦
          let a = bind_ok (c.reading here) (λ x. items_at n start c x.1 >>= λ xs. Ok (x.0 ∷ xs)) xs p.1 in
          let b = bind_ok (items_at n start c a.0.1) (λ xs. Ok (a.0.0 ∷ xs)) xs a.2 in
          let f = lawful.found here a.0.1 a.0.0 fits a.1 in
          let others = items_found c lawful n start a.0.1 b.0 (IsBytes-past here f.front a.0.1 f.passes fits) b.1 in
          let made : AreItems c.IsDer here.bytes (a.0.0 ∷ b.0) = record { front = f.front; rest = a.0.1.bytes; whole = f.passes.bytes; first = f.is_der; second = others.0 } in
          subst (λ (v : List X). AreItems c.IsDer here.bytes v × (length v ≤ suc n)) (ok_is (a.0.0 ∷ b.0) xs b.2) (made, omega (arith, others.1))
    ]

items_only : {X : Type 0} (c : Codec X) → IsCodec c → (n start place : ℕ) (bytes : List ℕ) (xs : List X) → length xs ≤ n → AreItems c.IsDer bytes xs → items_at n start c (record { place = place; bytes = bytes }) ≡ Ok xs
unfolding items_at
items_only c lawful zero start place bytes [] le d = rw d refl
items_only c lawful (suc n) start place bytes [] le d = rw d refl
items_only c lawful zero start place bytes (x ∷ xs) le d = absurd (omega arith)
items_only {X} c lawful (suc n) start place bytes (x ∷ xs) le d =
    let lengths = ap length d.whole ∙ length-append d.front d.rest in
    let some = lawful.some d.front x d.first in
    let test : eqb (length bytes) 0 ≡ false = ne_eqb _ _ (λ e. omega (arith, lengths, some)) in
    let first = subst (λ (b : List ℕ). c.reading (record { place = place; bytes = b }) ≡ Ok (x, record { place = place + length d.front; bytes = d.rest })) (sym d.whole) (lawful.only place d.front d.rest x d.first) in
    let second = items_only c lawful n start (place + length d.front) d.rest xs (omega arith) d.second in
    rw (test, first, second) refl

-- each item has a byte
items_few : {X : Type 0} (c : Codec X) → IsCodec c → (bytes : List ℕ) (xs : List X) → AreItems c.IsDer bytes xs → length xs ≤ length bytes
items_few c lawful bytes [] d = omega arith
items_few c lawful bytes (x ∷ xs) d = omega (arith, ap length d.whole, length-append d.front d.rest, lawful.some d.front x d.first, items_few c lawful d.rest xs d.second)

items_fit : {X : Type 0} (c : Codec X) → IsCodec c → (bytes : List ℕ) (xs : List X) → IsBytes bytes → AreItems c.IsDer bytes xs → AllByRecursion c.Fits xs
items_fit c lawful bytes [] fits d = tt
items_fit c lawful bytes (x ∷ xs) fits d =
    let all : IsBytes (d.front ++ d.rest) = subst IsBytes d.whole fits in
    (lawful.fits d.front x (IsBytes-front d.front d.rest all) d.first, items_fit c lawful d.rest xs (IsBytes-rest d.front d.rest all) d.second)

items_no_longer : {X : Type 0} (c : Codec X) → IsCodec c → (bytes : List ℕ) (xs : List X) → IsBytes bytes → AreItems c.IsDer bytes xs → length (flat_map c.spelling xs) ≤ 3 * length bytes
items_no_longer c lawful bytes [] fits d = omega arith
items_no_longer c lawful bytes (x ∷ xs) fits d =
    let all : IsBytes (d.front ++ d.rest) = subst IsBytes d.whole fits in
    let one = lawful.no_longer d.front x (IsBytes-front d.front d.rest all) d.first in
    let others = items_no_longer c lawful d.rest xs (IsBytes-rest d.front d.rest all) d.second in
    omega (arith, ap length d.whole, length-append d.front d.rest, ap length (flat_map-cons c.spelling x xs), length-append (c.spelling x) (flat_map c.spelling xs), one, others)

items_spelt : {X : Type 0} (c : Codec X) → IsCodec c → (xs : List X) → AllByRecursion c.Fits xs → length (flat_map c.spelling xs) < 2 ^ 32 → AreItems c.IsDer (flat_map c.spelling xs) xs
items_spelt c lawful [] fits short = refl
items_spelt c lawful (x ∷ xs) fits short =
    let parts = flat_map-cons c.spelling x xs in
    let lengths = ap length parts ∙ length-append (c.spelling x) (flat_map c.spelling xs) in
    record {
      front = c.spelling x;
      rest = flat_map c.spelling xs;
      whole = parts;
      first = lawful.spelt x fits.0 (omega (arith, lengths));
      second = items_spelt c lawful xs fits.1 (omega (arith, lengths));
    }

pub items_lawful : {X : Type 0} (c : Codec X) → IsCodec c → IsContent (items c)
items_lawful c lawful = record {
  found = λ here xs fits e. (items_found c lawful (length here.bytes) here.place here xs fits e).0;
  only = λ here xs d. items_only c lawful (length here.bytes) here.place here.place here.bytes xs (items_few c lawful here.bytes xs d) d;
  spelt = items_spelt c lawful;
  fits = items_fit c lawful;
  no_longer = λ bytes xs fits d. omega (arith, items_no_longer c lawful bytes xs fits d);
}

pub items_up_to_lawful : {X : Type 0} (n : ℕ) (c : Codec X) → IsCodec c → IsContent (items_up_to n c)
items_up_to_lawful n c lawful = record {
  found = λ here xs fits e. items_found c lawful n here.place here xs fits e;
  only = λ here xs d. items_only c lawful n here.place here.place here.bytes xs d.1 d.0;
  spelt = λ xs fits short. (items_spelt c lawful xs fits.0 short, fits.1);
  fits = λ bytes xs fits d. (items_fit c lawful bytes xs fits d.0, d.1);
  no_longer = λ bytes xs fits d. omega (arith, items_no_longer c lawful bytes xs fits d.0);
}

pub some_items_lawful : {X : Type 0} (n : ℕ) (c : Codec X) → IsCodec c → IsContent (some_items n c)
some_items_lawful n c lawful = such_lawful is_some LengthForm (items_up_to n c) (items_up_to_lawful n c lawful)

pub sequence_of_lawful : {X : Type 0} (c : Codec X) → IsCodec c → IsCodec (sequence_of c)
sequence_of_lawful c lawful = element_of_lawful 0x30 (items c) (items_lawful c lawful)

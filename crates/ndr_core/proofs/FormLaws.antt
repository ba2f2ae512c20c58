-- Whole structures of lawful layouts.
use Rattle.std.proofs.Common.{◌≡◌, ℕ, ◌+◌, ◌<◌, ◌≤◌, ◌^◌, List, [], ◌++◌, length, Ok, refl, sym, ap, ◌∙◌, append-nil, append_assoc, length-append, arith}
use Rattle.std.proofs.lemmas.List.{nil_from_length}
use Rattle.ndr_core.specs.Place.{At, start_of}
use Rattle.ndr_core.specs.Layout.{Layout}
use Rattle.ndr_core.specs.Object.{header, object, IsObject, begun, spelling, packed, packed_spelling}
use Rattle.ndr_core.specs.Laws.{IsLayout}
use Rattle.ndr_core.specs.Forms.{HasOneReading, IsPrefixFree, IsForm, IsObjectForm, IsPackedForm}
use Rattle.ndr_core.proofs.Steps.{ok_is}
use Rattle.ndr_core.proofs.ObjectLaws.{header_lawful, object_only, object_spelt, object_again, packed_only, packed_spelt, headed, no_shorter}

abbrev at : ℕ → List ℕ → At
at place bytes = record { place = place; bytes = bytes; behind = 0 }

-- what stands in front of other bytes, and is the whole of them, leaves none
pub packed_prefix_free : {X : Type 0} (c : Layout X) → IsLayout c → IsPrefixFree {X = X} (λ bytes x. c.IsNdr 0 bytes x)
packed_prefix_free {X} c lawful front rest x y first second =
    let one : c.reading (at 0 (front ++ rest)) ≡ Ok (x, at (0 + length front) rest) = lawful.only 0 0 front rest x first in
    let two : c.reading (at 0 ((front ++ rest) ++ [])) ≡ Ok (y, at (0 + length (front ++ rest)) []) = lawful.only 0 0 (front ++ rest) [] y second in
    let same = ok_is {A = X × At} (x, at (0 + length front) rest) (y, at (0 + length (front ++ rest)) []) (sym one ∙ ap (λ (b : List ℕ). c.reading (at 0 b)) (sym (append-nil (front ++ rest))) ∙ two) in
    ap (λ (p : X × At). p.1.bytes) same

pub packed_once : {X : Type 0} (c : Layout X) → IsLayout c → HasOneReading {X = X} (λ bytes x. c.IsNdr 0 bytes x)
packed_once c lawful bytes x y first second = ok_is x y (sym (packed_only c bytes x lawful first) ∙ packed_only c bytes y lawful second)

pub packed_form : {X : Type 0} (c : Layout X) → IsLayout c → IsPackedForm c
packed_form c lawful = record {
  spelt = λ x fits short. packed_spelt c x lawful fits short;
  again = λ x fits short. packed_only c (packed_spelling c x) x lawful (packed_spelt c x lawful fits short);
  once = packed_once c lawful;
  prefix_free = packed_prefix_free c lawful;
}

-- the header tells how many bytes follow it
object_prefix_free : {X : Type 0} (c : Layout X) → IsPrefixFree {X = X} (IsObject c)
object_prefix_free c front rest x y d e =
    let n : ℕ = length d.content + length d.padding in
    let m : ℕ = length e.content + length e.padding in
    let inner : List ℕ = d.content ++ d.padding in
    let other : List ℕ = e.content ++ e.padding in
    let one : header.reading (at 0 (d.head ++ (inner ++ rest))) ≡ Ok (n, at (0 + length d.head) (inner ++ rest)) = header_lawful.only 0 0 d.head (inner ++ rest) n d.header in
    let two : header.reading (at 0 (e.head ++ other)) ≡ Ok (m, at (0 + length e.head) other) = header_lawful.only 0 0 e.head other m e.header in
    let bytes : d.head ++ (inner ++ rest) ≡ e.head ++ other = sym (append_assoc d.head inner rest) ∙ ap (λ (l : List ℕ). l ++ rest) (sym d.whole) ∙ e.whole in
    let same = ok_is {A = ℕ × At} (n, at (0 + length d.head) (inner ++ rest)) (m, at (0 + length e.head) other) (sym one ∙ ap (λ (b : List ℕ). header.reading (at 0 b)) bytes ∙ two) in
    let size : n ≡ m = ap (λ (p : ℕ × At). p.0) same in
    let left : inner ++ rest ≡ other = ap (λ (p : ℕ × At). p.1.bytes) same in
    nil_from_length rest (omega (arith, ap length left, length-append inner rest, length-append d.content d.padding, length-append e.content e.padding, size))

object_once : {X : Type 0} (c : Layout X) → IsLayout c → HasOneReading {X = X} (IsObject c)
object_once c lawful bytes x y first second = ok_is x y (sym (object_only c bytes x lawful first) ∙ object_only c bytes y lawful second)

inside : {X : Type 0} (c : Layout X) (x : X) → IsLayout c → length (spelling c x) < 2 ^ 31 → length (c.written begun x).bytes < 2 ^ 31
inside c x lawful short = omega (arith, no_shorter (c.written begun x).bytes (headed c x lawful))

pub object_form : {X : Type 0} (c : Layout X) → IsLayout c → IsObjectForm c
object_form c lawful = record {
  spelt = λ x fits short. object_spelt c x lawful fits (inside c x lawful short);
  again = λ x fits short. object_again c x lawful fits (inside c x lawful short);
  once = object_once c lawful;
  prefix_free = object_prefix_free c;
}

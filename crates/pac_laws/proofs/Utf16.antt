-- Octets that are read as a text are the text's.
use Rattle.std.proofs.Common.{◌≡◌, ℕ, suc, ◌+◌, ◌-◌, ◌*◌, ◌/◌, ◌%◌, ◌<◌, ◌≤◌, Bool, true, false, not, ◌||◌, ◌&&◌, cond, leb, ltb, List, [], ◌∷◌, ◌++◌, get_or, map, Option, Some, None, refl, sym, ap, subst, ◌∙◌, arith, lt-ltb, le-ltb}
use Rattle.std.specs.Prelude.{flat_map, is_some}
use Rattle.std.specs.Option.{unwrap_or}
use Rattle.std.specs.List.{list_any}
use Rattle.std.specs.Str.{IsUtf8, chars, encode_utf8_all}
use Rattle.std.specs.Char.Escape.{encode_utf16}
use Rattle.std.specs.Char.Utf16.{utf16_chars, surrogate_pair_char, lone_unit_char, is_low_surrogate, is_high_surrogate}
use Rattle.std.proofs.lemmas.Bool.Decides.{nat_tests}
use Rattle.std.proofs.lemmas.Str.{chars-encodes}
use Rattle.std.proofs.Math.Utf8.{scalar, scalars}
use Rattle.kdc_prelude.specs.Steps.{with_front, ◌>>=◌}
use Rattle.kdc_prelude.proofs.Bools.{both}
use Rattle.ndr_core.specs.Laws.{IsBytes}
use Rattle.krb_names.specs.Utf16.{unit_octets, units_of_octets, text_of_units, utf16le_text, utf16le_reading}

some_is : {X : Type 0} (x y : X) → Some x ≡ Some y → x ≡ y
some_is x y e = cc

-- ---- units

-- each is a number of 16 bits
abbrev AreUnits : List ℕ → Type 0
AreUnits [] = Unit {0}
AreUnits (u ∷ us) = (u < 65536) × AreUnits us

-- the units that the octets spell
record AreSpelt (octets units : List ℕ) : Type 0 where
  pub again : flat_map unit_octets units ≡ octets
  pub small : AreUnits units

front_is : (u : ℕ) (o : Option (List ℕ)) (us : List ℕ) → with_front (u ∷ []) o ≡ Some us → (vs : List ℕ) × (o ≡ Some vs) × (u ∷ vs ≡ us)
front_is u None us e = absurd cc
front_is u (Some vs) us e = (vs, refl, some_is (u ∷ vs) us e)

unit_again : (low high : ℕ) → low < 256 → high < 256 → unit_octets (low + high * 256) ≡ low ∷ high ∷ []
unit_again low high a b =
    let first : (low + high * 256) % 256 ≡ low = omega arith in
    let second : (low + high * 256) / 256 ≡ high = omega arith in
    rw (first, second) refl

units_found : (octets units : List ℕ) → IsBytes octets → units_of_octets octets ≡ Some units → AreSpelt octets units
units_found [] units fits e = subst (AreSpelt []) (some_is [] units e) (record { again = refl; small = tt })
units_found (low ∷ []) units fits e = absurd cc
units_found (low ∷ high ∷ octets) units fits e =
    let f = front_is (low + high * 256) (units_of_octets octets) units e in
    let first : low < 256 = fits 0 in
    let second : high < 256 = fits 1 in
    let rest = units_found octets f.0 (λ k. let h : get_or (low ∷ high ∷ octets) (suc (suc k)) 0 < 256 = fits (suc (suc k)) in h) f.1 in
    let whole : AreSpelt (low ∷ high ∷ octets) ((low + high * 256) ∷ f.0) = record {
      again = ap (λ (front : List ℕ). front ++ flat_map unit_octets f.0) (unit_again low high first second) ∙ ap (λ (r : List ℕ). low ∷ high ∷ r) rest.again;
      small = (omega arith, rest.small);
    } in
    subst (AreSpelt (low ∷ high ∷ octets)) f.2 whole

-- ---- characters

abbrev kept : List (Option ℕ) → List ℕ
kept found = map (λ o. unwrap_or o 0xFFFD) found

abbrev any_lone : List (Option ℕ) → Bool
any_lone found = list_any (λ o. not (is_some o)) found

-- the units are those of these characters
record Spell (found : List (Option ℕ)) (units : List ℕ) : Type 0 where
  pub scalars : scalars (kept found) ≡ true
  pub again : flat_map encode_utf16 (kept found) ≡ units

neither : (a b : Bool) → (a || b) ≡ false → (a ≡ false) × (b ≡ false)
neither true b e = absurd cc
neither false b e = (refl, e)

record IsLone (o : Option ℕ) (u : ℕ) : Type 0 where
  pub is : o ≡ Some u
  pub scalar : scalar u ≡ true
  pub again : encode_utf16 u ≡ u ∷ []

lone_by : (t : Bool) (u : ℕ) → (leb 0xD800 u && ltb u 0xE000) ≡ t → u < 65536 → not (is_some (cond t None (Some u))) ≡ false → IsLone (cond t None (Some u)) u
lone_by true u test small some = absurd cc
lone_by false u test small some = record { is = refl; scalar = grind (arith, nat_tests); again = rw (lt-ltb u 65536 small) refl }

lone_is : (u : ℕ) → u < 65536 → not (is_some (lone_unit_char u)) ≡ false → IsLone (lone_unit_char u) u
lone_is u small some = lone_by (leb 0xD800 u && ltb u 0xE000) u refl small some

spell_lone : (u : ℕ) (found : List (Option ℕ)) (us : List ℕ) → IsLone (lone_unit_char u) u → Spell found us → Spell (lone_unit_char u ∷ found) (u ∷ us)
spell_lone u found us one rest =
    let whole : Spell (Some u ∷ found) (u ∷ us) = record {
      scalars = rw (one.scalar, rest.scalars) refl;
      again = ap (λ (front : List ℕ). front ++ flat_map encode_utf16 (kept found)) one.again ∙ ap (λ (r : List ℕ). u ∷ r) rest.again;
    } in
    subst (λ (o : Option ℕ). Spell (o ∷ found) (u ∷ us)) (sym one.is) whole

record IsPair (u v : ℕ) : Type 0 where
  pub scalar : scalar (surrogate_pair_char u v) ≡ true
  pub again : encode_utf16 (surrogate_pair_char u v) ≡ u ∷ v ∷ []

pair_is : (u v : ℕ) → (is_high_surrogate u && is_low_surrogate v) ≡ true → IsPair u v
pair_is u v test =
    let t = both (is_high_surrogate u) (is_low_surrogate v) test in
    let high : (0xD800 ≤ u) × (u < 0xDC00) = grind (arith, nat_tests, t.0) in
    let low : (0xDC00 ≤ v) × (v < 0xE000) = grind (arith, nat_tests, t.1) in
    let c : ℕ = surrogate_pair_char u v in
    let large : 65536 ≤ c = omega arith in
    let first : 0xD800 + (c - 65536) / 1024 ≡ u = omega (arith, high.0, high.1, low.0, low.1) in
    let second : 0xDC00 + (c - 65536) % 1024 ≡ v = omega (arith, high.0, high.1, low.0, low.1) in
    record { scalar = grind (arith, nat_tests, high.0, high.1, low.0, low.1); again = rw (le-ltb c 65536 large, first, second) refl }

spell_pair : (u v : ℕ) (found : List (Option ℕ)) (us : List ℕ) → IsPair u v → Spell found us → Spell (Some (surrogate_pair_char u v) ∷ found) (u ∷ v ∷ us)
spell_pair u v found us pair rest = record {
  scalars = rw (pair.scalar, rest.scalars) refl;
  again = ap (λ (front : List ℕ). front ++ flat_map encode_utf16 (kept found)) pair.again ∙ ap (λ (r : List ℕ). u ∷ v ∷ r) rest.again;
}

spell_by : (t : Bool) (u v : ℕ) (pairs lones : List (Option ℕ)) (us : List ℕ) → (is_high_surrogate u && is_low_surrogate v) ≡ t → u < 65536 → (any_lone pairs ≡ false → Spell pairs us) → (any_lone lones ≡ false → Spell lones (v ∷ us))
    → any_lone (cond t (Some (surrogate_pair_char u v) ∷ pairs) (lone_unit_char u ∷ lones)) ≡ false → Spell (cond t (Some (surrogate_pair_char u v) ∷ pairs) (lone_unit_char u ∷ lones)) (u ∷ v ∷ us)
spell_by true u v pairs lones us test small one other none = spell_pair u v pairs us (pair_is u v test) (one none)
spell_by false u v pairs lones us test small one other none =
    let n = neither (not (is_some (lone_unit_char u))) (any_lone lones) none in
    spell_lone u lones (v ∷ us) (lone_is u small n.0) (other n.1)

spells : (units : List ℕ) → AreUnits units → any_lone (utf16_chars units) ≡ false → Spell (utf16_chars units) units
unfolding utf16_chars
spells [] small none = record { scalars = refl; again = refl }
spells (u ∷ []) small none =
    let n = neither (not (is_some (lone_unit_char u))) false none in
    spell_lone u [] [] (lone_is u small.0 n.0) (record { scalars = refl; again = refl })
spells (u ∷ v ∷ us) small none =
    spell_by (is_high_surrogate u && is_low_surrogate v) u v (utf16_chars us) (utf16_chars (v ∷ us)) us refl small.0 (λ e. spells us small.1.1 e) (λ e. spells (v ∷ us) small.1 e) none

-- ---- texts

text_by : (t : Bool) (all text : List ℕ) → cond t None (Some all) ≡ Some text → (t ≡ false) × (all ≡ text)
text_by true all text e = absurd cc
text_by false all text e = (refl, some_is all text e)

step_is : {X Y : Type 0} (o : Option X) (f : X → Option Y) (y : Y) → (o >>= f) ≡ Some y → (x : X) × (o ≡ Some x) × (f x ≡ Some y)
step_is None f y e = absurd cc
step_is (Some x) f y e = (x, refl, e)

pub text_found : (octets text : List ℕ) → IsBytes octets → utf16le_reading octets ≡ Some text → IsUtf8 text × (utf16le_text text ≡ octets)
text_found octets text fits e =
    let s = step_is (units_of_octets octets) (λ units. text_of_units units) text e in
    let units : List ℕ = s.0 in
    let spelt = units_found octets units fits s.1 in
    let cs : List ℕ = kept (utf16_chars units) in
    let t = text_by (any_lone (utf16_chars units)) (encode_utf8_all cs) text s.2 in
    let found = spells units spelt.small t.0 in
    let again : chars text ≡ cs = ap chars (sym t.1) ∙ chars-encodes cs found.scalars in
    let octets_again : utf16le_text text ≡ octets = ap (λ (l : List ℕ). flat_map unit_octets (flat_map encode_utf16 l)) again ∙ ap (λ (us : List ℕ). flat_map unit_octets us) found.again ∙ spelt.again in
    ((cs, (found.scalars, t.1)), octets_again)

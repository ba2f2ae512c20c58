-- Lemmas on texts in UTF-16LE.
use Rattle.std.proofs.Common.{◌≡◌, ℕ, ◌+◌, ◌-◌, ◌*◌, ◌/◌, ◌%◌, ◌<◌, ◌≤◌, ◌⊎◌, inl, inr, true, false, not, List, [], ◌∷◌, ◌++◌, map, length, get_or, drop, append_assoc, refl, sym, ap, ◌∙◌, arith, lt-ltb, le-ltb}
use Rattle.std.specs.Prelude.{Some, None, flat_map, is_some, if◌then◌else◌}
use Rattle.std.specs.Option.{unwrap_or}
use Rattle.std.specs.List.{list_any}
use Rattle.std.specs.Str.{IsUtf8, chars, encode_utf8_all}
use Rattle.std.specs.Char.Escape.{encode_utf16}
use Rattle.std.specs.Char.Utf16.{utf16_chars, surrogate_pair_char, lone_unit_char}
use Rattle.std.proofs.lemmas.Bool.{cases_lt}
use Rattle.std.proofs.lemmas.Bool.Decides.{nat_tests}
use Rattle.std.proofs.lemmas.List.{drop_more}
use Rattle.std.proofs.lemmas.Str.{scalars-chars, encodes-chars, utf16_chars-nil, utf16_chars_lone, utf16_chars_pair}
use Rattle.std.proofs.Math.Utf8.{scalar, scalars}
use Rattle.kdc_prelude.specs.Steps.{with_front, ◌>>=◌}
use Rattle.kdc_prelude.proofs.Bools.{both}
use Rattle.krb_names.specs.Utf16.{unit_octets, units_of_octets, text_of_units, utf16_units, utf16le_text, utf16le_reading}

abbrev pub char_octets : ℕ → List ℕ
char_octets c = flat_map unit_octets (encode_utf16 c)

flat_map-append : {X Y : Type 0} (f : X → List Y) (xs ys : List X) → flat_map f (xs ++ ys) ≡ flat_map f xs ++ flat_map f ys
flat_map-append f [] ys = refl
flat_map-append f (x ∷ xs) ys = ap (λ l. f x ++ l) (flat_map-append f xs ys) ∙ sym (append_assoc (f x) (flat_map f xs) (flat_map f ys))

pub by_chars : (cs : List ℕ) → flat_map char_octets cs ≡ flat_map unit_octets (flat_map encode_utf16 cs)
by_chars [] = refl
by_chars (c ∷ cs) = ap (λ l. char_octets c ++ l) (by_chars cs) ∙ sym (flat_map-append unit_octets (encode_utf16 c) (flat_map encode_utf16 cs))

pub units_back : (units : List ℕ) → units_of_octets (flat_map unit_octets units) ≡ Some units
units_back [] = refl
units_back (u ∷ us) =
    let unit : u % 256 + u / 256 * 256 ≡ u = omega arith in
    ap (with_front ((u % 256 + u / 256 * 256) ∷ [])) (units_back us) ∙ ap (λ v. Some (v ∷ us)) unit

-- a character more
pub push_more : (cs octets new whole : List ℕ) (n c : ℕ) → n < length cs → c ≡ get_or cs n c → new ≡ octets ++ char_octets c → octets ++ flat_map char_octets (drop n cs) ≡ whole → new ++ flat_map char_octets (drop (n + 1) cs) ≡ whole
push_more cs octets new whole n c l is pushed h =
    let here : drop n cs ≡ c ∷ drop (n + 1) cs = drop_more cs n c l ∙ ap (λ x. x ∷ drop (n + 1) cs) (sym is) in
    ap (λ front. front ++ flat_map char_octets (drop (n + 1) cs)) pushed
    ∙ append_assoc octets (char_octets c) (flat_map char_octets (drop (n + 1) cs))
    ∙ sym (ap (λ rest. octets ++ flat_map char_octets rest) here) ∙ h

one_unit : (c : ℕ) (us : List ℕ) → c < 65536 → scalar c ≡ true → utf16_chars (encode_utf16 c ++ us) ≡ Some c ∷ utf16_chars us
one_unit c us small h =
    let unit : encode_utf16 c ≡ c ∷ [] = rw (lt-ltb c 65536 small) refl in
    let alone : lone_unit_char c ≡ Some c = grind (arith, nat_tests) in
    ap (λ front. utf16_chars (front ++ us)) unit
    ∙ utf16_chars_lone c us (λ pair. grind (arith, nat_tests, pair.0, pair.1)) ∙ ap (λ o. o ∷ utf16_chars us) alone

two_units : (c : ℕ) (us : List ℕ) → 65536 ≤ c → scalar c ≡ true → utf16_chars (encode_utf16 c ++ us) ≡ Some c ∷ utf16_chars us
two_units c us large h =
    let high = 0xD800 + (c - 65536) / 1024 in
    let low = 0xDC00 + (c - 65536) % 1024 in
    let units : encode_utf16 c ≡ high ∷ low ∷ [] = rw (le-ltb c 65536 large) refl in
    let most : c < 1114112 = grind (arith, nat_tests) in
    let back : surrogate_pair_char high low ≡ c = omega arith in
    ap (λ front. utf16_chars (front ++ us)) units
    ∙ utf16_chars_pair high low us (omega arith, omega arith, omega arith, omega arith) ∙ ap (λ x. Some x ∷ utf16_chars us) back

-- the characters that the units of characters spell
chars_back : (cs : List ℕ) → scalars cs ≡ true → utf16_chars (flat_map encode_utf16 cs) ≡ map Some cs
chars_back [] h = utf16_chars-nil
chars_back (c ∷ cs) h = by_size (cases_lt c 65536) ∙ ap (λ l. Some c ∷ l) (chars_back cs (both (scalar c) (scalars cs) h).1)
  where
    by_size : (c < 65536) ⊎ (65536 ≤ c) → utf16_chars (encode_utf16 c ++ flat_map encode_utf16 cs) ≡ Some c ∷ utf16_chars (flat_map encode_utf16 cs)
    by_size (inl small) = one_unit c (flat_map encode_utf16 cs) small (both (scalar c) (scalars cs) h).0
    by_size (inr large) = two_units c (flat_map encode_utf16 cs) large (both (scalar c) (scalars cs) h).0

all_paired : (cs : List ℕ) → list_any (λ o. not (is_some o)) (map Some cs) ≡ false
all_paired [] = refl
all_paired (c ∷ cs) = all_paired cs

unwrapped : (cs : List ℕ) → map (λ o. unwrap_or o 0xFFFD) (map Some cs) ≡ cs
unwrapped [] = refl
unwrapped (c ∷ cs) = ap (λ l. c ∷ l) (unwrapped cs)

-- reading what was written gives the text back
pub text_back : (text : List ℕ) → IsUtf8 text → utf16le_reading (utf16le_text text) ≡ Some text
text_back text h =
    let back = chars_back (chars text) (scalars-chars text h) in
    ap (λ o. o >>= λ units. text_of_units units) (units_back (utf16_units text))
    ∙ ap (λ found. if list_any (λ o. not (is_some o)) found then None else Some (encode_utf8_all (map (λ o. unwrap_or o 0xFFFD) found))) back
    ∙ ap (λ test. if test then None else Some (encode_utf8_all (map (λ o. unwrap_or o 0xFFFD) (map Some (chars text))))) (all_paired (chars text))
    ∙ ap (λ cs. Some (encode_utf8_all cs)) (unwrapped (chars text)) ∙ ap Some (encodes-chars text h)

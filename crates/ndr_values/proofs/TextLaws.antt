-- Texts in UTF-16LE.
use Rattle.std.proofs.Common.{◌≡◌, ℕ, ◌*◌, ◌/◌, ◌%◌, ◌≤◌, Bool, true, false, not, ◌||◌, eqb, List, [], ◌∷◌, length, arith, refl, sym, ap, ◌∙◌, lit<}
use Rattle.std.specs.Prelude.{flat_map, Some}
use Rattle.std.proofs.lemmas.Bool.{eq-eqb, eqb-true, le-leb}
use Rattle.std.proofs.lemmas.List.{nil_from_length}
use Rattle.std.specs.Char.Escape.{encode_utf16}
use Rattle.std.proofs.lemmas.Str.{IsUtf8-nil, chars-nil}
use Rattle.krb_names.proofs.Units.{text_back}
use Rattle.std.specs.Int.{w16}
use Rattle.ndr_core.specs.Laws.{IsLayout}
use Rattle.ndr_core.specs.Fields.{number}
use Rattle.ndr_core.specs.Layout.{Layout, FitsPointed}
use Rattle.ndr_core.specs.Arrays.{units, is_actual}
use Rattle.ndr_core.proofs.LayoutLaws.{field_lawful, followed_lawful, mapped_lawful, decoded_lawful, pointed_lawful}
use Rattle.ndr_core.proofs.FieldLaws.{number16_lawful, pointer_to_lawful}
use Rattle.ndr_core.proofs.ArrayLaws.{units_lawful}
use Rattle.ndr_values.specs.declared.text.StringHead.{StringHead}
use Rattle.ndr_values.specs.Texts.{string_head, text_of, octets_of, head_of}
use Rattle.krb_names.specs.Utf16.{unit_octets, utf16_units, utf16le_text, utf16le_reading}

even_units : (units : List ℕ) → length (flat_map unit_octets units) % 2 ≡ 0
even_units [] = refl
even_units (u ∷ us) = omega (arith, even_units us)

-- each unit has two octets
pub even_octets : (text : List ℕ) → length (utf16le_text text) % 2 ≡ 0
even_octets text = even_units (utf16_units text)

pub string_head_lawful : IsLayout string_head
string_head_lawful = mapped_lawful _ _ _ (followed_lawful (number w16) _ number16_lawful (λ len. field_lawful _ _ number16_lawful (pointer_to_lawful len)))

pub text_of_lawful : (head : StringHead) → IsLayout (text_of head)
text_of_lawful head = pointed_lawful head.there _ [] (decoded_lawful (units head.len) _ _ (units_lawful head.len))

pub octets_of_lawful : (head : StringHead) → IsLayout (octets_of head)
octets_of_lawful head = pointed_lawful head.there _ [] (units_lawful head.len)

-- ---- what can be written

pub one_of : (b : Bool) → (not b || b) ≡ true
one_of true = refl
one_of false = refl

pub string_head_fits : (text : List ℕ) → length (utf16le_text text) ≤ 65534 → string_head.Fits (head_of text)
string_head_fits text few = (refl, (omega arith, (omega arith, (tt, one_of (eqb (length (utf16le_text text)) 0)))))

actual_is : (n h : ℕ) → n ≡ 2 * h → is_actual n h h ≡ true
actual_is n h twice = let first = le-leb h h (omega arith) in let second = eq-eqb n (2 * h) twice in rw (first, second) refl

units_fit : (x : List ℕ) → length x % 2 ≡ 0 → length x ≤ 65534 → (units (length x)).Fits x
units_fit x even few =
    let half : length x ≡ 2 * (length x / 2) = omega arith in
    (refl, (omega arith, ((lit< tt, refl), ((omega arith, actual_is (length x) (length x / 2) half), half))))

pub pointed_fits : {X : Type 0} (there : Bool) (c : Layout X) (other x : X) → c.Fits x → (there ≡ false → x ≡ other) → FitsPointed there c other x
pointed_fits true c other x fits none = fits
pointed_fits false c other x fits none = none refl

some_is : (a b : List ℕ) → Some a ≡ Some b → a ≡ b
some_is a b e = cc

pub not_false : (b : Bool) → not b ≡ false → b ≡ true
not_false true e = refl
not_false false e = absurd cc

-- a text without units is empty
no_units : (text : List ℕ) → utf16le_reading (utf16le_text text) ≡ Some text → eqb (length (utf16le_text text)) 0 ≡ true → text ≡ []
no_units text back none =
    let empty : utf16le_text text ≡ [] = nil_from_length (utf16le_text text) (eqb-true _ _ none) in
    let nothing : utf16le_text [] ≡ [] = ap (λ (cs : List ℕ). flat_map unit_octets (flat_map encode_utf16 cs)) chars-nil in
    some_is text [] (sym back ∙ ap utf16le_reading (empty ∙ sym nothing) ∙ text_back [] IsUtf8-nil)

pub text_of_fits : (text : List ℕ) → utf16le_reading (utf16le_text text) ≡ Some text → length (utf16le_text text) ≤ 65534 → (text_of (head_of text)).Fits text
text_of_fits text back few =
    pointed_fits _ _ [] text (back, units_fit (utf16le_text text) (even_octets text) few) (λ none. no_units text back (not_false _ none))

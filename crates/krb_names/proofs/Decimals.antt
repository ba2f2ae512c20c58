-- Lemmas on numbers as decimal digits.
use Rattle.std.proofs.Common.{◌≡◌, ◌≢◌, ◌<◌, ◌^◌, ℕ, Bool, true, false, not, ◌&&◌, eqb, leb, List, [], ◌∷◌, length, get_or, refl, arith, rules, sym}
use Rattle.std.specs.Prelude.{None, Some, Result, Err, if◌then◌else◌}
use Rattle.std.specs.Char.{is_ascii_digit}
use Rattle.std.specs.List.{list_all}
use Rattle.std.specs.Str.Parse.{ParsesUnsigned, digits_value}
use Rattle.std.proofs.lemmas.Bool.Decides.{nat_tests}
use Rattle.std.proofs.lemmas.Str.Parse.{IsNumeralModel, numerals_by_value, parse_plain}
use Rattle.kdc_prelude.proofs.Bools.{both}
use Rattle.krb_names.specs.Decimals.{is_decimal, has_leading_zero, decimal_reading}

abbrev AreDigits : List ℕ → Type 0
AreDigits text = list_all is_ascii_digit text ≡ true

digits : IsNumeralModel AreDigits (digits_value 10)
digits = numerals_by_value AreDigits (search rules)

-- a text of digits does not begin with a plus
no_plus : (text : List ℕ) → AreDigits text → get_or text 0 0 ≢ 43
no_plus [] h = omega arith
no_plus (d ∷ ds) h = grind (arith, nat_tests, both (is_ascii_digit d) (list_all is_ascii_digit ds) h)

none_above : (v most : ℕ) → most < v → (if leb v most then Some v else None) ≡ None
none_above v most h = grind (arith, nat_tests)

reading : (most : ℕ) (text : List ℕ) → (digits_value 10 text < 2 ^ 64 → ⊥) → most < 2 ^ 64 → decimal_reading most text ≡ None
reading most text h l = by_test (is_decimal text)
  where
    by_test : (b : Bool) → (if b && leb (digits_value 10 text) most then Some (digits_value 10 text) else None) ≡ None
    by_test true = none_above (digits_value 10 text) most (omega (arith, h))
    by_test false = refl

-- a text of decimal digits that `parse` refuses writes a number that is too large
pub refused : {E : Type 0} (most : ℕ) (text : List ℕ) (r : Result ℕ E) (e : E) → ParsesUnsigned 64 10 text r → r ≡ Err e → is_decimal text ≡ true → most < 2 ^ 64 → None ≡ decimal_reading most text
refused most text r e p is h l =
    let given = both (not (eqb (length text) 0) && not (has_leading_zero text)) (list_all is_ascii_digit text) h in
    let some = both (not (eqb (length text) 0)) (not (has_leading_zero text)) given.0 in
    let plain = parse_plain digits 64 text r p (no_plus text given.1) in
    let wrong = rw is at plain in
    sym (reading most text (λ small. wrong (given.1, grind (arith, nat_tests, some.0), small)) l)

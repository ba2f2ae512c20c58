-- The text of a time is ASCII.
use Rattle.std.proofs.Common.{◌≡◌, ℕ, ◌<◌, ◌≤◌, ◌&&◌, Bool, true, false, List, length, get_or, take, ltb, refl, subst, arith}
use Rattle.std.specs.Prelude.{Result, Ok, Err, ◌==◌, if◌then◌else◌, nat_le}
use Rattle.std.specs.List.{list_all}
use Rattle.std.specs.Char.{is_ascii_digit}
use Rattle.std.specs.Str.{IsAscii}
use Rattle.std.proofs.lemmas.Bool.{eqb-true, leb-true, ltb-false, ltb-true}
use Rattle.std.proofs.lemmas.List.{get_or-take, get_or_past, length-take-le}
use Rattle.std.proofs.lemmas.List.Sums.{AllPass-from_list_all}
use Rattle.kdc_prelude.proofs.Bools.{both}
use Rattle.krb_names.specs.declared.refusal.NameRefusal.{NameRefusal}
use Rattle.krb_names.specs.declared.refusal.NameRefusal.TheVariants.{BadTime}
use Rattle.krb_names.specs.Calendar.{is_civil, seconds_of}
use Rattle.krb_names.specs.Times.{civil_digits, has_time_form, ktime_reading}

first_true : (a b : Bool) (s t : ℕ) (fault : NameRefusal) → (if a && b then Ok s else Err fault) ≡ Ok t → a ≡ true
first_true true b s t fault e = refl
first_true false b s t fault e = absurd cc

digit_low : (c : ℕ) → is_ascii_digit c ≡ true → c < 128
digit_low c e = let low = leb-true c 57 (both (nat_le 48 c) (nat_le c 57) e).1 in omega arith

form_low : (text : List ℕ) → (length text ≡ 15) × (list_all is_ascii_digit (take 14 text) ≡ true) × (get_or text 14 0 ≡ 90) → IsAscii text
form_low text h i = by_place (ltb i 14) refl (ltb 14 i) refl
  where
    by_place : (a : Bool) → ltb i 14 ≡ a → (b : Bool) → ltb 14 i ≡ b → get_or text i 0 < 128
    by_place true e b f =
        let near = ltb-true i 14 e in
        let fit : i < length (take 14 text) = omega (arith, length-take-le 14 text (omega arith)) in
        let digit = AllPass-from_list_all is_ascii_digit (take 14 text) h.1 i 0 fit in
        let same = get_or-take 14 text i 0 near in
        digit_low (get_or text i 0) (rw same at digit)
    by_place false e true f =
        let far = ltb-true 14 i f in
        let none = get_or_past text i 0 (omega arith) in
        omega arith
    by_place false e false f =
        let low = ltb-false i 14 e in
        let high = ltb-false 14 i f in
        let at : 14 ≡ i = omega arith in
        let P : ℕ → Type 0 = λ k. get_or text k 0 < 128 in
        subst P at (omega arith)

pub time_is_ascii : (text : List ℕ) (time : ℕ) → ktime_reading text ≡ Ok time → IsAscii text
time_is_ascii text time e =
    let form = first_true (has_time_form text) (is_civil (civil_digits text)) (seconds_of (civil_digits text)) time BadTime e in
    let halves = both ((length text == 15) && list_all is_ascii_digit (take 14 text)) (get_or text 14 0 == 90) form in
    let digits = both (length text == 15) (list_all is_ascii_digit (take 14 text)) halves.0 in
    form_low text (eqb-true (length text) 15 digits.0, digits.1, eqb-true (get_or text 14 0) 90 halves.1)

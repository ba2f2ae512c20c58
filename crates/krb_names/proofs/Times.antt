-- Lemmas on times as text.
use Rattle.std.proofs.Common.{◌≡◌, ℕ, suc, zero, ◌+◌, ◌-◌, ◌*◌, ◌/◌, ◌%◌, ◌<◌, ◌≤◌, Bool, true, false, ◌&&◌, List, [], ◌∷◌, ◌++◌, length, get_or, take, refl, ap, ◌∙◌, arith}
use Rattle.std.specs.Prelude.{Some, None, Ok, Err, if◌then◌else◌}
use Rattle.std.specs.Char.{is_ascii_digit}
use Rattle.std.specs.Int.{IsInRange}
use Rattle.std.specs.List.{list_all}
use Rattle.std.proofs.lemmas.Bool.Decides.{nat_tests}
use Rattle.kdc_prelude.proofs.Bools.{both}
use Rattle.krb_names.specs.declared.refusal.NameRefusal.TheVariants.{BadTime}
use Rattle.krb_names.specs.declared.civil.CivilTime.{CivilTime}
use Rattle.krb_names.specs.Calendar.{is_civil, seconds_of}
use Rattle.krb_names.specs.Times.{BeginsWithDigits, civil_digits, civil_text, has_time_form, in_two_digits, ktime_reading}

digit_range : (d : ℕ) → is_ascii_digit d ≡ true → IsInRange 48 57 d
digit_range d h = grind (arith, nat_tests)

begins : (text : List ℕ) (n place : ℕ) → list_all is_ascii_digit (take n text) ≡ true → place < n → place < length text → IsInRange 48 57 (get_or text place 0)
begins [] n place h l long = absurd (omega arith)
begins (d ∷ ds) zero place h l long = absurd (omega arith)
begins (d ∷ ds) (suc n) zero h l long = digit_range d (both (is_ascii_digit d) (list_all is_ascii_digit (take n ds)) h).0
begins (d ∷ ds) (suc n) (suc place) h l long = begins ds n place (both (is_ascii_digit d) (list_all is_ascii_digit (take n ds)) h).1 (omega arith) (omega arith)

-- 14 digits are found at the places below 14
pub digits_found : (text : List ℕ) → 14 ≤ length text → list_all is_ascii_digit (take 14 text) ≡ true → BeginsWithDigits text
digits_found text long h place l = begins text 14 place h l (omega arith)

pub read_some : (form shown : Bool) (n seconds : ℕ) → form ≡ true → Some seconds ≡ (if shown then Some n else None) → Ok seconds ≡ (if form && shown then Ok n else Err BadTime)
read_some true true n seconds f h = grind arith
read_some true false n seconds f h = absurd (cc)
read_some false shown n seconds f h = absurd (cc)

pub read_none : (form shown : Bool) (n : ℕ) → form ≡ true → None ≡ (if shown then Some n else None) → Err BadTime ≡ (if form && shown then Ok n else Err BadTime)
read_none true true n f h = absurd (cc)
read_none true false n f h = refl
read_none false shown n f h = absurd (cc)

digit : (d : ℕ) → d ≤ 9 → is_ascii_digit (48 + d) ≡ true
digit d h = grind (arith, nat_tests)

two_more : (n : ℕ) (rest : List ℕ) → n ≤ 99 → list_all is_ascii_digit rest ≡ true → list_all is_ascii_digit ((48 + n / 10) ∷ (48 + n % 10) ∷ rest) ≡ true
two_more n rest h all =
    let tens = digit (n / 10) (omega arith) in
    let units = digit (n % 10) (omega arith) in
    rw (tens, units) all

two : (n : ℕ) → (48 + n / 10 - 48) * 10 + (48 + n % 10 - 48) ≡ n
two n = omega arith

four : (n : ℕ) → ((48 + n / 100 / 10 - 48) * 10 + (48 + n / 100 % 10 - 48)) * 100 + ((48 + n % 100 / 10 - 48) * 10 + (48 + n % 100 % 10 - 48)) ≡ n
four n = omega (arith, two (n / 100), two (n % 100))

-- what was written has the digits of its time
digits_back : (t : CivilTime) → civil_digits (civil_text t) ≡ t
digits_back t = λ i. record {
  year = four t.year i;
  month = two t.month i;
  day = two t.day i;
  hour = two t.hour i;
  minute = two t.minute i;
  second = two t.second i;
}

form_back : (t : CivilTime) → t.year ≤ 9999 → t.month ≤ 99 → t.day ≤ 99 → t.hour ≤ 99 → t.minute ≤ 99 → t.second ≤ 99 → has_time_form (civil_text t) ≡ true
form_back t year month day hour minute second =
    let after_minute = in_two_digits t.second in
    let after_hour = in_two_digits t.minute ++ after_minute in
    let after_day = in_two_digits t.hour ++ after_hour in
    let after_month = in_two_digits t.day ++ after_day in
    let after_year = in_two_digits t.month ++ after_month in
    let all = two_more (t.year / 100) (in_two_digits (t.year % 100) ++ after_year) (omega arith)
    (two_more (t.year % 100) after_year (omega arith)
    (two_more t.month after_month month
    (two_more t.day after_day day
    (two_more t.hour after_hour hour
    (two_more t.minute after_minute minute
    (two_more t.second [] second refl)))))) in
    rw all refl

-- reading what was written gives the time back
pub written : (t : CivilTime) (seconds : ℕ) → t.year ≤ 9999 → t.month ≤ 99 → t.day ≤ 99 → t.hour ≤ 99 → t.minute ≤ 99 → t.second ≤ 99 → is_civil t ≡ true → seconds_of t ≡ seconds → ktime_reading (civil_text t) ≡ Ok seconds
written t seconds year month day hour minute second shown is =
    let form = form_back t year month day hour minute second in
    ap (λ f. if f && is_civil (civil_digits (civil_text t)) then Ok (seconds_of (civil_digits (civil_text t))) else Err BadTime) form
    ∙ ap (λ time. if is_civil time then Ok (seconds_of time) else Err BadTime) (digits_back t)
    ∙ ap (λ s. if s then Ok (seconds_of t) else Err BadTime) shown ∙ ap Ok is

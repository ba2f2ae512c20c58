-- Lemmas on the calendar: its days are those of the library.
use Rattle.std.proofs.Common.{◌≡◌, ℕ, zero, suc, ◌+◌, ◌-◌, ◌*◌, ◌/◌, ◌%◌, ◌<◌, ◌≤◌, Bool, true, false, ltb, refl, sym, ap, subst, ◌∙◌, arith, ℤ, pos, negsuc, neg_ℤ, unsigned_abs, ◌+ℤ◌, ◌≤ℤ◌}
use Rattle.std.specs.Prelude.{Some, None, if◌then◌else◌}
use Rattle.std.proofs.lemmas.Bool.Decides.{nat_tests}
use Rattle.std.proofs.lemmas.Int.{by_lt_z}
use Rattle.jiff_core.specs.Calendar as jiff
use Rattle.jiff_core.specs.Date.{epoch_day}
use Rattle.jiff_core.specs.declared.civil.date.Date.{Date}
use Rattle.jiff_core.proofs.SignedLemmas.{signed_arith}
use Rattle.jiff_core.proofs.CalendarLemmas.{day_count-epoch, days_from_civil-day_count, days_of_months-zero, days_of_months_more, day_of_year_bound, day_count-day_of_year, day_count-next_year, day_count-lt_year}
use Rattle.jiff_core.proofs.DateLemmas.{civil}
use Rattle.krb_names.specs.declared.civil.CivilTime.{CivilTime}
use Rattle.krb_names.specs.Calendar.{year_length, month_length, days_of, period_of, is_civil, seconds_of, civil_of, civil_in_year}

years_from : (first n : ℕ) → jiff.day_count (pos (first + n)) 1 1 ≡ jiff.day_count (pos first) 1 1 + days_of year_length first n
unfolding days_of
years_from first zero = let same : first + 0 ≡ first = omega arith in rw same (omega arith)
years_from first (suc n) =
    let same : first + suc n ≡ first + 1 + n = omega arith in
    let next : pos (first + 1) ≡ pos first +ℤ pos 1 = omega (arith, signed_arith) in
    let low : neg_ℤ (pos 10000) ≤ℤ pos first = omega (arith, signed_arith) in
    rw same (omega (arith, years_from (first + 1) n, day_count-next_year (pos first) (pos (first + 1)) low next))

months_from : (year first n : ℕ) → jiff.days_of_months (pos year) (first + n) ≡ jiff.days_of_months (pos year) first + days_of (month_length year) (first + 1) n
unfolding days_of
months_from year first zero = let same : first + 0 ≡ first = omega arith in rw same (omega arith)
months_from year first (suc n) =
    let same : first + suc n ≡ first + 1 + n = omega arith in
    let back : first + 1 - 1 ≡ first = omega arith in
    rw same (omega (arith, months_from year (first + 1) n, rw back at (days_of_months_more (pos year) (first + 1) (omega arith))))

-- the library's day number, from 1970 on
pub civil_day : (year month day : ℕ) → jiff.IsCivilDate (pos year) month day → 1970 ≤ year
    → jiff.days_from_civil (pos year) month day ≡ pos (days_of year_length 1970 (year - 1970) + days_of (month_length year) 1 (month - 1) + (day - 1))
civil_day year month day h later =
    let whole : 1970 + (year - 1970) ≡ year = omega arith in
    let none : 0 + (month - 1) ≡ month - 1 = omega arith in
    let years = rw whole at (years_from 1970 (year - 1970)) in
    let months = rw none at (months_from year 0 (month - 1)) in
    omega (
      arith,
      signed_arith,
      years,
      months,
      days_of_months-zero (pos year),
      day_count-epoch,
      days_from_civil-day_count (pos year) month day,
      day_count-day_of_year (pos year) month day h.2.0,
      h.2.0,
    )

-- the same of a signed year
pub counted : (z : ℤ) (year month day : ℕ) → z ≡ pos year → jiff.IsCivilDate z month day → 1970 ≤ year
    → jiff.days_from_civil z month day ≡ pos (days_of year_length 1970 (year - 1970) + days_of (month_length year) 1 (month - 1) + (day - 1))
counted z year month day e h late =
    let P : ℤ → Type 0 = λ z. jiff.IsCivilDate z month day → jiff.days_from_civil z month day ≡ pos (days_of year_length 1970 (year - 1970) + days_of (month_length year) 1 (month - 1) + (day - 1)) in
    subst P (sym e) (λ shown. civil_day year month day shown late) h

civil_at : (z : ℤ) (year month day : ℕ) → z ≡ pos year → jiff.IsCivilDate z month day → jiff.IsCivilDate (pos year) month day
civil_at z year month day e h = let P : ℤ → Type 0 = λ z. jiff.IsCivilDate z month day in subst P e h

natural : (z : ℤ) → pos 1970 ≤ℤ z → z ≡ pos (unsigned_abs z)
natural (pos n) h = refl
natural (negsuc n) h = absurd (omega (arith, signed_arith))

-- the library does not count a day from 1970 on below 0
pub not_negative : (date : Date) → pos 1970 ≤ℤ date.year → pos 0 ≤ℤ epoch_day date
not_negative date late =
    let year = unsigned_abs date.year in
    let is = natural date.year late in
    omega (arith, signed_arith, counted date.year year date.month date.day is (civil date) (omega (arith, signed_arith)))

-- a day from 1970-01-01 on is of a year from 1970 on
pub late_year : (date : Date) (days : ℕ) → epoch_day date ≡ pos days → pos 1970 ≤ℤ date.year
late_year date days h =
    by_lt_z date.year (pos 1970)
    (λ early. absurd (omega (
      arith,
      signed_arith,
      day_count-epoch,
      h,
      days_from_civil-day_count date.year date.month date.day,
      day_count-lt_year date.year date.month date.day (pos 1970) 1 1 (civil date) (omega arith) early,
    )))
    (λ late. late)

enough : (first n : ℕ) → n ≤ days_of year_length first n
unfolding days_of
enough first zero = omega arith
enough first (suc n) = omega (arith, enough (first + 1) n, at_least_a_day first)
  where
    at_least_a_day : (year : ℕ) → 1 ≤ year_length year
    at_least_a_day year = grind arith

stay : {X : Type 0} (test : Bool) (x y : X) → test ≡ true → (if test then x else y) ≡ x
stay true x y h = refl
stay false x y h = absurd (cc)

pass : {X : Type 0} (test : Bool) (x y : X) → test ≡ false → (if test then x else y) ≡ y
pass true x y h = absurd (cc)
pass false x y h = refl

-- the period in which a day lies
pub period_found : (lengths : ℕ → ℕ) (n first k rest : ℕ) → k ≤ n → rest < lengths (first + k) → period_of lengths n first (days_of lengths first k + rest) ≡ (first + k, rest)
unfolding period_of days_of
period_found lengths zero first zero rest h l =
    let here : first + 0 ≡ first = omega arith in
    let none : 0 + rest ≡ rest = omega arith in
    rw (here, none) refl
period_found lengths (suc n) first zero rest h l =
    let here : first + 0 ≡ first = omega arith in
    let none : 0 + rest ≡ rest = omega arith in
    let fits : rest < lengths first = rw here at l in
    rw (here, none) (stay (ltb rest (lengths first)) (first, rest) _ (grind (arith, nat_tests)))
period_found lengths zero first (suc k) rest h l = absurd (omega arith)
period_found lengths (suc n) first (suc k) rest h l =
    let days = lengths first + days_of lengths (first + 1) k + rest in
    let next : first + suc k ≡ first + 1 + k = omega arith in
    let left : days - lengths first ≡ days_of lengths (first + 1) k + rest = omega arith in
    let more : lengths first ≤ days = omega arith in
    pass (ltb days (lengths first)) (first, days) (period_of lengths n (first + 1) (days - lengths first)) (grind (arith, nat_tests))
    ∙ rw (left, next) (period_found lengths n (first + 1) k rest (omega arith) (rw next at l))

-- the calendar and the clock show a date of the library and a time of day
pub is_shown : (t : CivilTime) → 1970 ≤ t.year → t.year ≤ 9999 → jiff.IsCivilDate (pos t.year) t.month t.day → t.hour < 24 → t.minute < 60 → t.second < 60 → is_civil t ≡ true
is_shown t late early date hour minute second = grind (arith, nat_tests, date.1, date.2)

in_its_year : (year month day : ℕ) → jiff.IsCivilDate (pos year) month day → days_of (month_length year) 1 (month - 1) + (day - 1) < year_length year
in_its_year year month day h =
    let none : 0 + (month - 1) ≡ month - 1 = omega arith in
    let months = rw none at (months_from year 0 (month - 1)) in
    omega (arith, day_of_year_bound (pos year) month day h, months, days_of_months-zero (pos year), h.2.0)

year_found : (year days rest : ℕ) → 1970 ≤ year → days ≡ days_of year_length 1970 (year - 1970) + rest → rest < year_length year → period_of year_length days 1970 days ≡ (year, rest)
year_found year days rest late is inside =
    let whole : 1970 + (year - 1970) ≡ year = omega arith in
    let P : ℕ → Type 0 = λ y. rest < year_length y in
    ap (period_of year_length days 1970) is
    ∙ period_found year_length days 1970 (year - 1970) rest (omega (arith, enough 1970 (year - 1970))) (subst P (sym whole) inside)
    ∙ ap (λ y. (y, rest)) whole

month_found : (year month day : ℕ) → 1 ≤ month → month ≤ 12 → 1 ≤ day → day ≤ month_length year month → period_of (month_length year) 12 1 (days_of (month_length year) 1 (month - 1) + (day - 1)) ≡ (month, day - 1)
month_found year month day first last some most =
    let whole : 1 + (month - 1) ≡ month = omega arith in
    let P : ℕ → Type 0 = λ m. day - 1 < month_length year m in
    let inside : day - 1 < month_length year month = omega (arith, most) in
    period_found (month_length year) 12 1 (month - 1) (day - 1) (omega arith) (subst P (sym whole) inside)
    ∙ ap (λ m. (m, day - 1)) whole

-- the time of day after so many seconds
clock_of : ℕ → ℕ → ℕ → ℕ → CivilTime
clock_of year month day clock = record { year = year; month = month; day = day; hour = clock / 3600; minute = clock / 60 % 60; second = clock % 60 }

-- the calendar shows the library's date
pub date_found : (date : Date) (year seconds : ℕ) → date.year ≡ pos year → epoch_day date ≡ pos (seconds / 86400) → 1970 ≤ year
    → civil_of seconds ≡ record { year = year; month = date.month; day = date.day; hour = seconds % 86400 / 3600; minute = seconds % 86400 / 60 % 60; second = seconds % 86400 % 60 }
unfolding clock_of
date_found date year seconds y e late =
    let shown = civil_at date.year year date.month date.day y (civil date) in
    let rest = days_of (month_length year) 1 (date.month - 1) + (date.day - 1) in
    let whole = sym e ∙ counted date.year year date.month date.day y (civil date) late in
    let days : seconds / 86400 ≡ days_of year_length 1970 (year - 1970) + rest = omega (arith, signed_arith, whole) in
    let in_year = year_found year (seconds / 86400) rest late days (in_its_year year date.month date.day shown) in
    let in_month = month_found year date.month date.day shown.1.0 shown.1.1 shown.2.0 shown.2.1 in
    let day : date.day - 1 + 1 ≡ date.day = omega (arith, shown.2.0) in
    ap (λ found. civil_in_year found (seconds % 86400)) in_year
    ∙ ap (λ found. clock_of year found.0 (found.1 + 1) (seconds % 86400)) in_month
    ∙ ap (λ d. clock_of year date.month d (seconds % 86400)) day

-- and its seconds
pub seconds_found : (date : Date) (year seconds : ℕ) → date.year ≡ pos year → epoch_day date ≡ pos (seconds / 86400) → 1970 ≤ year
    → seconds_of (record { year = year; month = date.month; day = date.day; hour = seconds % 86400 / 3600; minute = seconds % 86400 / 60 % 60; second = seconds % 86400 % 60 }) ≡ seconds
seconds_found date year seconds y e late =
    let whole = sym e ∙ counted date.year year date.month date.day y (civil date) late in
    let days : seconds / 86400 ≡ days_of year_length 1970 (year - 1970) + days_of (month_length year) 1 (date.month - 1) + (date.day - 1) = omega (arith, signed_arith, whole) in
    omega (arith, days)

pub shown_after : (date : Date) (year seconds : ℕ) → date.year ≡ pos year → 1970 ≤ year → year ≤ 9999
    → is_civil (record { year = year; month = date.month; day = date.day; hour = seconds % 86400 / 3600; minute = seconds % 86400 / 60 % 60; second = seconds % 86400 % 60 }) ≡ true
shown_after date year seconds y late early =
    is_shown (record { year = year; month = date.month; day = date.day; hour = seconds % 86400 / 3600; minute = seconds % 86400 / 60 % 60; second = seconds % 86400 % 60 })
    late early (civil_at date.year year date.month date.day y (civil date)) (omega arith) (omega arith) (omega arith)

-- the seconds of a time with the library's date
pub seconds_are : (t : CivilTime) (date : Date) (days : ℕ) → date.year ≡ pos t.year → date.month ≡ t.month → date.day ≡ t.day → epoch_day date ≡ pos days
    → 1970 ≤ t.year → t.year ≤ 9999 → t.hour ≤ 23 → t.minute ≤ 59 → t.second ≤ 59
    → Some (days * 86400 + (t.hour * 3600 + t.minute * 60 + t.second)) ≡ (if is_civil t then Some (seconds_of t) else None)
seconds_are t date days y m d e late early hour minute second =
    let shown : jiff.IsCivilDate (pos t.year) t.month t.day = civil_with (civil date) in
    let whole = sym e ∙ counted date.year t.year date.month date.day y (civil date) late in
    let same = rw (m, d) at whole in
    let count : days ≡ days_of year_length 1970 (t.year - 1970) + days_of (month_length t.year) 1 (t.month - 1) + (t.day - 1) = omega (arith, signed_arith, same) in
    let sum : days * 86400 + (t.hour * 3600 + t.minute * 60 + t.second) ≡ seconds_of t = omega (arith, count) in
    ap Some sum ∙ sym (stay (is_civil t) (Some (seconds_of t)) None (is_shown t late early shown (omega arith) (omega arith) (omega arith)))
  where
    civil_with : jiff.IsCivilDate date.year date.month date.day → jiff.IsCivilDate (pos t.year) t.month t.day
    civil_with h =
        let Year : ℤ → Type 0 = λ z. jiff.IsCivilDate z date.month date.day in
        let Month : ℕ → Type 0 = λ n. jiff.IsCivilDate (pos t.year) n date.day in
        let Day : ℕ → Type 0 = λ n. jiff.IsCivilDate (pos t.year) t.month n in
        subst Day d (subst Month m (subst Year y h))

-- Each second from 1970 to 9999 is written as a text that reads as it.
use Rattle.std.proofs.Common.{◌≡◌, ℕ, zero, suc, ◌+◌, ◌/◌, ◌%◌, ◌<◌, ◌≤◌, ℤ, pos, negsuc, unsigned_abs, ◌+ℤ◌, ◌≤ℤ◌, Ok, refl, sym, ap, ◌∙◌, arith, inl, inr}
use Rattle.std.proofs.lemmas.Bool.{cases_lt}
use Rattle.std.proofs.lemmas.Int.{by_lt_z}
use Rattle.jiff_core.specs.Calendar.{days_from_civil, days_in_month, IsYear}
use Rattle.jiff_core.specs.Date.{epoch_day}
use Rattle.jiff_core.specs.declared.civil.date.Date.{Date}
use Rattle.jiff_core.proofs.CalendarLemmas.{day_count-epoch, days_from_civil-day_count}
use Rattle.jiff_core.proofs.DateLemmas.{days_from_civil-day, days_from_civil-next_month, days_from_civil-next_year, days_from_civil-max}
use Rattle.jiff_core.proofs.SignedLemmas.{signed_arith}
use Rattle.krb_names.specs.Times.{civil_text, ktime_reading, ktime_text}
use Rattle.krb_names.proofs.Calendar.{date_found, late_year, seconds_found, shown_after}
use Rattle.krb_names.proofs.Times.{written}

some_days : (year : ℤ) (month : ℕ) → 1 ≤ days_in_month year month
some_days year month = grind arith

-- the day after
next : (d : Date) (n : ℕ) → epoch_day d ≡ pos n → n < 2932896 → (later : Date) × (epoch_day later ≡ pos (suc n))
next d n is few =
    elim (cases_lt d.day (days_in_month d.year d.month)) [
      | inl lt ↦
          let later : Date = record { year = d.year; month = d.month; day = d.day + 1; year_in = d.year_in; month_in = d.month_in; day_in = (omega arith, omega arith) } in
          (later, omega (arith, signed_arith, is, days_from_civil-day d.year d.month d.day (d.day + 1) d.day_in.0 (omega arith)))
      | inr last ↦
          let whole : d.day ≡ days_in_month d.year d.month = omega (arith, d.day_in.1) in
          elim (cases_lt d.month 12) [
            | inl lt ↦
                let later : Date = record { year = d.year; month = d.month + 1; day = 1; year_in = d.year_in; month_in = (omega arith, omega arith); day_in = (omega arith, some_days d.year (d.month + 1)) } in
                (later, omega (arith, signed_arith, is, days_from_civil-next_month d.year d.month d.day d.month_in.0 whole))
            | inr december ↦
                let twelve : d.month ≡ 12 = omega (arith, d.month_in.1) in
                new_year d.year d.month d.day n d.year_in twelve (whole ∙ ap (days_in_month d.year) twelve) is few
          ]
    ]
  where
    new_year : (year : ℤ) (month day n : ℕ) → IsYear year → month ≡ 12 → day ≡ 31 → days_from_civil year month day ≡ pos n → n < 2932896 → (later : Date) × (epoch_day later ≡ pos (suc n))
    new_year year month day n range twelve last is few =
        let at : days_from_civil year 12 31 ≡ pos n = ap (λ (m : ℕ). days_from_civil year m 31) (sym twelve) ∙ ap (days_from_civil year month) (sym last) ∙ is in
        let early : (year +ℤ pos 1) ≤ℤ pos 9999 =
        by_lt_z year (pos 9999) (λ lt. omega (arith, signed_arith, lt)) (λ ge.
        let same : year ≡ pos 9999 = omega (arith, signed_arith, ge, range.1) in
        let top : days_from_civil (pos 9999) 12 31 ≡ pos n = ap (λ (z : ℤ). days_from_civil z 12 31) (sym same) ∙ at in
        absurd (omega (arith, signed_arith, top, days_from_civil-max, few))) in
        let later : Date = record { year = year +ℤ pos 1; month = 1; day = 1; year_in = (omega (arith, signed_arith, range.0), early); month_in = (omega arith, omega arith); day_in = (omega arith, some_days (year +ℤ pos 1) 1) } in
        (later, omega (arith, signed_arith, at, days_from_civil-next_year year (year +ℤ pos 1) (omega (arith, signed_arith, range.0)) refl))

-- the calendar has each day
date_of : (n : ℕ) → n ≤ 2932896 → (d : Date) × (epoch_day d ≡ pos n)
date_of zero le =
    let first : Date = record { year = pos 1970; month = 1; day = 1; year_in = (omega (arith, signed_arith), omega (arith, signed_arith)); month_in = (omega arith, omega arith); day_in = (omega arith, some_days (pos 1970) 1) } in
    (first, omega (arith, signed_arith, day_count-epoch, days_from_civil-day_count (pos 1970) 1 1))
date_of (suc n) le = let before = date_of n (omega arith) in next before.0 n before.1 (omega arith)

natural : (z : ℤ) → pos 1970 ≤ℤ z → z ≡ pos (unsigned_abs z)
natural (pos n) h = refl
natural (negsuc n) h = absurd (omega (arith, signed_arith))

few_days : (year : ℤ) (month : ℕ) → days_in_month year month ≤ 31
few_days year month = grind arith

of_date : (date : Date) (seconds : ℕ) → epoch_day date ≡ pos (seconds / 86400) → ktime_reading (ktime_text seconds) ≡ Ok seconds
of_date date seconds day =
    let late = late_year date (seconds / 86400) day in
    let year : ℕ = unsigned_abs date.year in
    let y : date.year ≡ pos year = natural date.year late in
    let from : 1970 ≤ year = omega (arith, signed_arith, late, y) in
    let early : year ≤ 9999 = omega (arith, signed_arith, y, date.year_in.1) in
    let shown = shown_after date year seconds y from early in
    let is = seconds_found date year seconds y day from in
    let read = written (record { year = year; month = date.month; day = date.day; hour = seconds % 86400 / 3600; minute = seconds % 86400 / 60 % 60; second = seconds % 86400 % 60 })
    seconds early (omega (arith, date.month_in.1)) (omega (arith, date.day_in.1, few_days date.year date.month)) (omega arith) (omega arith) (omega arith) shown is in
    ap (λ t. ktime_reading (civil_text t)) (date_found date year seconds y day from) ∙ read

pub written_again : (seconds : ℕ) → seconds ≤ 253402300799 → ktime_reading (ktime_text seconds) ≡ Ok seconds
written_again seconds le = let d = date_of (seconds / 86400) (omega arith) in of_date d.0 seconds d.1

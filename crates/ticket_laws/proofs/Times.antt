-- Times that were read.
use Rattle.std.proofs.Common.{◌≡◌, ℕ, ◌<◌, ◌≤◌, Bool, true, false, cond, ◌&&◌, List, pos, Result, Ok, Err, refl, arith}
use Rattle.std.proofs.lemmas.Bool.Decides.{nat_tests}
use Rattle.jiff_core.specs.Calendar as jiff
use Rattle.jiff_core.specs.declared.civil.date.Date.{Date}
use Rattle.jiff_core.proofs.DateLemmas.{epoch_day_range}
use Rattle.jiff_core.proofs.SignedLemmas.{signed_arith}
use Rattle.krb_names.specs.declared.refusal.NameRefusal.{NameRefusal}
use Rattle.krb_names.specs.declared.refusal.NameRefusal.TheVariants.{BadTime}
use Rattle.krb_names.specs.Calendar.{is_civil, seconds_of, month_length}
use Rattle.krb_names.specs.Times.{has_time_form, civil_digits, ktime_reading}
use Rattle.krb_names.proofs.Calendar.{civil_day}

-- what the calendar and the clock show is of a second before the year 10000
early : (year month day hour minute second : ℕ) → is_civil (record { year = year; month = month; day = day; hour = hour; minute = minute; second = second }) ≡ true
    → seconds_of (record { year = year; month = month; day = day; hour = hour; minute = minute; second = second }) ≤ 253402300799
early year month day hour minute second h =
    let from : 1970 ≤ year = grind (arith, nat_tests, h) in
    let to : year ≤ 9999 = grind (arith, nat_tests, h) in
    let first : 1 ≤ month = grind (arith, nat_tests, h) in
    let last : month ≤ 12 = grind (arith, nat_tests, h) in
    let some : 1 ≤ day = grind (arith, nat_tests, h) in
    let most : day ≤ month_length year month = grind (arith, nat_tests, h) in
    let hours : hour < 24 = grind (arith, nat_tests, h) in
    let minutes : minute < 60 = grind (arith, nat_tests, h) in
    let seconds : second < 60 = grind (arith, nat_tests, h) in
    let is : jiff.IsCivilDate (pos year) month day = ((omega (arith, signed_arith), omega (arith, signed_arith)), (first, last), (some, most)) in
    let date : Date = record { year = pos year; month = month; day = day; year_in = is.0; month_in = is.1; day_in = is.2 } in
    let days = civil_day year month day is from in
    let range = epoch_day_range date in
    omega (arith, signed_arith, days, range)

given : ℕ → Result ℕ NameRefusal
given seconds = Ok seconds

shown_in : (form civil : Bool) (n seconds : ℕ) → cond (form && civil) (given n) (Err BadTime) ≡ Ok seconds → (civil ≡ true) × (n ≡ seconds)
unfolding given
shown_in true true n seconds e = (refl, cc)
shown_in true false n seconds e = absurd cc
shown_in false civil n seconds e = absurd cc

pub time_early : (text : List ℕ) (seconds : ℕ) → ktime_reading text ≡ Ok seconds → seconds ≤ 253402300799
unfolding given
time_early text seconds e =
    let shown = shown_in (has_time_form text) (is_civil (civil_digits text)) (seconds_of (civil_digits text)) seconds e in
    let t = civil_digits text in
    omega (arith, early t.year t.month t.day t.hour t.minute t.second shown.0, shown.1)

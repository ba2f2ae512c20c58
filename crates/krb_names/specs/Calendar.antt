-- The Gregorian calendar and the clock, in UTC, from 1970 on (ISO 8601).
use Rattle.std.specs.Prelude.{ℕ, zero, suc, ◌+◌, ◌-◌, ◌*◌, ◌/◌, ◌%◌, ◌==◌, ◌&&◌, ◌||◌, nat_le, nat_lt, not, Bool, if◌then◌else◌}
use Rattle.krb_names.specs.declared.civil.CivilTime.{CivilTime}

-- every fourth year, but of the centuries only every fourth
abbrev pub is_leap_year : ℕ → Bool
is_leap_year year = (year % 4 == 0) && (not (year % 100 == 0) || (year % 400 == 0))

abbrev pub year_length : ℕ → ℕ
year_length year = if is_leap_year year then 366 else 365

-- thirty days have September, April, June and November
abbrev pub month_length : ℕ → ℕ → ℕ
month_length year month =
    if month == 2 then (if is_leap_year year then 29 else 28)
    else (if (month == 4) || (month == 6) || (month == 9) || (month == 11) then 30 else 31)

-- the days of n periods (years, or months of a year) from the first on
unfoldable pub days_of : (ℕ → ℕ) → ℕ → ℕ → ℕ
days_of lengths first zero = 0
days_of lengths first (suc n) = lengths first + days_of lengths (first + 1) n

-- the calendar and the clock show it; there is no second 60
abbrev pub is_civil : CivilTime → Bool
is_civil t =
    nat_le 1970 t.year && nat_le t.year 9999 && nat_le 1 t.month && nat_le t.month 12 && nat_le 1 t.day && nat_le t.day (month_length t.year t.month)
    && nat_lt t.hour 24 && nat_lt t.minute 60 && nat_lt t.second 60

-- whole days since 1970-01-01
abbrev pub day_number : CivilTime → ℕ
day_number t = days_of year_length 1970 (t.year - 1970) + days_of (month_length t.year) 1 (t.month - 1) + (t.day - 1)

-- seconds since 1970-01-01T00:00:00
abbrev pub seconds_of : CivilTime → ℕ
seconds_of t = day_number t * 86400 + t.hour * 3600 + t.minute * 60 + t.second

-- the period in which the day lies that many days after the start of `first`, and the days of that period before it; at most n periods are passed
unfoldable pub period_of : (ℕ → ℕ) → ℕ → ℕ → ℕ → ℕ × ℕ
period_of lengths zero first days = (first, days)
period_of lengths (suc n) first days = if nat_lt days (lengths first) then (first, days) else period_of lengths n (first + 1) (days - lengths first)

-- a second of a day of a year
abbrev pub civil_in_year : ℕ × ℕ → ℕ → CivilTime
civil_in_year day clock =
    let month = period_of (month_length day.0) 12 1 day.1 in
    record { year = day.0; month = month.0; day = month.1 + 1; hour = clock / 3600; minute = clock / 60 % 60; second = clock % 60 }

-- the time that the calendar and the clock show after so many seconds
abbrev pub civil_of : ℕ → CivilTime
civil_of seconds = civil_in_year (period_of year_length (seconds / 86400) 1970 (seconds / 86400)) (seconds % 86400)

-- KerberosTime (RFC 4120, section 5.2.3): a GeneralizedTime in UTC and whole seconds.
use Rattle.std.specs.Prelude.{ℕ, ◌+◌, ◌-◌, ◌*◌, ◌/◌, ◌%◌, ◌<◌, ◌==◌, ◌&&◌, Bool, List, [], ◌∷◌, ◌++◌, take, length, slice_index, if◌then◌else◌, Result, Ok, Err}
use Rattle.std.specs.List.{list_all}
use Rattle.std.specs.Int.{IsInRange}
use Rattle.std.specs.Char.{is_ascii_digit}
use Rattle.krb_names.specs.declared.refusal.NameRefusal.{NameRefusal}
use Rattle.krb_names.specs.declared.refusal.NameRefusal.TheVariants.{BadTime}
use Rattle.krb_names.specs.declared.civil.CivilTime.{CivilTime}
use Rattle.krb_names.specs.Calendar.{is_civil, seconds_of, civil_of}

-- 14 digits and `Z`
abbrev pub has_time_form : List ℕ → Bool
has_time_form text = length text == 15 && list_all is_ascii_digit (take 14 text) && slice_index text 14 == 90

-- the first 14 bytes are digits
abbrev pub BeginsWithDigits : List ℕ → Type 0
BeginsWithDigits text = (place : ℕ) → place < 14 → IsInRange 48 57 (slice_index text place)

-- the number that two digits write
abbrev pub two_digits : List ℕ → ℕ → ℕ
two_digits text place = (slice_index text place - 48) * 10 + (slice_index text (place + 1) - 48)

-- `YYYYMMDDHHMMSS`
abbrev pub civil_digits : List ℕ → CivilTime
civil_digits text = record {
  year = two_digits text 0 * 100 + two_digits text 2;
  month = two_digits text 4;
  day = two_digits text 6;
  hour = two_digits text 8;
  minute = two_digits text 10;
  second = two_digits text 12;
}

-- the seconds since 1970 of a time that the calendar has from then on
abbrev pub ktime_reading : List ℕ → Result ℕ NameRefusal
ktime_reading text = if has_time_form text && is_civil (civil_digits text) then Ok (seconds_of (civil_digits text)) else Err BadTime

-- a number below 100
abbrev pub in_two_digits : ℕ → List ℕ
in_two_digits n = (48 + n / 10) ∷ (48 + n % 10) ∷ []

abbrev pub civil_text : CivilTime → List ℕ
civil_text t =
    in_two_digits (t.year / 100) ++ in_two_digits (t.year % 100) ++ in_two_digits t.month ++ in_two_digits t.day
    ++ in_two_digits t.hour ++ in_two_digits t.minute ++ in_two_digits t.second ++ 90 ∷ []

-- `YYYYMMDDHHMMSSZ` of so many seconds since 1970
abbrev pub ktime_text : ℕ → List ℕ
ktime_text seconds = civil_text (civil_of seconds)
